-- What a command answers, from the files that it reads. Parameters: what is said about calls on files and keys; both before the command, and after it.
use Rattle.std.specs.Prelude.{◌≡◌, ℕ, List, Result, Ok, Err}
use Rattle.std.specs.Borrow.{Bor}
use Rattle.text_model.specs.Texts.{Text}
use Rattle.files.specs.Found.{Disk, Gives}
use Rattle.files.specs.Changes.{Unchanged}
use Rattle.files.specs.Modes.{Modes}
use Rattle.files.specs.declared.call.FileCall.{FileCall}
use Rattle.kbart_rows.specs.RandomKeys.{IsDrawn}
use Rattle.kbart_rows.specs.declared.keys.Keys.{Keys}
use Rattle.rule_parser.specs.Rules.{RuleSet}
use Rattle.registry.specs.Targets.{TargetValue}
use Rattle.registry_file.specs.Loading.{IsLoaded, IsNotLoaded, fails_on}
use Rattle.registry_file.specs.declared.error.RegistryError.{RegistryError}
use Rattle.answers.specs.declared.refusal.Refusal.{Refusal}
use Rattle.commands.specs.Faults.{registry_fault}
use Rattle.commands.specs.Reading.{Kind, IsTarget, IsNoTarget, IsUnread, IsUnkeyed}
use Rattle.commands.specs.Placing.{Places}
use Rattle.commands.specs.declared.fault.Fault.{Fault}
use Rattle.commands.specs.declared.fault.Fault.TheVariants.{Refused}

-- the answer to what was read, as the program's
pub data Answered {A : Type 0} (Answers : Result A Refusal → Type 0) : Result A Fault → Type 0 where
  refused : (e : Refusal) → Answers (Err e) → Answered Answers (Err (Refused e))
  answered : (a : A) → Answers (Ok a) → Answered Answers (Ok a)

module _ {F : Type 0} (at : F → Disk) (fails runs_out : F → FileCall → Text → F → Type 0) (old new : F) where
  -- the file at the path is read, and this is the answer to its bytes
  pub data Tells {A : Type 0} (kind : Kind) (Answers : Text → Result A Refusal → Type 0) (path : Bor Text) : Result A Fault → Type 0 where
    unread : (fault : Fault) → IsUnread at fails runs_out old new kind path fault → Tells kind Answers path (Err fault)
    read : (bytes : Text) (end : Result A Fault) → Gives (at old path.now) bytes → Answered (Answers bytes) end → Tells kind Answers path end

  -- the file at the source is read, and a file of the answer to its bytes is placed at the target
  pub data Makes (mode_at : F → Modes) (kind : Kind) (Answers : Text → Result Text Refusal → Type 0) (source target : Bor Text)
      : Result Text Fault → Type 0 where
    not_made : (fault : Fault) → Tells kind Answers source (Err fault) → Unchanged (at old) (at new) → Makes mode_at kind Answers source target (Err fault)
    made : (between : F) (bytes file : Text) (end : Result Text Fault) → Gives (at old source.now) bytes → Answers bytes (Ok file)
        → Unchanged (at old) (at between) → Places at mode_at fails runs_out between new target file end → Makes mode_at kind Answers source target end

module _ {F K : Type 0} (at : F → Disk) (fails runs_out : F → FileCall → Text → F → Type 0) (draws : K → ℕ → ℕ → K → Type 0) (no_keys : K → K → Type 0)
    (old new : F) (first last : K) where
  -- the table at the path is read, keys are drawn, and this is the answer to both
  pub data TellsKeyed {A : Type 0} (Answers : Text → Keys → Result A Refusal → Type 0) (path : Bor Text) : Result A Fault → Type 0 where
    unkeyed : (fault : Fault) → IsUnkeyed at fails runs_out no_keys old new first last path fault → TellsKeyed Answers path (Err fault)
    read : (bytes : Text) (keys : Keys) (end : Result A Fault) → Gives (at old path.now) bytes → IsDrawn draws first keys last
        → Answered (Answers bytes keys) end → TellsKeyed Answers path end

  -- the rules and the table of a target are read, and this is the answer to both
  pub data TellsOfTarget {A : Type 0} (Answers : RuleSet → Text → Keys → Result A Refusal → Type 0) (rules table : Bor Text) : Result A Fault → Type 0 where
    no_target : (fault : Fault) → IsNoTarget at fails runs_out no_keys old new first last rules table fault → TellsOfTarget Answers rules table (Err fault)
    read : (set : RuleSet) (bytes : Text) (keys : Keys) (end : Result A Fault) → IsTarget draws (at old) first last rules table set bytes keys
        → Answered (Answers set bytes keys) end → TellsOfTarget Answers rules table end

  -- the registry file at the path, or a file that it names, cannot be loaded
  pub record IsNoRegistry (path : Bor Text) (fault : Fault) : Type 0 where
    pub error : RegistryError
    pub cause : IsNotLoaded (fails_on at fails (at old)) draws no_keys (at old) first path.now last error
    pub same : fault ≡ registry_fault path error

  -- the registry file at the path and the files that it names are loaded, and this is the answer to its targets
  pub data Resolves {A : Type 0} (Answers : List TargetValue → Result A Refusal → Type 0) (path : Bor Text) : Result A Fault → Type 0 where
    no_registry : (fault : Fault) → IsNoRegistry path fault → Resolves Answers path (Err fault)
    loaded : (targets : List TargetValue) (end : Result A Fault) → IsLoaded draws (at old) first path.now last targets → Answered (Answers targets) end
        → Resolves Answers path end
