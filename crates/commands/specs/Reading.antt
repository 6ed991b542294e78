-- Files that a command reads, and why they cannot be read, or not as what they should be.
use Rattle.std.specs.Prelude.{◌≡◌, ◌≢◌, ◌≤◌, ℕ, length}
use Rattle.std.specs.Borrow.{Bor}
use Rattle.text_model.specs.Texts.{Text}
use Rattle.files.specs.Found.{Found, Disk, Absent, Gives, IsLong, OfFile}
use Rattle.files.specs.Changes.{Unchanged}
use Rattle.files.specs.declared.call.FileCall.{FileCall}
use Rattle.files.specs.declared.call.FileCall.TheVariants.{Read}
use Rattle.rule_parser.specs.Grammar.{IsRuleText}
use Rattle.rule_parser.specs.Rules.{RuleSet}
use Rattle.rule_parser.specs.declared.error.RuleErrorKind.TheVariants as rule
use Rattle.code_file.specs.declared.error.CodeErrorKind.TheVariants as code
use Rattle.verifier.specs.declared.error.LoadError.TheVariants as load
use Rattle.kbart_rows.specs.RandomKeys.{IsDrawn}
use Rattle.kbart_rows.specs.declared.error.TableError.TheVariants as table
use Rattle.kbart_rows.specs.declared.keys.Keys.{Keys}
use Rattle.answers.specs.Reading.{IsNoRules}
use Rattle.answers.specs.declared.refusal.Refusal.{Refusal}
use Rattle.answers.specs.declared.refusal.Refusal.TheVariants.{Rules, Code, Load, Table, Memory}
use Rattle.commands.specs.declared.fault.Fault.{Fault}
use Rattle.commands.specs.declared.fault.Fault.TheVariants.{Refused, Device}

-- what is read as a file of a kind: how many bytes it may have, and the error of one that has more
pub record Kind : Type 0 where
  pub limit : ℕ
  pub too_long : Refusal

abbrev pub rule_file : Kind
rule_file = record { limit = 65536; too_long = Rules (record { kind = rule.TooLong; line = 0 }) }

-- a code file, as `show` and `upgrade` read it
abbrev pub code_file : Kind
code_file = record { limit = 65536; too_long = Code (record { kind = code.TooLong; at = 65536 }) }

-- a code file, as `verify` and `run` load it
abbrev pub loaded_file : Kind
loaded_file = record { limit = 65536; too_long = Load (load.Code code.TooLong 65536) }

abbrev pub table_file : Kind
table_file = record { limit = 16777216; too_long = Table table.TooLong }

-- the file of the rules is at the path
abbrev pub HasRules : Found → RuleSet → Type 0
HasRules found rules = OfFile found (λ bytes. IsRuleText bytes rules)

module _ {F : Type 0} (at : F → Disk) (fails runs_out : F → FileCall → Text → F → Type 0) (old new : F) where
  -- the call failed; or the file is too long; or the call ran out of memory, which is never reported for a file that does not exist
  pub data IsUnread (kind : Kind) (path : Bor Text) : Fault → Type 0 where
    no_read : fails old Read path.now new → IsUnread kind path (Device path)
    long : IsLong kind.limit (at old path.now) → IsUnread kind path (Refused kind.too_long)
    no_memory : at old path.now ≢ Absent → runs_out old Read path.now new → IsUnread kind path (Refused Memory)

  -- the file cannot be read, or its bytes are not a rule text
  pub data IsUnruled (path : Bor Text) : Fault → Type 0 where
    unread : (fault : Fault) → IsUnread rule_file path fault → IsUnruled path fault
    no_rules : (bytes : Text) (e : Refusal) → Gives (at old path.now) bytes → IsNoRules bytes e → IsUnruled path (Refused e)

-- the rules of a target are at the first path; the bytes of its table are at the second, and then keys were drawn
pub record IsTarget {K : Type 0} (draws : K → ℕ → ℕ → K → Type 0) (disk : Disk) (first last : K) (rules table : Bor Text) (set : RuleSet) (bytes : Text)
    (keys : Keys) : Type 0 where
  pub ruled : HasRules (disk rules.now) set
  pub gives : Gives (disk table.now) bytes
  pub drawn : IsDrawn draws first keys last

module _ {F K : Type 0} (at : F → Disk) (fails runs_out : F → FileCall → Text → F → Type 0) (no_keys : K → K → Type 0) where
  -- the file of a table cannot be read, and no keys are drawn; or it was read, and then no keys could be drawn
  pub data IsUnkeyed (old new : F) (first last : K) (path : Bor Text) : Fault → Type 0 where
    unread : (fault : Fault) → IsUnread at fails runs_out old new table_file path fault → last ≡ first → IsUnkeyed old new first last path fault
    keyless : OfFile (at old path.now) (λ bytes. length bytes ≤ 16777216) → no_keys first last → IsUnkeyed old new first last path (Device path)

  -- the files of a target cannot be read: the rules, and no keys are drawn; or, after the rules, the table
  pub data IsNoTarget (old new : F) (first last : K) (rules table : Bor Text) : Fault → Type 0 where
    no_rules : (fault : Fault) → IsUnruled at fails runs_out old new rules fault → last ≡ first → IsNoTarget old new first last rules table fault
    no_table : (between : F) (set : RuleSet) (fault : Fault) → HasRules (at old rules.now) set → Unchanged (at old) (at between)
        → IsUnkeyed between new first last table fault → IsNoTarget old new first last rules table fault
