-- What the program does with its arguments.
use Rattle.std.specs.Prelude.{◌≡◌, ℕ, List, Option, Some, None, Result, Ok}
use Rattle.std.specs.Borrow.{Bor}
use Rattle.text_model.specs.Texts.{Text, texts_of}
use Rattle.files.specs.Changes.{Unchanged}
use Rattle.kbart_rows.specs.declared.keys.Keys.{Keys}
use Rattle.rule_parser.specs.Rules.{RuleSet}
use Rattle.registry.specs.Targets.{TargetValue}
use Rattle.answers.specs.Code.{IsCodeOf}
use Rattle.answers.specs.Expansion.{IsExpansionOf, names_of}
use Rattle.answers.specs.Findings.{IsInspectionOf, IsLintOf, Report}
use Rattle.answers.specs.Link.{IsLinkOf}
use Rattle.answers.specs.Listing.{IsListingOf}
use Rattle.answers.specs.Menu.{IsMenuOf}
use Rattle.answers.specs.Run.{IsRunLinkOf}
use Rattle.answers.specs.Source.{AreLinksOf, IsReadingOf}
use Rattle.answers.specs.Upgrade.{IsUpgradeOf}
use Rattle.answers.specs.Verdict.{IsVerdictOf}
use Rattle.answers.specs.declared.refusal.Refusal.{Refusal}
use Rattle.commands.specs.World.{Told}
use Rattle.commands.specs.Arguments.{AreArgumentsOf, AreNoArguments}
use Rattle.commands.specs.Faults.{status_of, out_of_memory}
use Rattle.commands.specs.Reading.{Kind, rule_file, code_file, loaded_file}
use Rattle.commands.specs.Answers.{Answered, Makes, Resolves, Tells, TellsKeyed, TellsOfTarget}
use Rattle.commands.specs.Output.{Output, Prints, Reports}
use Rattle.commands.specs.Explaining.{Explains}
use Rattle.commands.specs.Serving.{Serves}
use Rattle.commands.specs.declared.help.TheConstants.{HELP, VERSION}
use Rattle.commands.specs.declared.fault.Fault.{Fault}
use Rattle.commands.specs.declared.fault.Fault.TheVariants.{Usage}
use Rattle.commands.specs.declared.arguments.Command.{Command}
use Rattle.commands.specs.declared.arguments.Command.TheVariants.{Expand, Link, Compile, Verify, Show, Upgrade, Run, Inspect, Lint, Explain, Resolve, Serve}
use Rattle.commands.specs.declared.arguments.Command.TheVariants.{Read, Find, Help, Version}

-- the exit status: 0 if there is no error
abbrev pub status_of_end : Option Fault → ℕ
status_of_end None = 0
status_of_end (Some fault) = status_of fault

module _ {System : Type 0} (told : Told System) (old new : System) (output notes : Output) where
  -- what is answered to a file, to a table with keys, to a target, and to a registry; and what is made of a file
  abbrev tells : Kind → (Text → Result Text Refusal → Type 0) → Bor Text → Result Text Fault → Type 0
  tells = Tells told.at told.fails told.runs_out (told.files old) (told.files new)

  abbrev tells_keyed : (Text → Keys → Result Report Refusal → Type 0) → Bor Text → Result Report Fault → Type 0
  tells_keyed = TellsKeyed told.at told.fails told.runs_out told.draws told.no_keys (told.files old) (told.files new) (told.keys old) (told.keys new)

  abbrev tells_of_target : (RuleSet → Text → Keys → Result Report Refusal → Type 0) → Bor Text → Bor Text → Result Report Fault → Type 0
  tells_of_target = TellsOfTarget told.at told.fails told.runs_out told.draws told.no_keys (told.files old) (told.files new) (told.keys old) (told.keys new)

  abbrev resolves : (List TargetValue → Result Text Refusal → Type 0) → Bor Text → Result Text Fault → Type 0
  resolves = Resolves told.at told.fails told.runs_out told.draws told.no_keys (told.files old) (told.files new) (told.keys old) (told.keys new)

  abbrev explains : Bor Text → Bor Text → Text → Output → Option Fault → Type 0
  explains = Explains told.at told.fails told.runs_out told.draws told.no_keys (told.files old) (told.files new) (told.keys old) (told.keys new)

  abbrev makes : Kind → (Text → Result Text Refusal → Type 0) → Bor Text → Bor Text → Result Text Fault → Type 0
  makes = Makes told.at told.fails told.runs_out (told.files old) (told.files new) told.mode_at

  -- how each command ends
  abbrev pub Ends : Command → Option Fault → Type 0
  Ends (Expand e) = Prints (Answered (IsExpansionOf (names_of (texts_of e.options.now)) e.template.now e.query.now)) output
  Ends (Link rules query) = Prints (tells rule_file (λ bytes. IsLinkOf bytes query.now) rules) output
  Ends (Compile rules code) = Prints (makes rule_file IsCodeOf rules code) output
  Ends (Verify code) = Prints (tells loaded_file IsVerdictOf code) output
  Ends (Show code) = Prints (tells code_file IsListingOf code) output
  Ends (Upgrade source target) = Prints (makes code_file IsUpgradeOf source target) output
  Ends (Run code query) = Prints (tells loaded_file (λ bytes. IsRunLinkOf bytes query.now) code) output
  Ends (Inspect table) = Reports (tells_keyed IsInspectionOf table) output
  Ends (Lint rules table) = Reports (tells_of_target IsLintOf rules table) output
  Ends (Explain rules table query) = explains rules table query.now output
  Ends (Resolve registry query) = Prints (resolves (λ targets. IsMenuOf targets query.now) registry) output
  Ends (Read query) = Prints (Answered (IsReadingOf query.now)) output
  Ends (Find registry query) = Prints (resolves (λ targets. AreLinksOf targets query.now) registry) output
  Ends (Serve service) = Serves told old service new output notes
  Ends Help = Prints (λ answer. answer ≡ Ok HELP.now) output
  Ends Version = Prints (λ answer. answer ≡ Ok VERSION.now) output

  -- what each command leaves of the files: only `compile` and `upgrade` change one, as `Makes` says
  abbrev pub Leaves : Command → Type 0
  Leaves (Compile rules code) = Unit {0}
  Leaves (Upgrade source target) = Unit {0}
  Leaves command = Unchanged (told.at (told.files old)) (told.at (told.files new))

  -- what each command prints on standard error before its error: only `serve` does, as `Serves` says
  abbrev pub Notes : Command → Type 0
  Notes (Serve service) = Unit {0}
  Notes command = notes.gets_nothing

  -- what each command leaves of the ports: only `serve` binds one, as `Serves` says
  abbrev pub LeavesPorts : Command → Type 0
  LeavesPorts (Serve service) = Unit {0}
  LeavesPorts command = told.ports new ≡ told.ports old

  abbrev pub Runs : Command → Option Fault → Type 0
  Runs command end = Ends command end × Leaves command × Notes command × LeavesPorts command

  -- how the program ends: the arguments name no command, and nothing is done, or this is how their command ends
  pub data EndsWith (given : List Text) : Option Fault → Type 0 where
    no_command : AreNoArguments given → new ≡ old → output.gets_nothing → notes.gets_nothing → EndsWith given (Some Usage)
    runs : (command : Command) (end : Option Fault) → AreArgumentsOf given command → Runs command end → EndsWith given end

-- how the process ends with these arguments: memory runs out before a command runs, or this is how the program ends, with these notes on standard error
pub data HasEnded {System E : Type 0} (told : Told System) (old new : System) (output : Output) (notes : E → Output) (given : List Text)
    : Option Fault → Type 0 where
  no_memory : new ≡ old → output.gets_nothing → HasEnded told old new output notes given (Some out_of_memory)
  ended : (noted : E) (end : Option Fault) → EndsWith told old new output (notes noted) given end → HasEnded told old new output notes given end
