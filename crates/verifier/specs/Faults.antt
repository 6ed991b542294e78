-- Why bytes cannot be loaded.
use Rattle.std.specs.Prelude.{◌≡◌, ℕ, Some}
use Rattle.text_model.specs.Texts.{Text}
use Rattle.code_model.specs.Code.{Code}
use Rattle.code_file.specs.Grammar.{IsCodeFile}
use Rattle.code_file.specs.Fault.{IsFirstFault}
use Rattle.code_file.specs.declared.error.CodeError.{CodeError}
use Rattle.code_file.specs.declared.error.CodeErrorKind.{CodeErrorKind}
use Rattle.code_file.specs.declared.error.CodeErrorKind.TheVariants as kind
use Rattle.machine_model.specs.declared.form.FormFault.{FormFault}
use Rattle.machine_model.specs.declared.form.FormFault.TheVariants as fault
use Rattle.machine_model.specs.First.{Located}
use Rattle.machine_model.specs.Form.{HasGoodForm, first_form_fault}
use Rattle.machine_model.specs.Mismatch.{IsFirstMismatch}
use Rattle.verifier.specs.declared.error.LoadError.{LoadError}
use Rattle.verifier.specs.declared.error.LoadError.TheVariants as load

-- an error of form, with its place
abbrev pub form_error : Located FormFault → LoadError
form_error f = of_form f.what f.place
  where
    of_form : FormFault → ℕ → LoadError
    of_form fault.UnknownOp place = load.UnknownOp place
    of_form fault.BadField place = load.BadField place
    of_form fault.BadRegister place = load.BadRegister place
    of_form fault.BadIndex place = load.BadIndex place
    of_form fault.WrongTableKind place = load.WrongTableKind place
    of_form fault.JumpNotForward place = load.JumpNotForward place
    of_form fault.JumpOut place = load.JumpOut place
    of_form fault.CrossesLoop place = load.CrossesLoop place
    of_form fault.NestedLoop place = load.NestedLoop place
    of_form fault.BadLoop place = load.BadLoop place
    of_form fault.StrayNext place = load.StrayNext place
    of_form fault.StraySep place = load.StraySep place
    of_form fault.FallsOff place = load.FallsOff place

-- the need at a place that is not met, and the register
abbrev pub mismatch_error : Located ℕ → LoadError
mismatch_error m = load.KindMismatch m.place m.what

-- The first error, in this order: of the file, of form, of kinds.
pub data IsLoadFault (bytes : Text) : LoadError → Type 0 where
  no_code : (e : CodeError) → IsFirstFault bytes e → IsLoadFault bytes (load.Code e.kind e.at)
  bad_form : (c : Code) (f : Located FormFault) → IsCodeFile bytes c → first_form_fault c ≡ Some f → IsLoadFault bytes (form_error f)
  mismatch : (c : Code) (m : Located ℕ) → IsCodeFile bytes c → HasGoodForm c → IsFirstMismatch c m → IsLoadFault bytes (mismatch_error m)
  no_memory : (c : Code) → IsCodeFile bytes c → IsLoadFault bytes load.NoMemory

-- the same for code that was read
pub data IsCodeRefusal (c : Code) : LoadError → Type 0 where
  bad_form : (f : Located FormFault) → first_form_fault c ≡ Some f → IsCodeRefusal c (form_error f)
  mismatch : (m : Located ℕ) → HasGoodForm c → IsFirstMismatch c m → IsCodeRefusal c (mismatch_error m)
  no_memory : IsCodeRefusal c load.NoMemory

-- an error of reading as an error of loading
abbrev pub read_error : CodeError → LoadError
read_error e = of_kind e.kind e.at
  where
    of_kind : CodeErrorKind → ℕ → LoadError
    of_kind kind.NoMemory at = load.NoMemory
    of_kind k at = load.Code k at
