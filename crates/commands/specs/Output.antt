-- What a command prints of its answer.
use Rattle.std.specs.Prelude.{◌≡◌, ℕ, List, codes, Option, Some, None, Result, Ok, Err, true, false}
use Rattle.std.specs.Borrow.{Bor}
use Rattle.std.specs.Io.KnownBytes.{Appends}
use Rattle.text_model.specs.Texts.{Text}
use Rattle.files.specs.Writing.{IsWrittenInPart}
use Rattle.answers.specs.Findings.{Report}
use Rattle.commands.specs.declared.fault.Fault.{Fault}
use Rattle.commands.specs.declared.fault.Fault.TheVariants.{Warning, Device}

-- how a command ends: with an error, or with none
abbrev pub end_of : Result (Unit {0}) Fault → Option Fault
end_of (Ok done) = None
end_of (Err fault) = Some fault

-- the output of a command
pub record Output : Type 1 where
  -- this was printed
  pub gets : Text → Type 0
  -- a beginning of this was printed
  pub gets_part : Text → Type 0
  -- nothing was printed
  pub gets_nothing : Type 0

abbrev pub output_of : {O : Type 0} → (O → Option (List ℕ)) → O → O → Output
output_of contents old new = record {
  gets = Appends (contents old) (contents new);
  gets_part = IsWrittenInPart (contents old) (contents new);
  gets_nothing = new ≡ old;
}

-- the answer is printed, if there is one
pub data Prints (Answers : Result Text Fault → Type 0) (output : Output) : Option Fault → Type 0 where
  fails : (fault : Fault) → Answers (Err fault) → output.gets_nothing → Prints Answers output (Some fault)
  unprinted : (text : Text) (path : Bor Text) → Answers (Ok text) → path.now ≡ codes "-" → output.gets_part text → Prints Answers output (Some (Device path))
  prints : (text : Text) → Answers (Ok text) → output.gets text → Prints Answers output None

-- the report is printed, if there is one; one with a warning is an error all the same
pub data Reports (Answers : Result Report Fault → Type 0) (output : Output) : Option Fault → Type 0 where
  fails : (fault : Fault) → Answers (Err fault) → output.gets_nothing → Reports Answers output (Some fault)
  unprinted : (found : Report) (path : Bor Text) → Answers (Ok found) → path.now ≡ codes "-" → output.gets_part found.text
      → Reports Answers output (Some (Device path))
  warns : (found : Report) → Answers (Ok found) → output.gets found.text → found.warned ≡ true → Reports Answers output (Some Warning)
  clean : (found : Report) → Answers (Ok found) → output.gets found.text → found.warned ≡ false → Reports Answers output None
