-- Files that a command writes.
use Rattle.std.specs.Prelude.{◌≡◌, ℕ, ◌++◌, codes, length, Result, Ok, Err}
use Rattle.std.specs.Fmt.{decimal}
use Rattle.std.specs.Borrow.{Bor}
use Rattle.text_model.specs.Texts.{Text}
use Rattle.files.specs.Found.{Disk}
use Rattle.files.specs.Modes.{Modes}
use Rattle.files.specs.Placing.{IsAsBefore, IsPlaced, IsPlaceFailure, IsPlaceShortage, KeepsModes}
use Rattle.files.specs.declared.call.FileCall.{FileCall}
use Rattle.answers.specs.declared.refusal.Refusal.TheVariants.{Memory}
use Rattle.commands.specs.declared.fault.Fault.{Fault}
use Rattle.commands.specs.declared.fault.Fault.TheVariants.{Refused, Device}

-- the line that says how many bytes a file has
abbrev pub count_line : ℕ → Text
count_line n = decimal n ++ codes " bytes\n"

module _ {F : Type 0} (at : F → Disk) (mode_at : F → Modes) (fails runs_out : F → FileCall → Text → F → Type 0) (old new : F) where
  -- a file of these bytes is placed at the path, with the mode of the old one, and the text is the line with their number; or a call failed or memory ran out
  pub data Places (path : Bor Text) (bytes : Text) : Result Text Fault → Type 0 where
    no_place : IsPlaceFailure at fails old path.now new → IsAsBefore at fails (at old) path.now new → Places path bytes (Err (Device path))
    no_memory : IsPlaceShortage at runs_out old path.now new → IsAsBefore at fails (at old) path.now new → Places path bytes (Err (Refused Memory))
    placed : (text : Text) → IsPlaced (at old) path.now bytes (at new) → KeepsModes (mode_at old) path.now (mode_at new)
        → text ≡ count_line (length bytes) → Places path bytes (Ok text)
