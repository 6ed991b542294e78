-- What is known of the modes of files, as an implementer of `Files` says.
use Rattle.std.specs.Prelude.{◌≡◌, ◌≢◌, ℕ, Option, None, Some}
use Rattle.text_model.specs.Texts.{Text}

-- the mode of the file at each path, if it is known
abbrev pub Modes : Type 0
Modes = Text → Option ℕ

-- this is the mode, unless it is unknown
abbrev pub IsMode : Option ℕ → ℕ → Type 0
IsMode None mode = Unit {0}
IsMode (Some known) mode = known ≡ mode

-- this was found where the mode is looked up: the mode, unless it is unknown
abbrev pub IsFoundMode : Option ℕ → Option ℕ → Type 0
IsFoundMode None found = Unit {0}
IsFoundMode (Some known) found = found ≡ Some known

-- the new mode is the old one, unless one of the two is unknown
abbrev pub IsKeptMode : Option ℕ → Option ℕ → Type 0
IsKeptMode None new = Unit {0}
IsKeptMode (Some old) new = IsMode new old

-- each path has the mode that it had
abbrev pub HasSameModes : Modes → Modes → Type 0
HasSameModes old new = (path : Text) → new path ≡ old path

-- each path except this one has the mode that it had
abbrev pub ChangesModeOnly : Text → Modes → Modes → Type 0
ChangesModeOnly path old new = (other : Text) → other ≢ path → new other ≡ old other
