-- Words in capital and small letters.
use Rattle.std.proofs.Common.{◌≡◌, Bool, ◌↔◌, map}
use Rattle.std.specs.Bool.{IsTrue}
use Rattle.std.specs.Char.{to_ascii_lowercase}
use Rattle.std.specs.Str.{str_eq_ignore_ascii_case}
use Rattle.std.proofs.lemmas.Bool.Decides.{same_from_decides}
use Rattle.std.proofs.lemmas.Slice.Eq.{bytes_eq-Decides}
use Rattle.text_model.specs.Texts.{Text}

pub same_letters : (r : Bool) (word other : Text) → (IsTrue r ↔ (map to_ascii_lowercase word ≡ map to_ascii_lowercase other))
    → r ≡ str_eq_ignore_ascii_case word other
same_letters r word other h = same_from_decides r (str_eq_ignore_ascii_case word other) h (bytes_eq-Decides _ _)
