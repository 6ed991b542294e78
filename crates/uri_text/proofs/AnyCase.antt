-- The first bytes of a text and the letters with which they are compared, in either case.
use Rattle.std.proofs.Common.{◌≡◌, ◌<◌, Bool, false, ◌↔◌, map, length, arith}
use Rattle.std.specs.Bool.{IsTrue}
use Rattle.std.specs.Char.{to_ascii_lowercase}
use Rattle.std.specs.Str.{str_eq_ignore_ascii_case}
use Rattle.std.proofs.lemmas.Bool.Decides.{same_from_decides}
use Rattle.std.proofs.lemmas.Slice.Eq.{bytes_eq-Decides}
use Rattle.std.proofs.lemmas.Grind.{common_steps}
use Rattle.text_model.specs.Texts.{Text}
use Rattle.uri_text.specs.AnyCase.{begins_in_any_case}

pub front_decides : (r : Bool) (front beginning : Text) → (IsTrue r ↔ (map to_ascii_lowercase front ≡ map to_ascii_lowercase beginning))
    → r ≡ str_eq_ignore_ascii_case front beginning
front_decides r front beginning h = same_from_decides r (str_eq_ignore_ascii_case front beginning) h (bytes_eq-Decides _ _)

-- a text that is shorter
pub short_differs : (text beginning : Text) → length text < length beginning → begins_in_any_case text beginning ≡ false
short_differs text beginning short = grind (arith, common_steps)
