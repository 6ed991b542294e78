-- Numbers of characters.
use Rattle.std.proofs.Common.{◌≡◌, ℕ, ◌+◌, ◌*◌, ◌<◌, length, get_or, take, ap, ◌∙◌, sym, arith}
use Rattle.std.specs.Prelude.{min}
use Rattle.std.specs.Char.{digit_value}
use Rattle.std.specs.Str.Parse.{digits_value}
use Rattle.std.proofs.lemmas.Int.Digits.{digits_value_more}
use Rattle.text_model.specs.Texts.{Text}
use Rattle.title_markup.specs.declared.references.Base.{Base}
use Rattle.title_markup.specs.declared.references.Base.TheVariants.{Decimal, Hexadecimal}
use Rattle.title_markup.specs.References.{radix, beyond, value}

capped : (base : Base) (v d : ℕ) → min (min v beyond * radix base + d) beyond ≡ min (v * radix base + d) beyond
capped Decimal v d = omega arith
capped Hexadecimal v d = omega arith

pub value_more : (base : Base) (t : Text) (i : ℕ) → i < length t
    → min (value base (take i t) * radix base + digit_value (get_or t i 0)) beyond ≡ value base (take (i + 1) t)
value_more base t i h =
    capped base (digits_value (radix base) (take i t)) (digit_value (get_or t i 0))
    ∙ ap (λ v. min v beyond) (sym (digits_value_more (radix base) t i h))
