-- A text none of whose bytes changes in its normal form.
use Rattle.std.proofs.Common.{◌≡◌, ℕ, true, [], ◌∷◌, refl, ap, ◌∙◌, arith}
use Rattle.std.proofs.lemmas.Bool.{and_parts}
use Rattle.std.proofs.lemmas.Bool.Decides.{nat_tests}
use Rattle.std.proofs.lemmas.Grind.{common_steps}
use Rattle.std.specs.Char.{to_ascii_uppercase}
use Rattle.std.specs.List.{list_all}
use Rattle.text_model.specs.Texts.{Text}
use Rattle.kbart_rows.specs.Identifiers.{counts}
use Rattle.kbart_rows.specs.Private.Normal.{normal}
use Rattle.table_inspection.specs.Private.Forms.{is_normal_byte}

byte_counts : (b : ℕ) → is_normal_byte b ≡ true → counts b ≡ true
byte_counts b e = grind (arith, nat_tests, common_steps)

byte_stays : (b : ℕ) → is_normal_byte b ≡ true → to_ascii_uppercase b ≡ b
byte_stays b e = grind (arith, nat_tests, common_steps)

pub already_normal : (text : Text) → list_all is_normal_byte text ≡ true → normal text ≡ text
already_normal [] e = refl
already_normal (b ∷ text) e =
    let parts = and_parts (is_normal_byte b) (list_all is_normal_byte text) e in
    rw (byte_counts b parts.0) (ap (λ first. first ∷ normal text) (byte_stays b parts.0) ∙ ap (λ rest. b ∷ rest) (already_normal text parts.1))
