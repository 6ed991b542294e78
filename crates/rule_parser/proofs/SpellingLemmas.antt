-- Texts written character by character, with a backslash before each quote and backslash.
use Rattle.std.proofs.Common.{arith, ◌≡◌, ◌≢◌, ℕ, ◌++◌, refl, append_assoc}
use Rattle.std.specs.Char.{encode_utf8}
use Rattle.std.proofs.lemmas.Bool.{ne_eqb}
use Rattle.text_model.specs.Texts.{Text}
use Rattle.rule_parser.specs.Characters.{quote, backslash}
use Rattle.rule_parser.specs.Statements.{escaped}
use Rattle.rule_parser.proofs.EscapeLemmas.{escaped-append, escaped_plain_text, plain_bytes}

-- any other character is written unchanged
pub plain_character : (c : ℕ) → c ≢ quote → c ≢ backslash → escaped (encode_utf8 c) ≡ encode_utf8 c
plain_character c h k = escaped_plain_text (encode_utf8 c) (plain_bytes c (rw (ne_eqb c quote h, ne_eqb c backslash k) refl))

-- one more character
pub escaped_step : (whole before out rest after : Text) (c : ℕ) → out ++ escaped rest ≡ whole
    → rest ≡ encode_utf8 c ++ after → before ≡ out ++ escaped (encode_utf8 c) → before ++ escaped after ≡ whole
escaped_step whole before out rest after c so_far next appended = grind (arith, append_assoc, escaped-append)
