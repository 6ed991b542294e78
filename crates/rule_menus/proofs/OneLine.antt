-- What is printed on one line has no LF.
use Rattle.std.proofs.Common.{◌≡◌, ℕ, zero, suc, ◌/◌, ◌%◌, ◌<◌, List, [], ◌∷◌, ◌++◌, Bool, true, false, not, ◌&&◌, ◌==◌, Option, refl, ap, ◌∙◌, arith}
use Rattle.std.proofs.lemmas.Grind.{common_steps}
use Rattle.std.specs.Prelude.{if◌then◌else◌}
use Rattle.std.specs.List.{flat_map}
use Rattle.std.specs.Fmt.{decimal, digit_glyph, digits, digits_onto}
use Rattle.std.proofs.lemmas.Bool.Decides.{nat_tests}
use Rattle.std.proofs.lemmas.List.Folds.{list_all-append}
use Rattle.text_model.specs.Texts.{Text, is_hexadecimal, is_reserved, is_unreserved}
use Rattle.text_model.specs.Writing.{is_unreserved_or_reserved}
use Rattle.text_model.specs.UriText.{IsUriText, nothing, and_character, and_triplet}
use Rattle.environment_model.specs.Environment.{Meaning}
use Rattle.uri_grammar.specs.Characters.{dot}
use Rattle.uri_grammar.specs.Names.{IsVarchar, IsVarname, character_varchar, triplet_varchar, first_varchar, next_varchar, dotted_varchar, is_name_character}
use Rattle.printed_text.specs.Printed.{byte_text, escape, is_plain, is_visible, quoted, shortened, visible, visible_byte}
use Rattle.rule_explanation.specs.Explanation.{meaning_text}
use Rattle.rule_menus.specs.Explanations.{line_feed}
use Rattle.rule_menus.proofs.Lines.{is_one_line, lacks}

pub one_joined : (a b : Text) → is_one_line a ≡ true → is_one_line b ≡ true → is_one_line (a ++ b) ≡ true
one_joined a b x y = list_all-append (λ c. not (c == line_feed)) a b ∙ ap (λ t. t && is_one_line b) x ∙ y

one_flat : {A : Type 0} (f : A → Text) → ((x : A) → is_one_line (f x) ≡ true) → (xs : List A) → is_one_line (flat_map f xs) ≡ true
one_flat f each [] = refl
one_flat f each (x ∷ xs) = one_joined (f x) (flat_map f xs) (each x) (one_flat f each xs)

one_more : (b : ℕ) (text : Text) → not (b == line_feed) ≡ true → is_one_line text ≡ true → is_one_line (b ∷ text) ≡ true
one_more b text x y = ap (λ t. t && is_one_line text) x ∙ y

-- ---- digits

-- the bytes below the digits
module _ (c : ℕ) (below : c < 48) where
  glyph_other : (d : ℕ) → not (digit_glyph false d == c) ≡ true
  glyph_other d = grind (arith, nat_tests, below)

  digits_onto_lack : (k base n : ℕ) (text : Text) → lacks c text ≡ true → lacks c (digits_onto k base false n text) ≡ true
  digits_onto_lack zero base n text lack = lack
  digits_onto_lack (suc k) base n text lack =
      let more : lacks c (digit_glyph false (n % base) ∷ text) ≡ true = ap (λ t. t && lacks c text) (glyph_other (n % base)) ∙ lack in
      by_test (n / base == 0) more (digits_onto_lack k base (n / base) (digit_glyph false (n % base) ∷ text) more)
    where
      by_test : (x : Bool) → lacks c (digit_glyph false (n % base) ∷ text) ≡ true
          → lacks c (digits_onto k base false (n / base) (digit_glyph false (n % base) ∷ text)) ≡ true
          → lacks c (if x then (digit_glyph false (n % base) ∷ text) else digits_onto k base false (n / base) (digit_glyph false (n % base) ∷ text)) ≡ true
      by_test x last more = grind (arith, common_steps)

  pub digits_lack : (base n : ℕ) → lacks c (digits base false n) ≡ true
  unfolding digits
  digits_lack base n = digits_onto_lack 64 base n [] refl

digits_one : (base n : ℕ) → is_one_line (digits base false n) ≡ true
digits_one base n = digits_lack line_feed (omega arith) base n

pub decimal_one : (n : ℕ) → is_one_line (decimal n) ≡ true
decimal_one n = digits_one 10 n

-- ---- printed bytes

plain_one : (b : ℕ) → is_plain b ≡ true → not (b == line_feed) ≡ true
plain_one b plain = grind (arith, nat_tests)

visible_one : (b : ℕ) → is_visible b ≡ true → not (b == line_feed) ≡ true
visible_one b seen = grind (arith, nat_tests)

escape_one : (b : ℕ) → is_one_line (escape b) ≡ true
escape_one b = grind (arith, one_joined, digits_one)

byte_text_one : (b : ℕ) → is_one_line (byte_text b) ≡ true
byte_text_one b = grind (arith, one_more, plain_one, escape_one)

visible_byte_one : (b : ℕ) → is_one_line (visible_byte b) ≡ true
visible_byte_one b = grind (arith, one_more, visible_one, escape_one)

pub visible_text_one : (text : Text) → is_one_line (visible text) ≡ true
visible_text_one text = one_flat visible_byte visible_byte_one text

quoted_one : (text : Text) → is_one_line (quoted text) ≡ true
quoted_one text = grind (arith, one_joined, one_more, one_flat, byte_text_one)

shortened_one : (text : Text) → is_one_line (shortened text) ≡ true
shortened_one text = grind (arith, quoted_one, one_joined)

pub meaning_one : (m : Option Meaning) → is_one_line (meaning_text m) ≡ true
meaning_one m = grind (arith, shortened_one, one_joined, decimal_one)

-- ---- names

name_character_one : (c : ℕ) → is_name_character c ≡ true → not (c == line_feed) ≡ true
name_character_one c is = grind (arith, nat_tests)

hexadecimal_one : (c : ℕ) → is_hexadecimal c ≡ true → not (c == line_feed) ≡ true
hexadecimal_one c is = grind (arith, nat_tests)

varchar_one : (v : Text) → IsVarchar v → is_one_line v ≡ true
varchar_one _ (character_varchar c is) = one_more c [] (name_character_one c is) refl
varchar_one _ (triplet_varchar c high low is) = grind (arith, common_steps)

pub name_one : (name : Text) → IsVarname name → is_one_line name ≡ true
name_one _ (first_varchar v is) = varchar_one v is
name_one _ (next_varchar name v before is) = one_joined name v (name_one name before) (varchar_one v is)
name_one _ (dotted_varchar name v before is) = one_joined name (dot ∷ v) (name_one name before) (one_more dot v refl (varchar_one v is))

-- ---- links

uri_character_one : (b : ℕ) → is_unreserved_or_reserved b ≡ true → not (b == line_feed) ≡ true
unfolding is_unreserved is_reserved
uri_character_one b is = grind (arith, nat_tests)

pub uri_text_one : (text : Text) → IsUriText text → is_one_line text ≡ true
uri_text_one _ nothing = refl
uri_text_one _ (and_character text b before is) = one_joined text (b ∷ []) (uri_text_one text before) (one_more b [] (uri_character_one b is) refl)
uri_text_one _ (and_triplet text high low before x y) = grind (arith, one_joined, one_more, hexadecimal_one, uri_text_one text before)
