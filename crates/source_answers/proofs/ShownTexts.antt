-- What is shown has no control character.
use Rattle.std.proofs.Common.{◌≡◌, ℕ, zero, suc, ◌/◌, ◌%◌, [], ◌∷◌, ◌++◌, Bool, true, false, cond, ◌&&◌, ◌||◌, ◌==◌, refl, sym, ap, ◌∙◌, arith}
use Rattle.std.specs.Prelude.{codes}
use Rattle.std.specs.Fmt.{digit_glyph, digits, digits_onto}
use Rattle.std.specs.List.{All, list_all}
use Rattle.std.proofs.lemmas.Bool.{cond_both}
use Rattle.std.proofs.lemmas.Bool.Decides.{nat_tests}
use Rattle.std.proofs.lemmas.List.Elements.{All-nil, All-cons}
use Rattle.std.proofs.lemmas.List.Folds.{list_all-append}
use Rattle.text_model.specs.Texts.{Text}
use Rattle.printed_text.specs.Printed.{escape, is_visible, visible, visible_byte}
use Rattle.source_answers.specs.Shown.{begins_with_control, has_control, is_control, shown}

abbrev all_visible : Text → Bool
all_visible text = list_all is_visible text

joined_visible : (a b : Text) → all_visible a ≡ true → all_visible b ≡ true → all_visible (a ++ b) ≡ true
joined_visible a b x y = list_all-append is_visible a b ∙ ap (λ t. t && all_visible b) x ∙ y

-- ---- digits

glyph_visible : (d : ℕ) → is_visible (digit_glyph false (d % 16)) ≡ true
glyph_visible d = grind (arith, nat_tests)

onto_visible : (k n : ℕ) (text : Text) → all_visible text ≡ true → all_visible (digits_onto k 16 false n text) ≡ true
onto_visible zero n text seen = seen
onto_visible (suc k) n text seen =
    let glyph = digit_glyph false (n % 16) in
    let more : all_visible (glyph ∷ text) ≡ true = ap (λ t. t && all_visible text) (glyph_visible n) ∙ seen in
    cond_both (n / 16 == 0) (glyph ∷ text) (digits_onto k 16 false (n / 16) (glyph ∷ text)) (λ t. all_visible t ≡ true) (λ e. more)
    (λ e. onto_visible k (n / 16) (glyph ∷ text) more)

digits_visible : (n : ℕ) → all_visible (digits 16 false n) ≡ true
unfolding digits
digits_visible n = onto_visible 64 n [] refl

-- ---- bytes

escape_visible : (b : ℕ) → all_visible (escape b) ≡ true
escape_visible b =
    joined_visible (codes "\\x") (digits 16 false (b / 16) ++ digits 16 false (b % 16)) refl
    (joined_visible (digits 16 false (b / 16)) (digits 16 false (b % 16)) (digits_visible (b / 16)) (digits_visible (b % 16)))

byte_visible : (b : ℕ) → all_visible (visible_byte b) ≡ true
byte_visible b =
    cond_both (is_visible b) (b ∷ []) (escape b) (λ t. all_visible t ≡ true) (λ e. ap (λ t. t && true) e) (λ e. escape_visible b)

text_visible : (text : Text) → all_visible (visible text) ≡ true
text_visible [] = refl
text_visible (b ∷ text) = joined_visible (visible_byte b) (visible text) (byte_visible b) (text_visible text)

-- ---- control characters

no_control : (b : ℕ) → is_visible b ≡ true → is_control b ≡ false
no_control b seen = grind (arith, nat_tests)

no_beginning : (b : ℕ) (text : Text) → is_visible b ≡ true → begins_with_control (b ∷ text) ≡ false
no_beginning b text seen = grind (arith, nat_tests)

visible_free : (text : Text) → all_visible text ≡ true → has_control text ≡ false
visible_free [] seen = refl
visible_free (b ∷ text) seen = by_test (is_visible b) refl (visible_free text)
  where
    by_test : (c : Bool) → is_visible b ≡ c → (all_visible text ≡ true → has_control text ≡ false) → has_control (b ∷ text) ≡ false
    by_test true h more =
        let rest : all_visible text ≡ true = sym (ap (λ t. t && all_visible text) h) ∙ seen in
        ap (λ t. t || begins_with_control (b ∷ text) || has_control text) (no_control b h)
        ∙ ap (λ t. t || has_control text) (no_beginning b text h) ∙ more rest
    by_test false h more = let none : (false && all_visible text) ≡ true = sym (ap (λ t. t && all_visible text) h) ∙ seen in cc

pub free : (text : Text) → has_control (shown text) ≡ false
free text = cond_both (has_control text) (visible text) text (λ t. has_control t ≡ false) (λ e. visible_free (visible text) (text_visible text)) (λ e. e)

ascii_free : (text : Text) → has_control text ≡ false → All (λ b. is_control b ≡ false) text
ascii_free [] h = All-nil (λ b. is_control b ≡ false)
ascii_free (b ∷ text) h =
    let parts = none_of (is_control b) (begins_with_control (b ∷ text)) (has_control text) h in
    All-cons (λ b. is_control b ≡ false) b text parts.0 (ascii_free text parts.1)
  where
    none_of : (x y z : Bool) → (x || y || z) ≡ false → (x ≡ false) × (z ≡ false)
    none_of true y z e = cc
    none_of false true z e = cc
    none_of false false z e = (refl, e)

pub no_ascii : (text : Text) → All (λ b. is_control b ≡ false) (shown text)
no_ascii text = ascii_free (shown text) (free text)

pub same : (text : Text) → has_control text ≡ false → shown text ≡ text
same text h = ap (λ b. cond b (visible text) text) h
