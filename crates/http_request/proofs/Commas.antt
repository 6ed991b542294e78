-- Numbers with commas between them, one after another.
use Rattle.std.proofs.Common.{◌≡◌, ℕ, ◌+◌, ◌-◌, ◌<◌, Bool, true, false, ◌&&◌, not, get_or, List, [], ◌∷◌, length, refl, sym, ap, ◌∙◌, arith}
use Rattle.std.specs.Prelude.{All, MatchResult, Option, Some, None, Result, Ok, Err, cond, option_map, nat_le, nat_lt, position, slice_index}
use Rattle.std.specs.Borrow.{Bor}
use Rattle.std.specs.Result.{result_ok}
use Rattle.std.specs.List.{after_first, before_first, list_all, position_or_len}
use Rattle.std.specs.Str.{IsAscii, IsUtf8}
use Rattle.std.proofs.lemmas.Bool.{not-true}
use Rattle.std.proofs.lemmas.Bool.Decides.{nat_tests}
use Rattle.std.proofs.lemmas.Grind.{common_steps}
use Rattle.std.proofs.lemmas.List.Splits.{length-slice_split, slice_split_first, slice_split_none}
use Rattle.std.proofs.lemmas.List.Sums.{AllPass-from_list_all, prefix_len_passes}
use Rattle.std.proofs.lemmas.List.Elements.{All-weaker}
use Rattle.std.proofs.lemmas.Str.{IsUtf8-from_ascii}
use Rattle.std.proofs.lemmas.Str.Ascii.{IsAscii-from_all}
use Rattle.text_model.proofs.Lists.{position-none}
use Rattle.http_request.specs.Numbers.{are_few, are_numbers, has_number_length, numbers_if, is_comma, is_number_byte, numbers_of}

-- ---- with a comma, and without one

no_comma : (text : List ℕ) → position is_comma text ≡ None → All (λ b. is_comma b ≡ false) text
no_comma text none =
    let all = position-none is_comma text none in
    λ k d h. not-true (is_comma (get_or text k d)) (prefix_len_passes (λ b. not (is_comma b)) text k d (omega (arith, h, all)))

pub last : (left : ℕ) (text : List ℕ) → 0 < left → position is_comma text ≡ None → are_few left text ≡ has_number_length text
last left text some none =
    ap (λ parts. nat_le (length parts) left && list_all has_number_length parts) (slice_split_none is_comma text (no_comma text none))
    ∙ one (nat_le (length (text ∷ [])) left) (has_number_length text) (grind (arith, nat_tests))
  where
    one : (a b : Bool) → a ≡ true → (a && (b && true)) ≡ b
    one true true h = refl
    one true false h = refl
    one false b h = cc

pub first : (left : ℕ) (text : List ℕ) → 0 < left → position_or_len is_comma text < length text
    → are_few left text ≡ (has_number_length (before_first is_comma text) && are_few (left - 1) (after_first is_comma text))
first left text some within =
    let front = before_first is_comma text in
    let rest = numbers_of (after_first is_comma text) in
    let fewer : nat_le (length (front ∷ rest)) left ≡ nat_le (length rest) (left - 1) = grind (arith, nat_tests) in
    ap (λ parts. nat_le (length parts) left && list_all has_number_length parts) (slice_split_first is_comma text 0 within)
    ∙ ap (λ b. b && (has_number_length front && list_all has_number_length rest)) fewer
    ∙ swap (nat_le (length rest) (left - 1)) (has_number_length front) (list_all has_number_length rest)
  where
    swap : (a b c : Bool) → (a && (b && c)) ≡ (b && (a && c))
    swap true true c = refl
    swap true false c = refl
    swap false true c = refl
    swap false false c = refl

-- a comma that is found is in the text
pub comma_within : (text : List ℕ) (end : ℕ) → position is_comma text ≡ Some end → position_or_len is_comma text < length text
comma_within text end found = grind (arith, common_steps)

-- there is always one
pub none : (text : List ℕ) → are_few 0 text ≡ false
none text =
    let one = length-slice_split is_comma text in
    let many : nat_le (length (numbers_of text)) 0 ≡ false = grind (arith, nat_tests) in
    ap (λ b. b && list_all has_number_length (numbers_of text)) many

-- ---- numbers are ASCII

ascii : (text : List ℕ) → list_all is_number_byte text ≡ true → IsAscii text
ascii text h =
    IsAscii-from_all text (All-weaker (λ b. is_number_byte b ≡ true) (λ b. b < 128) below text (AllPass-from_list_all is_number_byte text h))
  where
    below : (b : ℕ) → is_number_byte b ≡ true → b < 128
    below b e = grind (arith, nat_tests)

pub utf8 : (text : List ℕ) → are_numbers text ≡ true → IsUtf8 text
utf8 text h = IsUtf8-from_ascii text (ascii text (front (list_all is_number_byte text) _ h))
  where
    front : (a b : Bool) → (a && b) ≡ true → a ≡ true
    front true b e = refl
    front false b e = e

-- the text that was found to be numbers
pub found : {E : Type 0} (text : List ℕ) (wrong : E → Type 0) (read : Result (Bor (List ℕ)) E)
    → MatchResult read (λ s. (s.now ≡ text) × IsUtf8 text) (λ e. ¬ (IsUtf8 text) × wrong e) → are_numbers text ≡ true
    → option_map (λ (s : Bor (List ℕ)). s.now) (result_ok read) ≡ numbers_if text
found text wrong (Ok s) h are = ap Some h.0 ∙ sym (ap (λ b. cond b (Some text) None) are)
found text wrong (Err e) h are = absurd (h.0 (utf8 text are))
