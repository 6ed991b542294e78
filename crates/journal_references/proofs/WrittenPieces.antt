-- The pieces of a reference as it is written.
use Rattle.std.proofs.Common.{◌≡◌, ℕ, zero, suc, ◌+◌, [], ◌∷◌, ◌++◌, Bool, true, false, ◌&&◌, cond, Option, Some, None, length, get_or, take, drop}
use Rattle.std.proofs.Common.{refl, ap, ◌∙◌, arith}
use Rattle.std.specs.Prelude.{◌==◌, nat_lt, is_some}
use Rattle.std.specs.Char.{is_ascii_alphabetic, is_ascii_digit}
use Rattle.std.specs.List.{list_all, prefix_len}
use Rattle.std.proofs.lemmas.Bool.{and_parts, and_right, both_ways, cond-false}
use Rattle.std.proofs.lemmas.Bool.Decides.{nat_tests}
use Rattle.std.proofs.lemmas.List.{take_at, take_all}
use Rattle.text_model.specs.Texts.{Text}
use Rattle.journal_references.specs.declared.words.Word.{Word}
use Rattle.journal_references.specs.declared.words.Word.TheVariants.{OfMonth}
use Rattle.journal_references.specs.declared.pieces.Piece.{Piece}
use Rattle.journal_references.specs.declared.pieces.Piece.TheVariants.{Pages, Year}
use Rattle.journal_references.specs.Words.{word_length}
use Rattle.journal_references.specs.Pieces.{is_number_byte, is_page_byte, is_byte, is_year, is_piece, piece_length}
use Rattle.journal_references.specs.Dates.{is_day_gap, is_month_gap, is_day, day_length, begins_with_month, month_and_day, date_length}
use Rattle.journal_references.specs.Dates.{is_name_byte, is_name, name_length, month_length}
use Rattle.journal_references.specs.Parts.{is_space, spaces}
use Rattle.journal_references.specs.Written.{IsWhole}
use Rattle.journal_references.proofs.Beginnings.{word_first}

-- ---- runs

one_more : (b : ℕ) (t : Text) → 1 + length t ≡ length (b ∷ t)
one_more b t = omega arith

pub run_then : (test : ℕ → Bool) (t : Text) (c : ℕ) (r : Text) → list_all test t ≡ true → test c ≡ false → prefix_len test (t ++ c ∷ r) ≡ length t
run_then test [] c r all stop = ap (λ b. cond b (1 + prefix_len test r) 0) stop
run_then test (b ∷ t) c r all stop =
    let passed = and_parts (test b) (list_all test t) all in
    ap (λ x. cond x (1 + prefix_len test (t ++ c ∷ r)) 0) passed.0 ∙ ap (λ n. 1 + n) (run_then test t c r passed.1 stop) ∙ one_more b t

run_whole : (test : ℕ → Bool) (t : Text) → list_all test t ≡ true → prefix_len test t ≡ length t
run_whole test [] all = refl
run_whole test (b ∷ t) all =
    let passed = and_parts (test b) (list_all test t) all in
    ap (λ x. cond x (1 + prefix_len test t) 0) passed.0 ∙ ap (λ n. 1 + n) (run_whole test t passed.1) ∙ one_more b t

pub no_run : (test : ℕ → Bool) (t : Text) → test (get_or t 0 0) ≡ false → prefix_len test t ≡ 0
no_run test [] h = refl
no_run test (b ∷ t) h = ap (λ c. cond c (1 + prefix_len test t) 0) h

weaker : (p q : ℕ → Bool) → ((b : ℕ) → p b ≡ true → q b ≡ true) → (t : Text) → list_all p t ≡ true → list_all q t ≡ true
weaker p q each [] all = refl
weaker p q each (b ∷ t) all =
    let passed = and_parts (p b) (list_all p t) all in
    ap (λ c. c && list_all q t) (each b passed.0) ∙ weaker p q each t passed.1

-- ---- texts that begin with a digit

abbrev pub HasDigit : Text → Type 0
HasDigit t = is_ascii_digit (get_or t 0 0) ≡ true

pub digit_front : (t s : Text) → HasDigit t → HasDigit (t ++ s)
digit_front [] s h = cc
digit_front (b ∷ t) s h = h

not_letter : (b : ℕ) → is_ascii_digit b ≡ true → is_ascii_alphabetic b ≡ false
not_letter b h = grind (arith, nat_tests)

pub digit_no_opening : (b : ℕ) → is_ascii_digit b ≡ true → (b == 0x28) ≡ false
digit_no_opening b h = grind (arith, nat_tests)

not_space : (b : ℕ) → is_ascii_digit b ≡ true → is_space b ≡ false
not_space b h = grind (arith, nat_tests)

not_name : (b : ℕ) → is_ascii_digit b ≡ true → is_name_byte b ≡ false
not_name b h = grind (arith, nat_tests)

page_no_gap : (b : ℕ) → is_page_byte b ≡ true → is_day_gap b ≡ false
page_no_gap b h = grind (arith, nat_tests)

pub no_spaces : (t : Text) → HasDigit t → spaces t ≡ 0
no_spaces t h = no_run is_space t (not_space (get_or t 0 0) h)

pub no_word : (word : Word) (t : Text) → HasDigit t → word_length word t ≡ None
no_word word t h = by_length (word_length word t) refl
  where
    by_length : (o : Option ℕ) → word_length word t ≡ o → o ≡ None
    by_length None e = refl
    by_length (Some n) e = absurd (both_ways (is_ascii_alphabetic (get_or t 0 0)) (not_letter (get_or t 0 0) h) (word_first word t n e))

-- ---- pieces

pub piece_then : (p : Piece) (t : Text) (c : ℕ) (r : Text) → IsWhole p t → is_byte p c ≡ false → piece_length p (t ++ c ∷ r) ≡ Some (length t)
piece_then p t c r whole stop =
    ap (λ k. cond (is_piece p (take k (t ++ c ∷ r))) (Some k) None) (run_then (is_byte p) t c r whole.0 stop)
    ∙ ap (λ x. cond (is_piece p x) (Some (length t)) None) (take_at t (c ∷ r) (length t) refl)
    ∙ ap (λ b. cond b (Some (length t)) None) whole.1

pub piece_whole : (p : Piece) (t : Text) → IsWhole p t → piece_length p t ≡ Some (length t)
piece_whole p t whole =
    ap (λ k. cond (is_piece p (take k t)) (Some k) None) (run_whole (is_byte p) t whole.0)
    ∙ ap (λ x. cond (is_piece p x) (Some (length t)) None) (take_all (length t) t (omega arith))
    ∙ ap (λ b. cond b (Some (length t)) None) whole.1

page_number : (b : ℕ) → is_page_byte b ≡ true → is_number_byte b ≡ true
page_number b h = grind (arith, nat_tests)

pub no_year_in : (t : Text) → IsWhole Pages t → is_year t ≡ false → piece_length Year t ≡ None
no_year_in t whole other =
    ap (λ k. cond (is_year (take k t)) (Some k) None) (run_whole is_number_byte t (weaker is_page_byte is_number_byte page_number t whole.0))
    ∙ ap (λ x. cond (is_year x) (Some (length t)) None) (take_all (length t) t (omega arith))
    ∙ ap (λ b. cond b (Some (length t)) None) other

-- ---- no date in pages

no_gap : (t : Text) (k : ℕ) → list_all is_page_byte t ≡ true → prefix_len is_day_gap (drop k t) ≡ 0
no_gap [] zero all = refl
no_gap [] (suc k) all = refl
no_gap (b ∷ t) zero all =
    ap (λ c. cond c (1 + prefix_len is_day_gap t) 0) (page_no_gap b (and_parts (is_page_byte b) (list_all is_page_byte t) all).0)
no_gap (b ∷ t) (suc k) all = no_gap t k (and_parts (is_page_byte b) (list_all is_page_byte t) all).1

pub day_none : (t : Text) → IsWhole Pages t → day_length is_day_gap t ≡ 0
day_none t whole =
    let n = prefix_len is_ascii_digit t in
    ap (λ k. cond (is_day (take n t) && nat_lt 0 k) (n + k) 0) (no_gap t n whole.0) ∙ cond-false _ _ _ (and_right (is_day (take n t)) false refl)

date_none : (t : Text) → IsWhole Pages t → HasDigit t → date_length t ≡ 0
date_none t whole h =
    ap (λ n. cond (begins_with_month (drop n t)) (n + month_and_day (drop n t)) 0) (day_none t whole)
    ∙ ap (λ o. cond (is_some o) (0 + month_and_day t) 0) (no_word OfMonth t h)

pub month_none : (t : Text) → IsWhole Pages t → HasDigit t → month_length t ≡ 0
month_none t whole h =
    ap (λ n. cond (n == 0) (name_length t) (n + prefix_len is_month_gap (drop n t))) (date_none t whole h)
    ∙ ap (λ n. cond (is_name (take n t) (prefix_len is_month_gap (drop n t))) (n + prefix_len is_month_gap (drop n t)) 0)
    (no_run is_name_byte t (not_name (get_or t 0 0) h))
