-- A text at whose beginning a reference may be: a letter or a digit is first, and a digit is before the first comma.
use Rattle.std.proofs.Common.{◌≡◌, ℕ, suc, ◌+◌, [], ◌∷◌, Bool, true, false, cond, not, ◌||◌, ◌&&◌, Option, Some, None}
use Rattle.std.proofs.Common.{get_or, take, drop, refl, sym, ap, ◌∙◌, subst, arith}
use Rattle.std.specs.Prelude.{◌==◌, nat_lt, unwrap_or, is_some}
use Rattle.std.specs.Char.{is_ascii_alphabetic, is_ascii_alphanumeric, is_ascii_digit}
use Rattle.std.specs.List.{prefix_len}
use Rattle.std.proofs.lemmas.Bool.{and_from, or_left, or_right}
use Rattle.std.proofs.lemmas.Bool.Decides.{nat_tests}
use Rattle.std.proofs.lemmas.List.{drop-drop}
use Rattle.std.proofs.lemmas.Option.{same_Some}
use Rattle.text_model.specs.Texts.{Text}
use Rattle.journal_references.specs.declared.words.Word.{Word}
use Rattle.journal_references.specs.declared.words.Word.TheVariants.{OfMonth}
use Rattle.journal_references.specs.Words.{letters, is_gap, gap, is_word, word_length}
use Rattle.journal_references.specs.Dates.{is_day_gap, is_month_gap, is_day, day_length, begins_with_month, one_month, second_month, months, month_and_day}
use Rattle.journal_references.specs.Dates.{date_length}
use Rattle.journal_references.proofs.Beginnings.{some_if, word_first}

-- a digit is before the first comma
abbrev pub reaches : Text → Bool
reaches [] = false
reaches (b ∷ t) = is_ascii_digit b || (not (b == 0x2c) && reaches t)

pub record IsStart (t : Text) : Type 0 where
  pub begun : is_ascii_alphanumeric (get_or t 0 0) ≡ true
  pub reached : reaches t ≡ true

-- ---- digits

of_digit : (b : ℕ) → is_ascii_digit b ≡ true → is_ascii_alphanumeric b ≡ true
of_digit b h = grind (arith, nat_tests)

of_letter : (b : ℕ) → is_ascii_alphabetic b ≡ true → is_ascii_alphanumeric b ≡ true
of_letter b h = grind (arith, nat_tests)

reach_digit : (t : Text) → is_ascii_digit (get_or t 0 0) ≡ true → reaches t ≡ true
reach_digit [] h = cc
reach_digit (b ∷ t) h = or_left (is_ascii_digit b) (not (b == 0x2c) && reaches t) h

pub digit_starts : (t : Text) → is_ascii_digit (get_or t 0 0) ≡ true → IsStart t
digit_starts t h = record { begun = of_digit (get_or t 0 0) h; reached = reach_digit t h }

-- ---- runs without a comma

abbrev HasNoComma : (ℕ → Bool) → Type 0
HasNoComma test = (b : ℕ) → test b ≡ true → not (b == 0x2c) ≡ true

reach_later : (b : ℕ) (t : Text) → not (b == 0x2c) ≡ true → reaches t ≡ true → reaches (b ∷ t) ≡ true
reach_later b t other h =
    or_right (is_ascii_digit b) (not (b == 0x2c) && reaches t) (and_from (not (b == 0x2c)) (reaches t) other h)

reach_run : (test : ℕ → Bool) → HasNoComma test → (t : Text) → reaches (drop (prefix_len test t) t) ≡ true → reaches t ≡ true
reach_run test none [] h = h
reach_run test none (b ∷ t) h = by_test (test b) refl h (reach_run test none t)
  where
    by_test : (c : Bool) → test b ≡ c → reaches (drop (cond c (1 + prefix_len test t) 0) (b ∷ t)) ≡ true
        → (reaches (drop (prefix_len test t) t) ≡ true → reaches t ≡ true) → reaches (b ∷ t) ≡ true
    by_test true e g others =
        let more : 1 + prefix_len test t ≡ suc (prefix_len test t) = omega arith in
        reach_later b t (none b e) (others (subst (λ k. reaches (drop k (b ∷ t)) ≡ true) more g))
    by_test false e g others = g

letter_no_comma : HasNoComma is_ascii_alphabetic
letter_no_comma b h = grind (arith, nat_tests)

gap_no_comma : HasNoComma is_gap
gap_no_comma b h = grind (arith, nat_tests)

-- ---- words

reach_word : (word : Word) (t : Text) (n : ℕ) → word_length word t ≡ Some n → reaches (drop n t) ≡ true → reaches t ≡ true
reach_word word t n h reached =
    let k = letters t in
    let after = gap (drop k t) in
    let found = some_if (is_word word (take k t) after) (k + after) n h in
    let rest : drop after (drop k t) ≡ drop n t = drop-drop after k t ∙ ap (λ i. drop i t) found.1 in
    reach_run is_ascii_alphabetic letter_no_comma t
    (reach_run is_gap gap_no_comma (drop k t) (ap reaches rest ∙ reached))

pub word_starts : (word : Word) (t : Text) (n : ℕ) → word_length word t ≡ Some n → IsStart (drop n t) → IsStart t
word_starts word t n h start = record {
  begun = of_letter (get_or t 0 0) (word_first word t n h);
  reached = reach_word word t n h start.reached;
}

pub maybe_starts : (word : Word) (t : Text) (n : ℕ) → Some (unwrap_or (word_length word t) 0) ≡ Some n → IsStart (drop n t) → IsStart t
maybe_starts word t n h start = by_word (word_length word t) refl (same_Some (unwrap_or (word_length word t) 0) n h)
  where
    by_word : (o : Option ℕ) → word_length word t ≡ o → unwrap_or o 0 ≡ n → IsStart t
    by_word None e g = subst (λ k. IsStart (drop k t)) (sym g) start
    by_word (Some k) e g = word_starts word t n (e ∙ ap Some g) start

-- ---- dates

reach_month : (t : Text) → reaches (drop (one_month t) t) ≡ true → reaches t ≡ true
reach_month t h = by_word (word_length OfMonth t) refl h
  where
    by_word : (o : Option ℕ) → word_length OfMonth t ≡ o → reaches (drop (unwrap_or o 0) t) ≡ true → reaches t ≡ true
    by_word None e g = g
    by_word (Some n) e g = reach_word OfMonth t n e g

dash_no_comma : (b : ℕ) → (b == 0x2d || b == 0x2f) ≡ true → not (b == 0x2c) ≡ true
dash_no_comma b h = grind (arith, nat_tests)

reach_second : (t : Text) → reaches (drop (second_month t) t) ≡ true → reaches t ≡ true
reach_second [] h = h
reach_second (b ∷ t) h = by_test (b == 0x2d || b == 0x2f) refl h
  where
    by_test : (c : Bool) → (b == 0x2d || b == 0x2f) ≡ c → reaches (drop (cond c (1 + one_month t) 0) (b ∷ t)) ≡ true → reaches (b ∷ t) ≡ true
    by_test true e g =
        let more : 1 + one_month t ≡ suc (one_month t) = omega arith in
        reach_later b t (dash_no_comma b e) (reach_month t (subst (λ k. reaches (drop k (b ∷ t)) ≡ true) more g))
    by_test false e g = g

-- what is after a first length and a second one
reach_both : (t : Text) (k n : ℕ) → reaches (drop (k + n) t) ≡ true → reaches (drop n (drop k t)) ≡ true
reach_both t k n h = ap reaches (drop-drop n k t) ∙ h

-- a day begins with a digit
day_first : (t : Text) (rest : Bool) → (is_day (take (prefix_len is_ascii_digit t) t) && rest) ≡ true → is_ascii_digit (get_or t 0 0) ≡ true
day_first [] rest h = cc
day_first (b ∷ t) rest h = by_test (is_ascii_digit b) refl h
  where
    by_test : (c : Bool) → is_ascii_digit b ≡ c → (is_day (take (cond c (1 + prefix_len is_ascii_digit t) 0) (b ∷ t)) && rest) ≡ true
        → is_ascii_digit b ≡ true
    by_test true e g = e
    by_test false e g = cc

reach_day : (gap : ℕ → Bool) (t : Text) → reaches (drop (day_length gap t) t) ≡ true → reaches t ≡ true
reach_day gap t h = by_test (is_day (take n t) && nat_lt 0 (prefix_len gap (drop n t))) refl h
  where
    n : ℕ
    n = prefix_len is_ascii_digit t

    by_test : (c : Bool) → (is_day (take n t) && nat_lt 0 (prefix_len gap (drop n t))) ≡ c
        → reaches (drop (cond c (n + prefix_len gap (drop n t)) 0) t) ≡ true → reaches t ≡ true
    by_test true e g = reach_digit t (day_first t (nat_lt 0 (prefix_len gap (drop n t))) e)
    by_test false e g = g

reach_months : (t : Text) → reaches (drop (month_and_day t) t) ≡ true → reaches t ≡ true
reach_months t h =
    let n = months t in
    let k = one_month t in
    let after_months = reach_day is_month_gap (drop n t) (reach_both t n (day_length is_month_gap (drop n t)) h) in
    reach_month t (reach_second (drop k t) (reach_both t k (second_month (drop k t)) after_months))

pub date_starts : (t : Text) (n : ℕ) → date_length t ≡ n → IsStart (drop n t) → IsStart t
date_starts t n e start = by_day (is_day (take k t) && nat_lt 0 after) refl e
  where
    k : ℕ
    k = prefix_len is_ascii_digit t

    after : ℕ
    after = prefix_len is_day_gap (drop k t)

    by_month : (o : Option ℕ) → word_length OfMonth t ≡ o → cond (is_some o) (0 + month_and_day t) 0 ≡ n → IsStart t
    by_month None g f = subst (λ i. IsStart (drop i t)) (sym f) start
    by_month (Some m) g f =
        let same : month_and_day t ≡ n = omega (arith, f) in
        record {
          begun = of_letter (get_or t 0 0) (word_first OfMonth t m g);
          reached = reach_months t (ap (λ i. reaches (drop i t)) same ∙ start.reached);
        }

    by_day : (c : Bool) → (is_day (take k t) && nat_lt 0 after) ≡ c
        → cond (begins_with_month (drop (cond c (k + after) 0) t)) (cond c (k + after) 0 + month_and_day (drop (cond c (k + after) 0) t)) 0 ≡ n
        → IsStart t
    by_day true g f = digit_starts t (day_first t (nat_lt 0 after) g)
    by_day false g f = by_month (word_length OfMonth t) refl f
