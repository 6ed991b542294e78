-- The numbers in a text, written as one text, are found again.
use Rattle.std.proofs.Common.{◌≡◌, ◌⊎◌, ℕ, List, [], ◌∷◌, ◌++◌, Bool, true, false, cond, not, ◌&&◌, ◌||◌, Option, Some, None}
use Rattle.std.proofs.Common.{length, refl, ap, ◌∙◌, arith, append-nil, inl, inr}
use Rattle.std.specs.Prelude.{codes, nat_le}
use Rattle.std.specs.Char.{is_ascii_alphabetic}
use Rattle.std.specs.List.{All, flat_map, list_all}
use Rattle.std.proofs.lemmas.Bool.{and_parts, or_cases, or_parts, not-true, cond-false}
use Rattle.std.proofs.lemmas.Bool.Decides.{nat_tests}
use Rattle.std.proofs.lemmas.List.Elements.{All-nil, All-append, All-weaker}
use Rattle.std.proofs.lemmas.List.Sums.{AllPass-from_list_all, list_all-from_AllPass}
use Rattle.std.proofs.lemmas.List.Splits.{slice_split_at}
use Rattle.text_model.specs.Texts.{Text}
use Rattle.article_places.specs.Labels.{is_label, is_issue_word}
use Rattle.article_places.specs.Words as spec
use Rattle.article_places.specs.Enumerations as numbers
use Rattle.article_places.specs.Enumerations.{Numbers}
use Rattle.article_places.proofs.Found.{Holds, AreOrdered, IsNumberOf, IsMarkOf}
use Rattle.article_places.proofs.Stay.{IsAlone, no_label, all_closed, all_joined, one_part, closed_words, apart_alone, one_word}
use Rattle.article_places.proofs.Joined.{IsOne}
use Rattle.article_places.proofs.NumberLaws.{ones}

abbrev pub IsClosed : Text → Type 0
IsClosed t = All (λ b. spec.is_not_open b ≡ true) t

-- ---- the mark of a supplement

letter_counts : (b : ℕ) → is_ascii_alphabetic b ≡ true → spec.is_number_byte b ≡ true
letter_counts b h = grind (arith, nat_tests)

roman_counts : (b : ℕ) → numbers.is_roman b ≡ true → spec.is_number_byte b ≡ true
roman_counts b h = grind (arith, nat_tests)

all_count : (q : ℕ → Bool) → ((b : ℕ) → q b ≡ true → spec.is_number_byte b ≡ true) → (t : Text) → list_all q t ≡ true
    → list_all spec.is_number_byte t ≡ true
all_count q each t h =
    list_all-from_AllPass spec.is_number_byte t
    (All-weaker (λ b. q b ≡ true) (λ b. spec.is_number_byte b ≡ true) each t (AllPass-from_list_all q t h))

mark_counts : (t : Text) → numbers.is_mark t ≡ true → list_all spec.is_number_byte t ≡ true
mark_counts t h =
    elim (or_cases (spec.is_number t || (nat_le (length t) 1 && list_all is_ascii_alphabetic t)) (nat_le (length t) 5 && list_all numbers.is_roman t) h)
    as (λ _. list_all spec.is_number_byte t ≡ true) [
      | inl g ↦ by_first (or_cases (spec.is_number t) (nat_le (length t) 1 && list_all is_ascii_alphabetic t) g)
      | inr g ↦ all_count numbers.is_roman roman_counts t (and_parts _ _ g).1
    ]
  where
    by_first : (spec.is_number t ≡ true) ⊎ ((nat_le (length t) 1 && list_all is_ascii_alphabetic t) ≡ true) → list_all spec.is_number_byte t ≡ true
    by_first (inl g) = (and_parts _ _ g).0
    by_first (inr g) = all_count is_ascii_alphabetic letter_counts t (and_parts _ _ g).1

-- the mark of a supplement as a list of words, which has none for an empty mark
unfoldable pub mark_words : Text → List Text
mark_words [] = []
mark_words (b ∷ t) = (b ∷ t) ∷ []

-- what is known of a mark that is not empty
record IsRead (t : Text) : Type 0 where
  bytes : list_all spec.is_number_byte t ≡ true
  mark : numbers.is_mark t ≡ true
  other : is_issue_word t ≡ false

read_mark : (b : ℕ) (t : Text) → IsMarkOf IsOne (b ∷ t) → IsRead (b ∷ t)
read_mark b t is =
    let parts = and_parts (numbers.is_mark (b ∷ t)) (not (is_issue_word (b ∷ t))) is.mark in
    record { bytes = mark_counts (b ∷ t) parts.0; mark = parts.0; other = not-true _ parts.1 }

pub words_of_mark : (t : Text) → IsMarkOf IsOne t → spec.words_in t ≡ mark_words t
unfolding mark_words
words_of_mark [] is = refl
words_of_mark (b ∷ t) is =
    let read = read_mark b t is in
    ap (flat_map spec.apart) (one_part (b ∷ t) read.bytes) ∙ append-nil (spec.apart (b ∷ t)) ∙ cond-false _ _ _ is.is

pub mark_bytes : (t : Text) → IsMarkOf IsOne t → list_all spec.is_number_byte t ≡ true
mark_bytes [] is = refl
mark_bytes (b ∷ t) is = (read_mark b t is).bytes

pub closed_mark : (t : Text) → IsMarkOf IsOne t → IsClosed t
closed_mark [] is = All-nil (λ b. spec.is_not_open b ≡ true)
closed_mark (b ∷ t) is = all_closed (b ∷ t) (read_mark b t is).bytes

supplement_mark : (t : Text) → IsMarkOf IsOne t → numbers.supplement (numbers.after_issue_word (mark_words t)) ≡ Some t
unfolding mark_words
supplement_mark [] is = refl
supplement_mark (b ∷ t) is =
    let read = read_mark b t is in
    let kept : numbers.after_issue_word ((b ∷ t) ∷ []) ≡ (b ∷ t) ∷ [] = cond-false _ _ _ read.other in
    ap numbers.supplement kept
    ∙ ap (λ c. cond (c && not (is_issue_word (b ∷ t))) (Some (b ∷ t)) None) read.mark
    ∙ ap (λ c. cond (not c) (Some (b ∷ t)) None) read.other

-- ---- words

unfoldable pub supplement_words : Option Text → List Text
supplement_words None = []
supplement_words (Some mark) = codes "Suppl" ∷ mark_words mark

words_of_supplement : (s : Option Text) → Holds (IsMarkOf IsOne) s → spec.words_in (numbers.written_supplement s) ≡ supplement_words s
unfolding Holds supplement_words
words_of_supplement None is = refl
words_of_supplement (Some mark) is = ap (λ ws. codes "Suppl" ∷ ws) (words_of_mark mark is)

-- a number before a space
pub number_then : (n rest : Text) → IsAlone n → spec.words_in (n ++ 0x20 ∷ rest) ≡ n ∷ spec.words_in rest
number_then n rest is =
    ap (flat_map spec.apart) (slice_split_at spec.is_gap n 0x20 rest (all_joined n (and_parts _ _ is.number).0) refl)
    ∙ ap (λ ws. ws ++ spec.words_in rest) (apart_alone n is)

number_before : (n : Text) (s : Option Text) → IsAlone n → spec.words_in (n ++ numbers.written_supplement s) ≡ n ∷ spec.words_in (numbers.written_supplement s)
number_before n None is = ap spec.words_in (append-nil n) ∙ one_word n is
number_before n (Some mark) is = number_then n (codes "Suppl " ++ mark) is

issue_words : Option Text → List Text → List Text
issue_words None ws = ws
issue_words (Some number) ws = codes "no" ∷ number ∷ ws

words_of_rest : (i s : Option Text) → Holds (IsNumberOf IsOne) i → Holds (IsMarkOf IsOne) s
    → spec.words_in (numbers.written_issue i ++ numbers.written_supplement s) ≡ issue_words i (supplement_words s)
unfolding Holds issue_words
words_of_rest None s is mark = words_of_supplement s mark
words_of_rest (Some n) s is mark =
    let alone : IsAlone n = record { number = is.number; one = is.is } in
    ap (λ ws. codes "no" ∷ ws) (number_before n s alone ∙ ap (λ ws. n ∷ ws) (words_of_supplement s mark))

first_before : (n : Text) (i s : Option Text) → IsAlone n
    → spec.words_in (n ++ (numbers.written_issue i ++ numbers.written_supplement s))
    ≡ n ∷ spec.words_in (numbers.written_issue i ++ numbers.written_supplement s)
first_before n None s is = number_before n s is
first_before n (Some m) s is = number_then n (codes "no. " ++ m ++ numbers.written_supplement s) is

-- ---- no brackets

pub codes_closed : (t : Text) → list_all spec.is_not_open t ≡ true → IsClosed t
codes_closed t h = AllPass-from_list_all spec.is_not_open t h

pub number_closed : (n : Text) → IsNumberOf IsOne n → IsClosed n
number_closed n is = all_closed n (and_parts _ _ is.number).0

abbrev pub C : ℕ → Type 0
C b = spec.is_not_open b ≡ true

closed_supplement : (s : Option Text) → Holds (IsMarkOf IsOne) s → IsClosed (numbers.written_supplement s)
unfolding Holds
closed_supplement None is = All-nil C
closed_supplement (Some mark) is = All-append C (codes " Suppl ") mark (codes_closed (codes " Suppl ") refl) (closed_mark mark is)

closed_issue : (i : Option Text) → Holds (IsNumberOf IsOne) i → IsClosed (numbers.written_issue i)
unfolding Holds
closed_issue None is = All-nil C
closed_issue (Some n) is = All-append C (codes " no. ") n (codes_closed (codes " no. ") refl) (number_closed n is)

closed_rest : (i s : Option Text) → Holds (IsNumberOf IsOne) i → Holds (IsMarkOf IsOne) s
    → IsClosed (numbers.written_issue i ++ numbers.written_supplement s)
closed_rest i s is mark = All-append C (numbers.written_issue i) (numbers.written_supplement s) (closed_issue i is) (closed_supplement s mark)

-- ---- read again

ended_again : (f i s : Option Text) → Holds (IsMarkOf IsOne) s
    → numbers.ended f i (supplement_words s) ≡ Some (record { first = f; issue = i; supplement = s })
unfolding Holds supplement_words
ended_again f i None is = refl
ended_again f i (Some mark) is = ap (numbers.with_supplement f i) (supplement_mark mark is)

pub same_after_year : (s : Option Text) → numbers.after_year (supplement_words s) ≡ supplement_words s
unfolding supplement_words mark_words
same_after_year None = refl
same_after_year (Some []) = refl
same_after_year (Some (b ∷ t)) = refl

same_after_word : (s : Option Text) → numbers.after_issue_word (supplement_words s) ≡ supplement_words s
unfolding supplement_words
same_after_word None = refl
same_after_word (Some mark) = refl

pub none_again : (s : Option Text) → Holds (IsMarkOf IsOne) s
    → numbers.from_first (numbers.after_label (supplement_words s)) ≡ Some (record { first = None; issue = None; supplement = s })
unfolding supplement_words
none_again None is = refl
none_again (Some mark) is = ended_again None None (Some mark) is

-- after the first number
pub number_first : (n : Text) (ws : List Text) → IsAlone n
    → numbers.from_first (numbers.after_label (n ∷ ws)) ≡ numbers.after_first n (numbers.after_year ws)
number_first n ws is =
    let no : is_label n ≡ false = no_label n (and_parts _ _ is.number).1 in
    ap numbers.from_first (cond-false _ _ _ no)
    ∙ ap (λ b. cond b (numbers.after_first n (numbers.after_year ws)) (numbers.ended None None (n ∷ ws))) is.number

pub one_again : (n : Text) (s : Option Text) → Holds (IsMarkOf IsOne) s
    → numbers.after_first n (supplement_words s) ≡ Some (record { first = Some n; issue = None; supplement = s })
unfolding supplement_words
one_again n None is = refl
one_again n (Some mark) is = ended_again (Some n) None (Some mark) is

two_again : (n m : Text) (s : Option Text) → IsAlone m → Holds (IsMarkOf IsOne) s
    → numbers.after_first n (codes "no" ∷ m ∷ supplement_words s) ≡ Some (record { first = Some n; issue = Some m; supplement = s })
two_again n m s is mark =
    let ws = supplement_words s in
    let no : is_issue_word m ≡ false = (or_parts _ _ (no_label m (and_parts _ _ is.number).1)).1 in
    ap (numbers.with_issue n) (cond-false _ _ _ no)
    ∙ ap (λ b. cond b (numbers.ended (Some n) (Some m) (numbers.after_issue_word (numbers.after_year ws))) (numbers.ended (Some n) None (m ∷ ws))) is.number
    ∙ ap (numbers.ended (Some n) (Some m)) (ap numbers.after_issue_word (same_after_year s) ∙ same_after_word s)
    ∙ ended_again (Some n) (Some m) s mark

again : (f i s : Option Text) → Holds (IsNumberOf IsOne) f → Holds (IsNumberOf IsOne) i → Holds (IsMarkOf IsOne) s → AreOrdered f i
    → numbers.numbers_in (numbers.written (record { first = f; issue = i; supplement = s })) ≡ Some (record { first = f; issue = i; supplement = s })
unfolding Holds AreOrdered issue_words
again None None s f i mark ordered =
    ap (λ ws. numbers.from_first (numbers.after_label ws))
    (closed_words (numbers.written_supplement s) (closed_supplement s mark) ∙ words_of_supplement s mark)
    ∙ none_again s mark
again None (Some m) s f i mark ordered = absurd ordered
again (Some n) None s f i mark ordered =
    let alone : IsAlone n = record { number = f.number; one = f.is } in
    let rest = numbers.written_issue None ++ numbers.written_supplement s in
    ap (λ ws. numbers.from_first (numbers.after_label ws))
    (closed_words (n ++ rest) (All-append C n rest (number_closed n f) (closed_rest None s tt mark))
    ∙ first_before n None s alone ∙ ap (λ ws. n ∷ ws) (words_of_rest None s tt mark))
    ∙ number_first n (supplement_words s) alone ∙ ap (numbers.after_first n) (same_after_year s) ∙ one_again n s mark
again (Some n) (Some m) s f i mark ordered =
    let alone : IsAlone n = record { number = f.number; one = f.is } in
    let other : IsAlone m = record { number = i.number; one = i.is } in
    let rest = numbers.written_issue (Some m) ++ numbers.written_supplement s in
    ap (λ ws. numbers.from_first (numbers.after_label ws))
    (closed_words (n ++ rest) (All-append C n rest (number_closed n f) (closed_rest (Some m) s i mark))
    ∙ first_before n (Some m) s alone ∙ ap (λ ws. n ∷ ws) (words_of_rest (Some m) s i mark))
    ∙ number_first n (codes "no" ∷ m ∷ supplement_words s) alone ∙ two_again n m s other mark

pub written_stay : (text : Text) (n : Numbers) → numbers.numbers_in text ≡ Some n → numbers.numbers_in (numbers.written n) ≡ Some n
written_stay text n e =
    let is = ones text n e in again n.first n.issue n.supplement is.first is.issue is.supplement is.ordered
