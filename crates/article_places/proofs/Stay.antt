-- A number is found as it is.
use Rattle.std.proofs.Common.{◌≡◌, ℕ, [], ◌∷◌, ◌++◌, true, false, cond, Some, None}
use Rattle.std.proofs.Common.{length, map, take, drop, refl, ap, ◌∙◌, arith, append-nil, inl, inr}
use Rattle.std.specs.Char.{is_ascii_digit, to_ascii_lowercase}
use Rattle.std.specs.List.{All, flat_map, list_all, list_any, prefix_len, slice_split}
use Rattle.std.proofs.lemmas.Bool.{and_parts, or_left, or_right, or_from, or_cases, cond-false, false≢true}
use Rattle.std.proofs.lemmas.Bool.Decides.{nat_tests}
use Rattle.std.proofs.lemmas.List.{take_all, drop_all}
use Rattle.std.proofs.lemmas.List.Elements.{All-weaker, All-get_or}
use Rattle.std.proofs.lemmas.List.Sums.{AllPass-from_list_all, prefix_len_is}
use Rattle.std.proofs.lemmas.List.Splits.{slice_split_none}
use Rattle.text_model.specs.Texts.{Text}
use Rattle.article_places.specs.Labels as labels
use Rattle.article_places.specs.Words as spec
use Rattle.article_places.proofs.OtherWords.{none_of}
use Rattle.article_places.specs.Enumerations.{after_label, ended, from_first, numbers_in, alone}

-- ---- a word with a digit says nothing of a number

digit_kept : (b : ℕ) → is_ascii_digit b ≡ true → is_ascii_digit (to_ascii_lowercase b) ≡ true
digit_kept b h = grind (arith, nat_tests)

digits_kept : (w : Text) → list_any is_ascii_digit w ≡ true → list_any is_ascii_digit (map to_ascii_lowercase w) ≡ true
digits_kept [] h = h
digits_kept (b ∷ w) h =
    elim (or_cases (is_ascii_digit b) (list_any is_ascii_digit w) h) as (λ _. list_any is_ascii_digit (map to_ascii_lowercase (b ∷ w)) ≡ true) [
      | inl e ↦ or_left (is_ascii_digit (to_ascii_lowercase b)) (list_any is_ascii_digit (map to_ascii_lowercase w)) (digit_kept b e)
      | inr e ↦ or_right (is_ascii_digit (to_ascii_lowercase b)) (list_any is_ascii_digit (map to_ascii_lowercase w)) (digits_kept w e)
    ]

pub no_label : (w : Text) → list_any is_ascii_digit w ≡ true → labels.is_label w ≡ false
no_label w has =
    let some : list_any is_ascii_digit (map to_ascii_lowercase w) ≡ true = digits_kept w has in
    or_from _ _ (none_of (list_any is_ascii_digit) labels.volume_words w refl some) (none_of (list_any is_ascii_digit) labels.issue_words w refl some)

-- ---- a number alone

number_closed : (b : ℕ) → spec.is_number_byte b ≡ true → spec.is_not_open b ≡ true
number_closed b h = grind (arith, nat_tests)

number_joins : (b : ℕ) → spec.is_number_byte b ≡ true → spec.is_gap b ≡ false
number_joins b h = grind (arith, nat_tests)

-- a number that is one word
pub record IsAlone (n : Text) : Type 0 where
  pub number : spec.is_number n ≡ true
  pub one : spec.is_joined n ≡ false

pub all_closed : (t : Text) → list_all spec.is_number_byte t ≡ true → All (λ b. spec.is_not_open b ≡ true) t
all_closed t h =
    All-weaker (λ b. spec.is_number_byte b ≡ true) (λ b. spec.is_not_open b ≡ true) number_closed t (AllPass-from_list_all spec.is_number_byte t h)

pub all_joined : (t : Text) → list_all spec.is_number_byte t ≡ true → All (λ b. spec.is_gap b ≡ false) t
all_joined t h =
    All-weaker (λ b. spec.is_number_byte b ≡ true) (λ b. spec.is_gap b ≡ false) number_joins t (AllPass-from_list_all spec.is_number_byte t h)

pub one_part : (t : Text) → list_all spec.is_number_byte t ≡ true → slice_split spec.is_gap t ≡ t ∷ []
one_part t h = slice_split_none spec.is_gap t (all_joined t h)

pub apart_alone : (n : Text) → IsAlone n → spec.apart n ≡ n ∷ []
apart_alone [] is = absurd (false≢true is.number)
apart_alone (b ∷ n) is = cond-false _ _ _ is.one

pub one_word : (n : Text) → IsAlone n → spec.words_in n ≡ n ∷ []
one_word n is = ap (flat_map spec.apart) (one_part n (and_parts _ _ is.number).0) ∙ append-nil (spec.apart n) ∙ apart_alone n is

-- a text without brackets
pub closed_words : (t : Text) → All (λ b. spec.is_not_open b ≡ true) t → spec.words t ≡ spec.words_in t
closed_words t closed =
    let all : prefix_len spec.is_not_open t ≡ length t =
    prefix_len_is spec.is_not_open t (length t) 0 (omega arith) (λ k g. All-get_or (λ b. spec.is_not_open b ≡ true) t k 0 g closed)
    (λ g. absurd (omega arith)) in
    ap (λ k. spec.words_in (take k t) ++ spec.bracketed (drop k t)) all
    ∙ ap (λ u. spec.words_in u ++ spec.bracketed (drop (length t) t)) (take_all (length t) t (omega arith))
    ∙ ap (λ u. spec.words_in t ++ spec.bracketed u) (drop_all (length t) t (omega arith)) ∙ append-nil (spec.words_in t)

words_alone : (n : Text) → IsAlone n → spec.words n ≡ n ∷ []
words_alone n is = closed_words n (all_closed n (and_parts _ _ is.number).0) ∙ one_word n is

pub alone_stays : (n : Text) → IsAlone n → numbers_in n ≡ Some (alone n)
alone_stays n is =
    let no : labels.is_label n ≡ false = no_label n (and_parts _ _ is.number).1 in
    ap (λ ws. from_first (after_label ws)) (words_alone n is)
    ∙ ap from_first (cond-false _ _ _ no)
    ∙ ap (λ b. cond b (Some (alone n)) (ended None None (n ∷ []))) is.number
