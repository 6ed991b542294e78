-- What a title mentions is an identifier, and a part of the title.
use Rattle.std.proofs.Common.{◌≡◌, ℕ, suc, ◌+◌, ◌-◌, List, [], ◌∷◌, Bool, true, false, cond, Option, Some, None}
use Rattle.std.proofs.Common.{take, drop, refl, sym, ap, ◌∙◌, arith}
use Rattle.std.specs.Prelude.{nat_le}
use Rattle.std.specs.List.{All, count_by, onto_first}
use Rattle.std.specs.Option.{option_or}
use Rattle.std.proofs.lemmas.Bool.{leb-true, leb-false}
use Rattle.std.proofs.lemmas.List.{drop_all, drop-take, length-take, take_all}
use Rattle.std.proofs.lemmas.List.Elements.{All-cons, All-head, All-tail, All-weaker}
use Rattle.text_model.specs.Texts.{Text}
use Rattle.work_identifiers.specs.declared.namespace.Namespace.{Namespace}
use Rattle.work_identifiers.specs.Forms.{IsIdentifier}
use Rattle.work_identifiers.specs.Places.{identifier_in, identifier_alone, IsPartOf}
use Rattle.work_identifiers.specs.Mentions.{most_numbers, has_number, is_space, is_label, labelled, words_of, mention_at, first_mention}
use Rattle.work_identifiers.specs.Mentions.{mention_among, is_searched, mention_in}
use Rattle.work_identifiers.proofs.Parts.{drop_twice, take_twice, none_are, named_is, alone_is, named_part, alone_part}

-- ---- parts of parts

whole_part : (text : Text) (start a c k : ℕ) → IsPartOf text (take k (drop a (take c (drop start text))))
whole_part text start a c k = by_order (nat_le a c) refl
  where
    rest : Text
    rest = drop start text

    by_order : (b : Bool) → nat_le a c ≡ b → IsPartOf text (take k (drop a (take c rest)))
    by_order true h =
        let same : a + (c - a) ≡ c = omega (arith, leb-true a c h) in
        let both = take_twice k (c - a) (drop (start + a) text) in (
          start + a,
          both.0,
          ap (λ n. take k (drop a (take n rest))) (sym same) ∙ ap (take k) (drop-take a (c - a) rest)
              ∙ ap (λ t. take k (take (c - a) t)) (drop_twice text start a) ∙ both.1,
        )
    by_order false h =
        let none : drop a (take c rest) ≡ [] = drop_all a (take c rest) (omega (arith, leb-false a c h, length-take c rest)) in
        (0, 0, ap (take k) none ∙ take_all k [] (omega arith))

part_of_part : (text word n : Text) → IsPartOf text word → IsPartOf word n → IsPartOf text n
part_of_part text word n is more =
    let whole = whole_part text is.0 more.0 is.1 more.1 in
    (whole.0, whole.1, more.2 ∙ ap (λ w. take more.1 (drop more.0 w)) is.2 ∙ whole.2)

-- ---- words

-- the first is a beginning of the text, and the others are parts of it
abbrev IsCut : Text → List Text → Type 0
IsCut t [] = Unit {0}
IsCut t (word ∷ words) = ((count : ℕ) × (word ≡ take count t)) × All (IsPartOf t) words

later_part : (b : ℕ) (t part : Text) → IsPartOf t part → IsPartOf (b ∷ t) part
later_part b t part is = (suc is.0, is.1, is.2)

later_parts : (b : ℕ) (t : Text) (words : List Text) → All (IsPartOf t) words → All (IsPartOf (b ∷ t)) words
later_parts b t words all = All-weaker (IsPartOf t) (IsPartOf (b ∷ t)) (later_part b t) words all

cut_parts : (t : Text) (words : List Text) → IsCut t words → All (IsPartOf t) words
cut_parts t [] is = none_are (IsPartOf t)
cut_parts t (word ∷ words) is = All-cons (IsPartOf t) word words (0, is.0.0, is.0.1) is.1

words_cut : (t : Text) → IsCut t (words_of t)
words_cut [] = ((0, refl), none_are (IsPartOf []))
words_cut (b ∷ t) = by_test (is_space b) (words_of t) (words_cut t)
  where
    by_test : (c : Bool) (words : List Text) → IsCut t words → IsCut (b ∷ t) (cond c ([] ∷ words) (onto_first b words))
    by_test true words is = ((0, refl), later_parts b t words (cut_parts t words is))
    by_test false [] is = ((1, refl), none_are (IsPartOf (b ∷ t)))
    by_test false (word ∷ words) is = ((suc is.0.0, ap (λ rest. b ∷ rest) is.0.1), later_parts b t words is.1)

-- ---- the identifier

-- what is found in a word is an identifier, and a part of it
abbrev IsIn : Namespace → Text → Text → Type 0
IsIn namespace text n = IsIdentifier namespace n × IsPartOf text n

word_has : (namespace : Namespace) (before word n : Text) → mention_at namespace before word ≡ Some n → IsIn namespace word n
word_has namespace before word n h = by_digits (has_number word) h
  where
    by_label : (c : Bool) → cond c (identifier_alone namespace word) None ≡ Some n → IsIn namespace word n
    by_label true e = (alone_is namespace word n e, alone_part namespace word n e)
    by_label false e = cc

    by_found : (o : Option Text) → identifier_in namespace word ≡ o → option_or o (labelled namespace before word) ≡ Some n → IsIn namespace word n
    by_found None e g = by_label (is_label namespace before) g
    by_found (Some m) e g = (named_is namespace word n (e ∙ g), named_part namespace word n (e ∙ g))

    by_digits : (c : Bool) → cond c (option_or (identifier_in namespace word) (labelled namespace before word)) None ≡ Some n → IsIn namespace word n
    by_digits true e = by_found (identifier_in namespace word) refl e
    by_digits false e = cc

first_has : (namespace : Namespace) (text before : Text) (words : List Text) (n : Text) → All (IsPartOf text) words
    → first_mention namespace before words ≡ Some n → IsIn namespace text n
first_has namespace text before [] n all h = cc
first_has namespace text before (word ∷ words) n all h =
    by_found (mention_at namespace before word) refl
    (first_has namespace text word words n (All-tail (IsPartOf text) word words all)) h
  where
    by_found : (o : Option Text) → mention_at namespace before word ≡ o → (first_mention namespace word words ≡ Some n → IsIn namespace text n)
        → option_or o (first_mention namespace word words) ≡ Some n → IsIn namespace text n
    by_found None e later g = later g
    by_found (Some m) e later g =
        let is = word_has namespace before word n (e ∙ g) in
        (is.0, part_of_part text word n (All-head (IsPartOf text) word words all) is.1)

mention_has : (namespace : Namespace) (text n : Text) → mention_in namespace text ≡ Some n → IsIn namespace text n
mention_has namespace text n h = by_test (is_searched text) h
  where
    by_count : (c : Bool) → cond c (first_mention namespace [] (words_of text)) None ≡ Some n → IsIn namespace text n
    by_count true e = first_has namespace text [] (words_of text) n (cut_parts text (words_of text) (words_cut text)) e
    by_count false e = cc

    by_test : (c : Bool) → cond c (mention_among namespace (words_of text)) None ≡ Some n → IsIn namespace text n
    by_test true e = by_count (nat_le (count_by has_number (words_of text)) most_numbers) e
    by_test false e = cc

pub mention_is : (namespace : Namespace) (text n : Text) → mention_in namespace text ≡ Some n → IsIdentifier namespace n
mention_is namespace text n h = (mention_has namespace text n h).0

pub mention_part : (namespace : Namespace) (text n : Text) → mention_in namespace text ≡ Some n → IsPartOf text n
mention_part namespace text n h = (mention_has namespace text n h).1
