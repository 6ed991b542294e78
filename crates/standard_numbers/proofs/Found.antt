-- What is found.
use Rattle.std.proofs.Common.{◌≡◌, ℕ, ◌<◌, List, Bool, true, false, cond, eqb, length, get_or, map, filter, refl, sym, subst}
use Rattle.std.specs.Borrow.{Bor}
use Rattle.std.specs.Char.{to_ascii_uppercase}
use Rattle.std.specs.List.{All}
use Rattle.std.proofs.lemmas.Bool.{eqb-true, eqb-false}
use Rattle.std.proofs.lemmas.List.{get_or-map, length-map}
use Rattle.std.proofs.lemmas.List.Elements.{All-get_or, All-map, All-filter, All-weaker}
use Rattle.text_model.specs.Texts.{Text, texts_of}
use Rattle.standard_numbers.specs.Spellings.{spellings, space, right_first}
use Rattle.standard_numbers.specs.Issn.{IsIssn, is_issn, is_right_issn, issn_length, issn_of, counts, says_issn, issns_in}
use Rattle.standard_numbers.specs.Isbn.{IsIsbn, is_right_isbn, isbn_length, compact, isbn_of, isbn13_of, isbns_in}
use Rattle.standard_numbers.proofs.SpellingSteps.{all_spellings}
use Rattle.standard_numbers.proofs.IssnForms.{issn_begins}
use Rattle.standard_numbers.proofs.IsbnPlaces.{AreIsbnDigits, isbn_begins, ten_digits, thirteen_digits}
use Rattle.standard_numbers.proofs.CheckSums.{isbn13_is}
use Rattle.standard_numbers.proofs.RightFirst.{all_right_first}

-- ---- spellings

pub issn_spellings : (t : Text) → All (λ s. is_issn (issn_of s) ≡ true) (spellings issn_length t)
issn_spellings t = all_spellings (λ s. is_issn (issn_of s) ≡ true) issn_length issn_begins t 0 space

pub isbn_spellings : (t : Text) → All (λ s. AreIsbnDigits (compact s)) (spellings isbn_length t)
isbn_spellings t = all_spellings (λ s. AreIsbnDigits (compact s)) isbn_length isbn_begins t 0 space

-- what holds of each text holds at the index of a reference
pub at_reference : (P : Text → Type 0) (xs : List (Bor Text)) (ts : List Text) (i : ℕ) (d : Bor Text) → texts_of xs ≡ ts → All P ts → i < length xs
    → P (get_or xs i d).now
at_reference P xs ts i d e all h =
    let here : All P (texts_of xs) = subst (All P) (sym e) all in
    let in_texts : i < length (texts_of xs) = subst (λ n. i < n) (sym (length-map xs (λ (x : Bor Text). x.now))) h in
    subst P (get_or-map (λ (x : Bor Text). x.now) xs i d d.now h) (All-get_or P (texts_of xs) i d.now in_texts here)

-- ---- what they become

pub issns_are : (text : Text) → All IsIssn (issns_in text)
issns_are text =
    let t : Text = map to_ascii_uppercase text in
    let all : All IsIssn (map issn_of (spellings issn_length t)) = All-map IsIssn issn_of (spellings issn_length t) (issn_spellings t) in
    all_right_first IsIssn is_right_issn (filter (counts (says_issn t)) (map issn_of (spellings issn_length t)))
    (All-filter (counts (says_issn t)) IsIssn (map issn_of (spellings issn_length t)) all)

isbn_at : (digits : Text) (long : Bool) → eqb (length digits) 13 ≡ long → AreIsbnDigits digits → IsIsbn (cond long digits (isbn13_of digits))
isbn_at digits true e h = thirteen_digits digits h (eqb-true _ _ e)
isbn_at digits false e h = isbn13_is digits (ten_digits digits h (eqb-false _ _ e))

pub isbn_is : (digits : Text) → AreIsbnDigits digits → IsIsbn (isbn_of digits)
isbn_is digits h = isbn_at digits _ refl h

pub isbns_are : (text : Text) → All IsIsbn (isbns_in text)
isbns_are text =
    let t : Text = map to_ascii_uppercase text in
    let all : All AreIsbnDigits (map compact (spellings isbn_length t)) = All-map AreIsbnDigits compact (spellings isbn_length t) (isbn_spellings t) in
    let ranked = all_right_first AreIsbnDigits is_right_isbn (map compact (spellings isbn_length t)) all in
    All-map IsIsbn isbn_of (right_first is_right_isbn (map compact (spellings isbn_length t)))
    (All-weaker AreIsbnDigits (λ digits. IsIsbn (isbn_of digits)) isbn_is (right_first is_right_isbn (map compact (spellings isbn_length t))) ranked)
