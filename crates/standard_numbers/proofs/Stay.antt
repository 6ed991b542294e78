-- A number as the standard writes it is found as it is.
use Rattle.std.proofs.Common.{◌≡◌, ◌-◌, [], ◌∷◌, ◌++◌, Bool, true, false, Some, length, get_or, take, drop, map}
use Rattle.std.proofs.Common.{filter, refl, ap, ◌∙◌, subst, arith, inl, inr, ◌⊎◌}
use Rattle.std.specs.Char.{to_ascii_uppercase}
use Rattle.std.proofs.lemmas.Bool.{and_parts, and_from, eqb-true, not-false}
use Rattle.std.proofs.lemmas.List.{take_all, get_or_past, length-drop}
use Rattle.text_model.specs.Texts.{Text}
use Rattle.standard_numbers.specs.Spellings.{hyphen, space, are_digits, spellings, right_first}
use Rattle.standard_numbers.specs.Issn.{is_issn, is_right_issn, issn_length, issn_of, counts, is_doubtful, says_issn, issns_in_capitals, issns_in}
use Rattle.standard_numbers.specs.Isbn.{is_isbn, is_right_isbn, isbn_length, compact, isbn_of, isbns_in}
use Rattle.standard_numbers.proofs.SpellingSteps.{alone}
use Rattle.standard_numbers.proofs.Forms.{capitals_stay, compact_stays, digits_are_symbols, all_digits_are_symbols}
use Rattle.standard_numbers.proofs.IssnForms.{IsInHalves, halves, whole}
use Rattle.standard_numbers.proofs.IsbnPlaces.{isbn_alone}
use Rattle.standard_numbers.proofs.RightFirst.{one_first}

-- ---- ISSNs

capitals-append : (s t : Text) → map to_ascii_uppercase s ≡ s → map to_ascii_uppercase t ≡ t → map to_ascii_uppercase (s ++ t) ≡ s ++ t
capitals-append [] t left right = right
capitals-append (b ∷ s) t left right =
    let heads : to_ascii_uppercase b ≡ b = cc in
    let tails : map to_ascii_uppercase s ≡ s = cc in
    let rest = capitals-append s t tails right in
    rw heads (ap (λ r. b ∷ r) rest)

issn_capitals : (issn : Text) → IsInHalves issn → map to_ascii_uppercase issn ≡ issn
issn_capitals issn is =
    let start = capitals_stay (take 4 issn) (all_digits_are_symbols (take 4 issn) is.start) in
    let end = capitals_stay (drop 5 issn) (digits_are_symbols (drop 5 issn) 4 is.end) in
    let all = capitals-append (take 4 issn) (hyphen ∷ drop 5 issn) start (ap (λ r. hyphen ∷ r) end) in
    subst (λ t. map to_ascii_uppercase t ≡ t) (whole issn is) all

-- an ISSN takes nine bytes
issn_alone : (issn : Text) → IsInHalves issn → issn_length space issn ≡ Some 9
issn_alone issn is =
    let past : get_or issn 9 0 ≡ 0 = get_or_past issn 9 0 (omega (arith, is.long)) in
    let four : take 4 (drop 5 issn) ≡ drop 5 issn = take_all 4 (drop 5 issn) (omega (arith, length-drop 5 issn, is.long)) in
    let end : are_digits 4 (take 4 (drop 5 issn)) ≡ true = ap (are_digits 4) four ∙ is.end in
    rw is.middle (rw past (rw is.start (rw end refl)))

-- and is written as it is
issn_written : (issn : Text) → IsInHalves issn → issn_of issn ≡ issn
issn_written issn is =
    let short : length issn - 4 ≡ 5 = omega (arith, is.long) in
    ap (λ k. take 4 issn ++ hyphen ∷ drop k issn) short ∙ whole issn is

still_counts : (said : Bool) (issn : Text) → counts false issn ≡ true → counts said issn ≡ true
still_counts true issn h = and_from _ _ (and_parts _ _ h).0 refl
still_counts false issn h = h

counts_alone : (said : Bool) (issn : Text) → counts said issn ≡ true → filter (counts said) (issn ∷ []) ≡ issn ∷ []
counts_alone said issn h = rw h refl

none_counts : (said : Bool) (issn : Text) → counts said issn ≡ false → filter (counts said) (issn ∷ []) ≡ []
none_counts said issn h = rw h refl

-- what is found in an ISSN is the ISSN, if it counts
issns_of_one : (issn : Text) → is_issn issn ≡ true → issns_in issn ≡ right_first is_right_issn (filter (counts (says_issn issn)) (issn ∷ []))
issns_of_one issn h =
    let is = halves issn h in
    let found : spellings issn_length issn ≡ issn ∷ [] = alone issn_length issn 9 (issn_alone issn is) is.long (omega arith) in
    let written : map issn_of (spellings issn_length issn) ≡ issn ∷ [] = ap (map issn_of) found ∙ ap (λ t. t ∷ []) (issn_written issn is) in
    ap issns_in_capitals (issn_capitals issn is) ∙ ap (λ ts. right_first is_right_issn (filter (counts (says_issn issn)) ts)) written

pub issn_stays : (issn : Text) → is_issn issn ≡ true → is_doubtful issn ≡ false → issns_in issn ≡ issn ∷ []
issn_stays issn h sure =
    issns_of_one issn h
    ∙ ap (right_first is_right_issn) (counts_alone (says_issn issn) issn (still_counts (says_issn issn) issn (not-false _ sure)))
    ∙ one_first is_right_issn issn

pub issn_alone_or_none : (issn : Text) → is_issn issn ≡ true → (issns_in issn ≡ issn ∷ []) ⊎ (issns_in issn ≡ [])
issn_alone_or_none issn h = by_test (counts (says_issn issn) issn) refl (issns_of_one issn h)
  where
    by_test : (b : Bool) → counts (says_issn issn) issn ≡ b
        → issns_in issn ≡ right_first is_right_issn (filter (counts (says_issn issn)) (issn ∷ [])) → (issns_in issn ≡ issn ∷ []) ⊎ (issns_in issn ≡ [])
    by_test true t e = inl (e ∙ ap (right_first is_right_issn) (counts_alone (says_issn issn) issn t) ∙ one_first is_right_issn issn)
    by_test false t e = inr (e ∙ ap (right_first is_right_issn) (none_counts (says_issn issn) issn t))

-- ---- ISBNs

isbn_whole : (isbn : Text) → length isbn ≡ 13 → isbn_of isbn ≡ isbn
isbn_whole isbn long = rw long refl

pub isbn_stays : (isbn : Text) → is_isbn isbn ≡ true → isbns_in isbn ≡ isbn ∷ []
isbn_stays isbn h =
    let a = and_parts _ _ (and_parts _ _ h).0 in
    let long : length isbn ≡ 13 = eqb-true _ _ a.0 in
    let symbols = all_digits_are_symbols isbn a.1 in
    let found : spellings isbn_length isbn ≡ isbn ∷ [] = alone isbn_length isbn 13 (isbn_alone isbn h) long (omega arith) in
    let digits : map compact (spellings isbn_length isbn) ≡ isbn ∷ [] = ap (map compact) found ∙ ap (λ t. t ∷ []) (compact_stays isbn symbols) in
    ap (λ t. map isbn_of (right_first is_right_isbn (map compact (spellings isbn_length t)))) (capitals_stay isbn symbols)
    ∙ ap (λ ts. map isbn_of (right_first is_right_isbn ts)) digits
    ∙ ap (map isbn_of) (one_first is_right_isbn isbn)
    ∙ ap (λ t. t ∷ []) (isbn_whole isbn long)
