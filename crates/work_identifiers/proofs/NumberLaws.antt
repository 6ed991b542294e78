-- ISSNs and ISBNs alone, and in their URNs.
use Rattle.std.proofs.Common.{◌≡◌, ℕ, ◌+◌, ◌-◌, ◌<◌, [], ◌∷◌, ◌++◌, true, false, cond, length, drop}
use Rattle.std.proofs.Common.{refl, ap, ◌∙◌, arith}
use Rattle.std.specs.Prelude.{nat_lt, slice_index}
use Rattle.std.specs.List.{prefix_len}
use Rattle.std.proofs.lemmas.Bool.{and_parts, and_from, or_left, or_from, le-leb, le-ltb}
use Rattle.std.proofs.lemmas.Bool.Decides.{nat_tests}
use Rattle.std.proofs.lemmas.List.Elements.{All-get_or}
use Rattle.std.proofs.lemmas.List.Sums.{AllPass-from_list_all}
use Rattle.text_model.specs.Texts.{Text}
use Rattle.work_identifiers.specs.declared.numbers.StandardNumber.{StandardNumber}
use Rattle.work_identifiers.specs.declared.numbers.StandardNumber.TheVariants.{Issn, Isbn}
use Rattle.work_identifiers.specs.Ends.{is_before, is_after, opening_of, count_of, is_unopened, from_start, ends_loosely}
use Rattle.work_identifiers.specs.StandardNumbers.{is_number_byte, IsSpelled, is_spelled, is_number_at, is_number_named, is_clear, is_number_alone, urn_start}
use Rattle.work_identifiers.proofs.EndSteps.{to_end-same}
use Rattle.work_identifiers.proofs.FormLaws.{starts}

-- ---- the bytes of a number

no_before : (b : ℕ) → is_number_byte b ≡ true → is_before b ≡ false
no_before b h = grind (arith, nat_tests)

no_after : (b : ℕ) → is_number_byte b ≡ true → is_after b ≡ false
no_after b h = grind (arith, nat_tests)

opens_itself : (b : ℕ) → is_number_byte b ≡ true → opening_of b ≡ b
opens_itself b h = grind (arith, nat_tests)

firm_byte : (t : Text) → is_number_byte (slice_index t (length t - 1)) ≡ true → ends_loosely t ≡ false
firm_byte t h =
    let b = slice_index t (length t - 1) in
    let opened : is_unopened b t ≡ false =
    ap (λ c. nat_lt (count_of c t) (count_of b t)) (opens_itself b h) ∙ le-ltb (count_of b t) (count_of b t) (omega arith) in
    or_from _ _ (no_after b h) opened

spelled_some : (number : StandardNumber) (t : Text) → is_spelled number t ≡ true → 0 < length t
spelled_some Issn [] h = cc
spelled_some Isbn [] h = cc
spelled_some number (b ∷ t) h = omega arith

spelled_firm : (number : StandardNumber) (t : Text) → is_spelled number t ≡ true → ends_loosely t ≡ false
spelled_firm number t h =
    let some : 0 < length t = spelled_some number t h in
    firm_byte t
    (All-get_or (λ b. is_number_byte b ≡ true) t (length t - 1) 0 (omega arith) (AllPass-from_list_all is_number_byte t (and_parts _ _ h).0))

spelled_starts : (number : StandardNumber) (t : Text) → is_spelled number t ≡ true → from_start t ≡ t
spelled_starts Issn [] h = cc
spelled_starts Isbn [] h = cc
spelled_starts number (b ∷ t) h = starts b t (no_before b (and_parts _ _ (and_parts _ _ h).0).0)

-- after a colon
colon_starts : (number : StandardNumber) (t : Text) → is_spelled number t ≡ true → from_start (0x3a ∷ t) ≡ t
colon_starts Issn [] h = cc
colon_starts Isbn [] h = cc
colon_starts number (b ∷ t) h =
    ap (λ c. drop (1 + cond c (1 + prefix_len is_before t) 0) (0x3a ∷ b ∷ t)) (no_before b (and_parts _ _ (and_parts _ _ h).0).0)

-- ---- the number

spelled_at : (number : StandardNumber) (t : Text) → IsSpelled number t → is_number_at number t ≡ true
spelled_at number t is = and_from _ _ (le-leb _ _ is.0) (ap (is_spelled number) (to_end-same t (spelled_firm number t is.1)) ∙ is.1)

after_colon : (number : StandardNumber) (t : Text) → IsSpelled number t → is_number_at number (from_start (0x3a ∷ t)) ≡ true
after_colon number t is = ap (is_number_at number) (colon_starts number t is.1) ∙ spelled_at number t is

pub urn_names : (number : StandardNumber) (t : Text) → IsSpelled number t → is_number_named number (urn_start number ++ t) ≡ true
urn_names Issn t is = or_left _ _ (after_colon Issn t is)
urn_names Isbn t is = or_left _ _ (after_colon Isbn t is)

pub spelled_alone : (number : StandardNumber) (t : Text) → IsSpelled number t → is_clear number t ≡ true → is_number_alone number t ≡ true
spelled_alone number t is clear =
    let same = spelled_starts number t is.1 in
    and_from _ _ (ap (is_number_at number) same ∙ spelled_at number t is) (ap (is_clear number) same ∙ clear)

pub no_isbn : (t : Text) → is_number_named Isbn (urn_start Issn ++ t) ≡ false
no_isbn t = refl

pub no_issn : (t : Text) → is_number_named Issn (urn_start Isbn ++ t) ≡ false
no_issn t = refl
