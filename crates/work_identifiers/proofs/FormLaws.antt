-- What follows from the form of an identifier.
use Rattle.std.proofs.Common.{◌≡◌, ℕ, ◌+◌, ◌<◌, ◌≤◌, [], ◌∷◌, ◌++◌, Bool, true, false, cond, ◌&&◌, Some, None, length, take, drop}
use Rattle.std.proofs.Common.{refl, sym, ap, ◌∙◌, subst, arith, append-nil}
use Rattle.std.specs.Prelude.{nat_le}
use Rattle.std.specs.Char.{is_ascii_digit}
use Rattle.std.specs.List.{list_all, prefix_len, take_while}
use Rattle.std.specs.Str.{IsAscii}
use Rattle.std.proofs.lemmas.Bool.{and_parts, and_from, not-true, eqb-true, leb-true, le-leb}
use Rattle.std.proofs.lemmas.Bool.Decides.{nat_tests}
use Rattle.std.proofs.lemmas.List.{drop_all}
use Rattle.std.proofs.lemmas.List.Elements.{All-weaker}
use Rattle.std.proofs.lemmas.List.Sums.{AllPass-from_list_all, take_while-cons}
use Rattle.std.proofs.lemmas.Str.Ascii.{IsAscii-from_all}
use Rattle.text_model.specs.Texts.{Text}
use Rattle.work_identifiers.specs.declared.namespace.Namespace.{Namespace}
use Rattle.work_identifiers.specs.declared.namespace.Namespace.TheVariants.{Doi, Pmid, Oclc, Pmc, Arxiv}
use Rattle.work_identifiers.specs.Ends.{is_before, from_start, ends_loosely, is_no_break, first_part, to_end}
use Rattle.work_identifiers.specs.Forms.{most_bytes, is_visible, is_doi_prefix, is_doi, is_number, has_form, is_identifier}
use Rattle.work_identifiers.specs.Places.{is_word_byte, is_no_stop, is_version, unversioned, part, identifier_at}
use Rattle.work_identifiers.proofs.EndSteps.{to_end-same}
use Rattle.work_identifiers.proofs.Preprints.{Pass, digits_pass, while_front, passes_whole, preprint_same, arxiv_ascii, arxiv_begins}

-- ---- ASCII

visible_below : (b : ℕ) → is_visible b ≡ true → b < 128
visible_below b h = grind (arith, nat_tests)

digit_below : (b : ℕ) → is_ascii_digit b ≡ true → b < 128
digit_below b h = grind (arith, nat_tests)

visible_ascii : (t : Text) → list_all is_visible t ≡ true → IsAscii t
visible_ascii t h = IsAscii-from_all t (All-weaker (λ b. is_visible b ≡ true) (λ b. b < 128) visible_below t (AllPass-from_list_all is_visible t h))

digits_ascii : (t : Text) → list_all is_ascii_digit t ≡ true → IsAscii t
digits_ascii t h = IsAscii-from_all t (All-weaker (λ b. is_ascii_digit b ≡ true) (λ b. b < 128) digit_below t (AllPass-from_list_all is_ascii_digit t h))

form_ascii : (namespace : Namespace) (n : Text) → has_form namespace n ≡ true → IsAscii n
form_ascii Doi n h = visible_ascii n (and_parts _ _ h).1
form_ascii Pmid n h = digits_ascii n (and_parts _ _ h).1
form_ascii Oclc n h = digits_ascii n (and_parts _ _ h).1
form_ascii Pmc n h = digits_ascii n (and_parts _ _ h).1
form_ascii Arxiv n h = arxiv_ascii n h

pub identifier_ascii : (namespace : Namespace) (n : Text) → is_identifier namespace n ≡ true → IsAscii n
identifier_ascii namespace n h = form_ascii namespace n (and_parts _ _ h).1

-- ---- the part of an identifier is itself

digit_in_word : (b : ℕ) → is_ascii_digit b ≡ true → is_word_byte b ≡ true
digit_in_word b h = grind (arith, nat_tests)

pub digits_before_slash : (t : Text) → list_all is_ascii_digit t ≡ true → take_while is_word_byte (t ++ 0x2f ∷ []) ≡ t
digits_before_slash t h =
    let all : Pass is_word_byte t = All-weaker (λ b. is_ascii_digit b ≡ true) (λ b. is_word_byte b ≡ true) digit_in_word t (digits_pass t h) in
    while_front is_word_byte t (0x2f ∷ []) all ∙ append-nil t

digit_is_no_stop : (b : ℕ) → is_ascii_digit b ≡ true → is_no_stop b ≡ true
digit_is_no_stop b h = grind (arith, nat_tests)

pub digits_unversioned : (t : Text) → list_all is_ascii_digit t ≡ true → unversioned t ≡ t
digits_unversioned t h =
    let all : Pass is_no_stop t = All-weaker (λ b. is_ascii_digit b ≡ true) (λ b. is_no_stop b ≡ true) digit_is_no_stop t (digits_pass t h) in
    let n : prefix_len is_no_stop t ≡ length t = passes_whole is_no_stop t all in
    let none : drop (prefix_len is_no_stop t) t ≡ [] = drop_all (prefix_len is_no_stop t) t (omega (arith, n)) in
    ap (λ rest. cond (is_version rest) (take (prefix_len is_no_stop t) t) t) none

firm : (namespace : Namespace) (n : Text) → is_identifier namespace n ≡ true → to_end n ≡ n
firm namespace n h = to_end-same n (not-true (ends_loosely n) (and_parts _ _ (and_parts _ _ h).0).1)

pub part_same : (namespace : Namespace) (n : Text) → is_identifier namespace n ≡ true → part namespace n ≡ n
part_same Doi n h = firm Doi n h
part_same Pmid n h = firm Pmid n h
part_same Oclc n h = firm Oclc n h
part_same Pmc n h = ap unversioned (firm Pmc n h) ∙ digits_unversioned n (and_parts _ _ (and_parts _ _ h).1).1
part_same Arxiv n h = ap to_end (preprint_same n (and_parts _ _ h).1) ∙ firm Arxiv n h

-- ---- where an identifier is

abbrev at_test : Namespace → Text → Text → Bool
at_test namespace t p = nat_le (length t) most_bytes && is_identifier namespace p

pub at_some : (namespace : Namespace) (t p : Text) → length t ≤ most_bytes → p ≡ part namespace t → is_identifier namespace p ≡ true
    → Some p ≡ identifier_at namespace t
at_some namespace t p short e is =
    let both : at_test namespace t (part namespace t) ≡ true =
    and_from _ _ (le-leb _ _ short) (subst (λ q. is_identifier namespace q ≡ true) e is) in
    ap Some e ∙ sym (ap (λ b. cond b (Some (part namespace t)) None) both)

pub at_none : (namespace : Namespace) (t p : Text) → p ≡ part namespace t → is_identifier namespace p ≡ false → None ≡ identifier_at namespace t
at_none namespace t p e is = by_length (nat_le (length t) most_bytes)
  where
    no : is_identifier namespace (part namespace t) ≡ false
    no = subst (λ q. is_identifier namespace q ≡ false) e is

    by_length : (b : Bool) → None ≡ cond (b && is_identifier namespace (part namespace t)) (Some (part namespace t)) None
    by_length true = sym (ap (λ b. cond b (Some (part namespace t)) None) no)
    by_length false = refl

pub at_identifier : (namespace : Namespace) (n : Text) → is_identifier namespace n ≡ true → identifier_at namespace n ≡ Some n
at_identifier namespace n h =
    let short : length n ≤ most_bytes = leb-true _ _ (and_parts _ _ (and_parts _ _ h).0).0 in
    sym (at_some namespace n n short (sym (part_same namespace n h)) h)

pub at_is : (namespace : Namespace) (t n : Text) → identifier_at namespace t ≡ Some n → (n ≡ part namespace t) × (is_identifier namespace n ≡ true)
at_is namespace t n h = by_test (at_test namespace t (part namespace t)) refl h
  where
    by_test : (b : Bool) → at_test namespace t (part namespace t) ≡ b → cond b (Some (part namespace t)) None ≡ Some n
        → (n ≡ part namespace t) × (is_identifier namespace n ≡ true)
    by_test true e g =
        let same : part namespace t ≡ n = cc in
        (sym same, subst (λ q. is_identifier namespace q ≡ true) same (and_parts _ _ e).1)
    by_test false e g = cc

-- ---- the beginning of an identifier

pub joined : (b : ℕ) (t : Text) → first_part (b ∷ t) ≡ cond (is_no_break b) (b ∷ first_part t) []
joined b t = take_while-cons is_no_break b t

doi_begins : (b : ℕ) (t : Text) → is_doi (b ∷ t) ≡ true → b ≡ 0x31
doi_begins b t h =
    let prefix : is_doi_prefix (first_part (b ∷ t)) ≡ true = (and_parts _ _ (and_parts _ _ (and_parts _ _ h).0).0).0 in
    by_test (is_no_break b) (subst (λ p. is_doi_prefix p ≡ true) (joined b t) prefix)
  where
    by_test : (c : Bool) → is_doi_prefix (cond c (b ∷ first_part t) []) ≡ true → b ≡ 0x31
    by_test true g = eqb-true b 0x31 (and_parts _ _ (and_parts _ _ g).0).0
    by_test false g = cc

pub starts : (b : ℕ) (t : Text) → is_before b ≡ false → from_start (b ∷ t) ≡ b ∷ t
starts b t h = ap (λ c. drop (cond c (1 + prefix_len is_before t) 0) (b ∷ t)) h

pub digit_starts : (b : ℕ) → is_ascii_digit b ≡ true → is_before b ≡ false
digit_starts b h = grind (arith, nat_tests)

number_starts : (most : ℕ) (n : Text) → is_number most n ≡ true → from_start n ≡ n
number_starts most [] h = cc
number_starts most (b ∷ t) h = starts b t (digit_starts b (and_parts _ _ (and_parts _ _ h).1).0)

form_starts : (namespace : Namespace) (n : Text) → has_form namespace n ≡ true → from_start n ≡ n
form_starts Doi [] h = cc
form_starts Doi (b ∷ t) h = starts b t (ap is_before (doi_begins b t h))
form_starts Pmid n h = number_starts 9 n h
form_starts Oclc n h = number_starts 12 n h
form_starts Pmc n h = number_starts 9 n h
form_starts Arxiv [] h = cc
form_starts Arxiv (b ∷ t) h = starts b t (arxiv_begins b t h)

pub identifier_starts : (namespace : Namespace) (n : Text) → is_identifier namespace n ≡ true → from_start n ≡ n
identifier_starts namespace n h = form_starts namespace n (and_parts _ _ h).1
