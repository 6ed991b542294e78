-- How long identifiers are, and that they begin with a digit.
use Rattle.std.proofs.Common.{◌≡◌, ℕ, ◌≤◌, [], ◌∷◌, ◌++◌, Bool, true, false, cond, length, refl, subst, arith}
use Rattle.std.specs.Prelude.{codes}
use Rattle.std.specs.Char.{is_ascii_digit}
use Rattle.std.proofs.lemmas.Bool.{and_parts, eqb-true}
use Rattle.std.proofs.lemmas.List.{length-append}
use Rattle.std.proofs.lemmas.List.Sums.{take_while-cons}
use Rattle.text_model.specs.Texts.{Text}
use Rattle.work_identifiers.specs.declared.namespace.Namespace.{Namespace}
use Rattle.work_identifiers.specs.declared.namespace.Namespace.TheVariants.{Doi, Pmid, Oclc, Pmc, Arxiv}
use Rattle.work_identifiers.specs.Ends.{is_no_break, first_part}
use Rattle.work_identifiers.specs.Forms.{IsIdentifier, is_doi_prefix, is_doi, is_number}
use Rattle.work_identifiers.specs.Uris.{uri_start, uri_of, longest_uri}
use Rattle.openurl_reading.proofs.Identified.{IsPlain}

-- ---- lengths

-- how long the URIs of identifiers are, as the law says
abbrev pub AreShort : Type 0
AreShort = (namespace : Namespace) (n : Text) → IsIdentifier namespace n → length (uri_of namespace n) ≤ longest_uri namespace

start_long : (namespace : Namespace) (n : Text) → IsPlain namespace → length n ≤ length (uri_of namespace n)
start_long Doi n plain = omega (arith, length-append (codes "info:doi/") n, length-append (codes "info:doi/" ++ n) [])
start_long Pmid n plain = omega (arith, length-append (codes "info:pmid/") n, length-append (codes "info:pmid/" ++ n) [])
start_long Oclc n plain = omega (arith, length-append (codes "info:oclcnum/") n, length-append (codes "info:oclcnum/" ++ n) [])
start_long Pmc n plain = omega (arith, length-append (uri_start Pmc) n, length-append (uri_start Pmc ++ n) (codes "/"))
start_long Arxiv n plain = cc

pub identifier_short : AreShort → (namespace : Namespace) (n : Text) → IsPlain namespace → IsIdentifier namespace n → length n ≤ longest_uri namespace
identifier_short short namespace n plain is =
    let uri : length (uri_of namespace n) ≤ longest_uri namespace = short namespace n is in
    let more : length n ≤ length (uri_of namespace n) = start_long namespace n plain in
    omega (arith, uri, more)

-- ---- the first byte

-- a number, a date or an identifier
abbrev pub BeginsWithDigit : Text → Type 0
BeginsWithDigit n = (b : ℕ) × (t : Text) × (n ≡ b ∷ t) × (is_ascii_digit b ≡ true)

doi_digit : (n : Text) → is_doi n ≡ true → BeginsWithDigit n
doi_digit [] h = absurd (no h)
  where
    no : is_doi [] ≡ true → ⊥
    no e = cc
doi_digit (b ∷ t) h =
    let prefix : is_doi_prefix (first_part (b ∷ t)) ≡ true = (and_parts _ _ (and_parts _ _ (and_parts _ _ h).0).0).0 in
    (b, t, refl, by_test (is_no_break b) (subst (λ p. is_doi_prefix p ≡ true) (take_while-cons is_no_break b t) prefix))
  where
    by_test : (c : Bool) → is_doi_prefix (cond c (b ∷ first_part t) []) ≡ true → is_ascii_digit b ≡ true
    by_test true g = let one : b ≡ 0x31 = eqb-true b 0x31 (and_parts _ _ (and_parts _ _ g).0).0 in rw one refl
    by_test false g = cc

number_digit : (most : ℕ) (n : Text) → is_number most n ≡ true → BeginsWithDigit n
number_digit most [] h = absurd (no h)
  where
    no : is_number most [] ≡ true → ⊥
    no e = cc
number_digit most (b ∷ t) h = (b, t, refl, (and_parts _ _ (and_parts _ _ h).1).0)

pub doi_begins : (n : Text) → IsIdentifier Doi n → BeginsWithDigit n
doi_begins n is = doi_digit n (and_parts _ _ is).1

pub number_begins : (most : ℕ) (n : Text) → is_number most n ≡ true → BeginsWithDigit n
number_begins most n is = number_digit most n is
