-- The DOIs of identifiers of arXiv.
use Rattle.std.proofs.Common.{◌≡◌, ℕ, ◌+◌, ◌-◌, ◌<◌, [], ◌∷◌, ◌++◌, true, not, length, take, drop, get_or}
use Rattle.std.proofs.Common.{refl, sym, ap, ◌∙◌, subst, arith}
use Rattle.std.specs.Prelude.{slice_index}
use Rattle.std.specs.Char.{is_ascii_digit, to_ascii_lowercase}
use Rattle.std.specs.List.{list_all}
use Rattle.std.specs.Str.{IsAscii}
use Rattle.std.proofs.lemmas.Bool.{and_parts, and_from, le-leb}
use Rattle.std.proofs.lemmas.Bool.Decides.{nat_tests}
use Rattle.std.proofs.lemmas.List.{length-append, get_or-append-add}
use Rattle.std.proofs.lemmas.List.Sums.{list_all-from_AllPass}
use Rattle.std.proofs.lemmas.Str.{IsAscii-append, IsAscii-take, IsAscii-drop}
use Rattle.std.proofs.lemmas.Str.Ascii.{IsAscii-map}
use Rattle.text_model.specs.Texts.{Text}
use Rattle.work_identifiers.specs.declared.namespace.Namespace.TheVariants.{Doi, Arxiv}
use Rattle.work_identifiers.specs.Ends.{ends_loosely}
use Rattle.work_identifiers.specs.Forms.{is_digit_or_stop, is_visible, is_doi, is_lead_byte, lead_length, name_length}
use Rattle.work_identifiers.specs.Forms.{is_arxiv, IsIdentifier}
use Rattle.work_identifiers.specs.Uris.{without_class, canonical_arxiv, arxiv_start, arxiv_doi}
use Rattle.work_identifiers.proofs.Preprints.{arxiv_passes}
use Rattle.work_identifiers.proofs.PreprintForms.{firm_digit, arxiv_last}
use Rattle.work_identifiers.proofs.PreprintForms.{canonical_is}
use Rattle.work_identifiers.proofs.PreprintForms.{arxiv_short, arxiv_identifier}

-- ---- the DOI

lead_visible : (b : ℕ) → is_lead_byte b ≡ true → is_visible b ≡ true
lead_visible b h = grind (arith, nat_tests)

joined_visible : (b : ℕ) → is_digit_or_stop b ≡ true → is_visible b ≡ true
joined_visible b h = grind (arith, nat_tests)

started_last : (n : Text) → 0 < length n → slice_index (arxiv_start ++ n) (length (arxiv_start ++ n) - 1) ≡ slice_index n (length n - 1)
started_last n h =
    let at : length (arxiv_start ++ n) - 1 ≡ length arxiv_start + (length n - 1) = omega (arith, length-append arxiv_start n) in
    ap (λ k. get_or (arxiv_start ++ n) k 0) at ∙ get_or-append-add arxiv_start n (length n - 1) 0

arxiv_some : (n : Text) → is_arxiv n ≡ true → 0 < length n
arxiv_some [] h = cc
arxiv_some (b ∷ t) h = omega arith

started_doi : (n : Text) → is_arxiv n ≡ true → IsIdentifier Doi (arxiv_start ++ n)
started_doi n h =
    let doi = arxiv_start ++ n in
    let long : length doi ≡ 15 + length n = length-append arxiv_start n in
    let visible : list_all is_visible n ≡ true =
    list_all-from_AllPass is_visible n (arxiv_passes (λ b. is_visible b ≡ true) lead_visible joined_visible n h) in
    let form : is_doi doi ≡ true = and_from _ _ (and_from _ _ (and_from _ _ refl (le-leb _ _ (omega (arith, long)))) refl) visible in
    let firm : not (ends_loosely doi) ≡ true =
    ap not (firm_digit doi (ap is_ascii_digit (started_last n (arxiv_some n h)) ∙ arxiv_last n h)) in
    and_from _ _ (and_from _ _ (le-leb _ _ (omega (arith, long, arxiv_short n h))) firm) form

pub arxiv_doi_is : (n : Text) → IsIdentifier Arxiv n → IsIdentifier Doi (arxiv_doi n)
arxiv_doi_is n is = started_doi (canonical_arxiv n) (canonical_is n (and_parts _ _ is).1)

pub canonical_identifier : (n : Text) → IsIdentifier Arxiv n → IsIdentifier Arxiv (canonical_arxiv n)
canonical_identifier n is = arxiv_identifier (canonical_arxiv n) (canonical_is n (and_parts _ _ is).1)

-- ---- ASCII

lowered_below : (b : ℕ) → b < 128 → to_ascii_lowercase b < 128
lowered_below b h = grind (arith, nat_tests)

pub canonical_ascii : (n form : Text) → IsAscii n → form ≡ canonical_arxiv n → IsAscii form
canonical_ascii n form ascii same =
    let lead = take (lead_length n) n in
    subst IsAscii (sym same)
    (IsAscii-map to_ascii_lowercase (without_class n) lowered_below
    (IsAscii-append (take (name_length lead) lead) (drop (length lead - 1) n)
    (IsAscii-take lead (name_length lead) (IsAscii-take n (lead_length n) ascii)) (IsAscii-drop n (length lead - 1) ascii)))
