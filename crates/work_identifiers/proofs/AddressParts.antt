-- What is found in the address of a page is a DOI, and a part of the address.
use Rattle.std.proofs.Common.{◌≡◌, ℕ, suc, [], ◌∷◌, Bool, true, false, cond, ◌&&◌, Option, Some, None, length, take, drop}
use Rattle.std.proofs.Common.{refl, sym, ap, ◌∙◌, arith}
use Rattle.std.specs.Prelude.{codes, nat_le}
use Rattle.std.specs.List.{prefix_len, take_while}
use Rattle.std.specs.Option.{option_or}
use Rattle.std.specs.Str.{bytes_eq}
use Rattle.std.proofs.lemmas.List.{take_all}
use Rattle.text_model.specs.Texts.{Text}
use Rattle.work_identifiers.specs.declared.namespace.Namespace.TheVariants.{Doi}
use Rattle.work_identifiers.specs.Forms.{IsIdentifier}
use Rattle.work_identifiers.specs.Places.{IsPartOf}
use Rattle.work_identifiers.specs.Addresses.{is_opener, is_no_closer, is_cut, without_view, is_version, preprint_length, without_version}
use Rattle.work_identifiers.specs.Addresses.{doi_at, doi_after, first_doi, doi_in_address, longest_address}
use Rattle.work_identifiers.proofs.FormLaws.{at_is}
use Rattle.work_identifiers.proofs.Parts.{IsRest, part_front, rest_of_rest, take_twice, whole_rest}

-- ---- beginnings

abbrev IsBeginning : Text → Text → Type 0
IsBeginning t front = (count : ℕ) × (front ≡ take count t)

beginning_of : (t s front : Text) → IsBeginning t s → IsBeginning s front → IsBeginning t front
beginning_of t s front is more =
    let both = take_twice more.0 is.0 t in (both.0, more.1 ∙ ap (take more.0) is.1 ∙ both.1)

view_beginning : (t : Text) → IsBeginning t (without_view t)
view_beginning [] = (0, refl)
view_beginning (b ∷ t) = by_test (is_cut b t) (view_beginning t)
  where
    by_test : (c : Bool) → IsBeginning t (without_view t) → IsBeginning (b ∷ t) (cond c [] (b ∷ without_view t))
    by_test true rest = (0, refl)
    by_test false rest = (suc rest.0, ap (λ more. b ∷ more) rest.1)

version_beginning : (t : Text) → IsBeginning t (without_version t)
version_beginning t = by_test (bytes_eq (take 8 t) (codes "10.1101/") && is_version (drop (preprint_length t) t))
  where
    by_test : (c : Bool) → IsBeginning t (cond c (take (preprint_length t) t) t)
    by_test true = (preprint_length t, refl)
    by_test false = (length t, sym (take_all (length t) t (omega arith)))

-- ---- the DOI

abbrev page : Text → Text
page t = without_version (without_view (take_while is_no_closer t))

page_beginning : (t : Text) → IsBeginning t (page t)
page_beginning t =
    let open_part = take_while is_no_closer t in
    beginning_of t (without_view open_part) (page t)
    (beginning_of t open_part (without_view open_part) (prefix_len is_no_closer t, refl) (view_beginning open_part))
    (version_beginning (without_view open_part))

doi_part : (text t n : Text) → IsRest text t → doi_at t ≡ Some n → IsPartOf text n
unfolding IsRest
doi_part text t n is h =
    let found = part_front Doi (page t) in
    let front = beginning_of t (page t) n (page_beginning t) (found.0, (at_is Doi (page t) n h).0 ∙ found.1) in
    (is.0, front.0, front.1 ∙ ap (take front.0) is.1)

abbrev IsDoiIn : Text → Text → Type 0
IsDoiIn text n = IsIdentifier Doi n × IsPartOf text n

after_doi : (text t n : Text) (b : ℕ) → IsRest text t → doi_after b t ≡ Some n → IsDoiIn text n
after_doi text t n b is h = by_test (is_opener b) h
  where
    by_test : (c : Bool) → cond c (doi_at t) None ≡ Some n → IsDoiIn text n
    by_test true e = ((at_is Doi (page t) n e).1, doi_part text t n is e)
    by_test false e = cc

first_is : (text t n : Text) → IsRest text t → first_doi t ≡ Some n → IsDoiIn text n
first_is text [] n is h = cc
first_is text (b ∷ t) n is h =
    let rest : IsRest text t = rest_of_rest text (b ∷ t) 1 is in by_found (doi_after b t) (λ m e. after_doi text t m b rest e) (first_is text t n rest) h
  where
    by_found : (o : Option Text) → ((m : Text) → o ≡ Some m → IsDoiIn text m) → (first_doi t ≡ Some n → IsDoiIn text n)
        → option_or o (first_doi t) ≡ Some n → IsDoiIn text n
    by_found None here later e = later e
    by_found (Some m) here later e = here n e

pub address_doi : (address n : Text) → doi_in_address address ≡ Some n → IsDoiIn address n
address_doi address n h = by_test (nat_le (length address) longest_address) h
  where
    by_test : (c : Bool) → cond c (first_doi address) None ≡ Some n → IsDoiIn address n
    by_test true e = first_is address address n (whole_rest address) e
    by_test false e = cc
