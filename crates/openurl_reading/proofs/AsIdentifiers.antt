-- A value in which an identifier is found is read as it is.
use Rattle.std.proofs.Common.{◌≡◌, ℕ, ◌+◌, ◌<◌, ◌≤◌, List, Bool, true, false, cond, ◌||◌, Some, drop, get_or, length, refl, sym, ap, ◌∙◌}
use Rattle.std.specs.Option.{is_some}
use Rattle.std.specs.Str.{bytes_eq}
use Rattle.std.proofs.lemmas.List.{drop_all, drop_more}
use Rattle.text_model.specs.Texts.{Text}
use Rattle.work_identifiers.specs.declared.namespace.Namespace.{Namespace}
use Rattle.work_identifiers.specs.declared.namespace.Namespace.TheVariants.{Doi, Pmid, Oclc, Pmc, Arxiv}
use Rattle.work_identifiers.specs.Places.{identifier_in}
use Rattle.written_texts.specs.declared.readings.Role.TheVariants.{Identifier}
use Rattle.written_texts.specs.Readings.{written}
use Rattle.openurl_reading.specs.Identifiers.{has_one_of, all_namespaces, as_identifier}
use Rattle.openurl_reading.proofs.Values.{same_key}

-- what is written as it is
read_as_it_is : (value : Text) → written Identifier value ≡ value → as_identifier value ≡ value
unfolding as_identifier
read_as_it_is value e = by_test (has_one_of all_namespaces value)
  where
    by_test : (b : Bool) → cond b value (written Identifier value) ≡ value
    by_test true = refl
    by_test false = e

-- by the steps of the code
pub same_text : (value text : Text) → text ≡ written Identifier value → bytes_eq text value ≡ true → text ≡ as_identifier value
same_text value text e h = let same = same_key text value h in same ∙ sym (read_as_it_is value (sym e ∙ same))

pub known_text : (value : Text) → has_one_of all_namespaces value ≡ true → value ≡ as_identifier value
unfolding as_identifier
known_text value h = ap (λ b. cond b value (written Identifier value)) (sym h)

pub other_text : (value text : Text) → text ≡ written Identifier value → has_one_of all_namespaces value ≡ false → text ≡ as_identifier value
unfolding as_identifier
other_text value text e h = e ∙ ap (λ b. cond b value (written Identifier value)) (sym h)

-- ---- a value in which one is found

abbrev found : Namespace → Text → Bool
found namespace value = is_some (identifier_in namespace value)

abbrev from_arxiv : Text → Bool
from_arxiv value = found Arxiv value || false

abbrev from_pmc : Text → Bool
from_pmc value = found Pmc value || from_arxiv value

abbrev from_oclc : Text → Bool
from_oclc value = found Oclc value || from_pmc value

abbrev from_pmid : Text → Bool
from_pmid value = found Pmid value || from_oclc value

after : (b c : Bool) → c ≡ true → b || c ≡ true
after true c h = refl
after false c h = h

here : (namespace : Namespace) (value n : Text) (b : Bool) → identifier_in namespace value ≡ Some n → found namespace value || b ≡ true
here namespace value n b e = ap (λ o. is_some o || b) e

has_one : (namespace : Namespace) (value n : Text) → identifier_in namespace value ≡ Some n → has_one_of all_namespaces value ≡ true
has_one Doi value n e = here Doi value n (from_pmid value) e
has_one Pmid value n e = after (found Doi value) (from_pmid value) (here Pmid value n (from_oclc value) e)
has_one Oclc value n e =
    after (found Doi value) (from_pmid value) (after (found Pmid value) (from_oclc value) (here Oclc value n (from_pmc value) e))
has_one Pmc value n e =
    after (found Doi value) (from_pmid value)
    (after (found Pmid value) (from_oclc value) (after (found Oclc value) (from_pmc value) (here Pmc value n (from_arxiv value) e)))
has_one Arxiv value n e =
    after (found Doi value) (from_pmid value)
    (after (found Pmid value) (from_oclc value)
    (after (found Oclc value) (from_pmc value) (after (found Pmc value) (from_arxiv value) (here Arxiv value n false e))))

pub found_as_it_is : (namespace : Namespace) (value n : Text) → identifier_in namespace value ≡ Some n → as_identifier value ≡ value
found_as_it_is namespace value n e = sym (known_text value (has_one namespace value n e))

-- ---- one namespace after another

split : (text : Text) (all : List Namespace) (i : ℕ) (d : Namespace) → i < length all
    → has_one_of (drop i all) text ≡ is_some (identifier_in (get_or all i d) text) || has_one_of (drop (i + 1) all) text
split text all i d h = ap (λ rest. has_one_of rest text) (drop_more all i d h)

pub one_later : (text : Text) (all : List Namespace) (i : ℕ) (d : Namespace) (b : Bool) → i < length all
    → is_some (identifier_in (get_or all i d) text) ≡ false → has_one_of (drop i all) text ≡ b → has_one_of (drop (i + 1) all) text ≡ b
one_later text all i d b h fails so_far =
    ap (λ c. c || has_one_of (drop (i + 1) all) text) (sym fails) ∙ sym (split text all i d h) ∙ so_far

pub one_here : (text : Text) (all : List Namespace) (i : ℕ) (d : Namespace) (b : Bool) → i < length all
    → is_some (identifier_in (get_or all i d) text) ≡ true → has_one_of (drop i all) text ≡ b → true ≡ b
one_here text all i d b h passes so_far =
    ap (λ c. c || has_one_of (drop (i + 1) all) text) (sym passes) ∙ sym (split text all i d h) ∙ so_far

pub one_nowhere : (text : Text) (all : List Namespace) (i : ℕ) (b : Bool) → length all ≤ i → has_one_of (drop i all) text ≡ b → false ≡ b
one_nowhere text all i b h so_far = ap (λ rest. has_one_of rest text) (sym (drop_all i all h)) ∙ so_far
