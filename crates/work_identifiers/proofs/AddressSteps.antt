-- One byte more of an address, and of a DOI with a view after it.
use Rattle.std.proofs.Common.{◌≡◌, ℕ, ◌+◌, ◌<◌, ◌≤◌, [], ◌∷◌, ◌++◌, true, false, cond, Some, None, length, get_or, take, drop}
use Rattle.std.proofs.Common.{ap, sym, ◌∙◌, append-nil, append_assoc}
use Rattle.std.specs.Option.{option_or}
use Rattle.std.proofs.lemmas.List.{take_all, drop_all, take_more, drop_more}
use Rattle.text_model.specs.Texts.{Text}
use Rattle.work_identifiers.specs.Addresses.{is_cut, without_view, doi_after, first_doi}

-- ---- the first DOI

doi_split : (t : Text) (i : ℕ) → i < length t
    → first_doi (drop i t) ≡ option_or (doi_after (get_or t i 0) (drop (i + 1) t)) (first_doi (drop (i + 1) t))
doi_split t i h = ap first_doi (drop_more t i 0 h)

pub doi_more : (t : Text) (i : ℕ) → i < length t → first_doi (drop i t) ≡ first_doi t → doi_after (get_or t i 0) (drop (i + 1) t) ≡ None
    → first_doi (drop (i + 1) t) ≡ first_doi t
doi_more t i h so_far none =
    let rest = first_doi (drop (i + 1) t) in ap (λ o. option_or o rest) (sym none) ∙ sym (doi_split t i h) ∙ so_far

pub doi_here : (t n : Text) (i : ℕ) → i < length t → first_doi (drop i t) ≡ first_doi t → doi_after (get_or t i 0) (drop (i + 1) t) ≡ Some n
    → Some n ≡ first_doi t
doi_here t n i h so_far found =
    let rest = first_doi (drop (i + 1) t) in ap (λ o. option_or o rest) (sym found) ∙ sym (doi_split t i h) ∙ so_far

pub doi_none : (t : Text) (i : ℕ) → length t ≤ i → first_doi (drop i t) ≡ first_doi t → None ≡ first_doi t
doi_none t i h so_far = ap first_doi (sym (drop_all i t h)) ∙ so_far

pub ruleset doi_steps = (doi_more, doi_here, doi_none)

-- ---- the part before a view

view_split : (t : Text) (i : ℕ) → i < length t
    → without_view (drop i t) ≡ cond (is_cut (get_or t i 0) (drop (i + 1) t)) [] (get_or t i 0 ∷ without_view (drop (i + 1) t))
view_split t i h = ap without_view (drop_more t i 0 h)

pub view_more : (t : Text) (i : ℕ) → i < length t → take i t ++ without_view (drop i t) ≡ without_view t
    → is_cut (get_or t i 0) (drop (i + 1) t) ≡ false → take (i + 1) t ++ without_view (drop (i + 1) t) ≡ without_view t
view_more t i h so_far uncut =
    let b = get_or t i 0 in
    let rest = without_view (drop (i + 1) t) in
    ap (λ front. front ++ rest) (take_more t i 0 h) ∙ append_assoc (take i t) (b ∷ []) rest
    ∙ ap (λ c. take i t ++ cond c [] (b ∷ rest)) (sym uncut) ∙ ap (λ more. take i t ++ more) (sym (view_split t i h)) ∙ so_far

pub view_here : (t : Text) (i : ℕ) → i < length t → take i t ++ without_view (drop i t) ≡ without_view t
    → is_cut (get_or t i 0) (drop (i + 1) t) ≡ true → take i t ≡ without_view t
view_here t i h so_far is =
    let b = get_or t i 0 in
    let rest = without_view (drop (i + 1) t) in
    sym (append-nil (take i t)) ∙ ap (λ c. take i t ++ cond c [] (b ∷ rest)) (sym is) ∙ ap (λ more. take i t ++ more) (sym (view_split t i h)) ∙ so_far

pub view_all : (t : Text) (i : ℕ) → length t ≤ i → take i t ++ without_view (drop i t) ≡ without_view t → t ≡ without_view t
view_all t i h so_far =
    sym (take_all i t h) ∙ sym (append-nil (take i t)) ∙ ap (λ more. take i t ++ without_view more) (sym (drop_all i t h)) ∙ so_far

pub ruleset view_steps = (view_more, view_here, view_all)
