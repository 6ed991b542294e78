-- The first link of each target.
use Rattle.std.proofs.Common.{◌≡◌, ◌≤◌, ℕ, Bool, true, false, not, ◌&&◌, ◌||◌, cond, List, [], ◌∷◌, ◌++◌, filter, length, refl, sym, ap, subst, ◌∙◌, arith}
use Rattle.std.specs.List.{list_any}
use Rattle.std.specs.Str.{bytes_eq}
use Rattle.std.proofs.lemmas.Bool.{not-true}
use Rattle.std.proofs.lemmas.List.Elements.{All-weaker, filter-append, filter_passes}
use Rattle.std.proofs.lemmas.Slice.Eq.{bytes_eq-Decides}
use Rattle.text_model.specs.Texts.{Text}
use Rattle.text_model.proofs.Lists.{filter_all, filter_none}
use Rattle.menu.specs.declared.entry.Resolution.{Resolution}
use Rattle.menu.specs.declared.entry.Resolution.TheVariants as resolution
use Rattle.source_menus.specs.Parts.{target_of}
use Rattle.source_menus.specs.Found.{FoundLink, RequestValue, target, is_of, first_of_each, links_in}
use Rattle.source_menus.proofs.Filtered.{filter_within, filter_swaps, any_within, filter_same, filter_both}

-- a link is of another target than this one
abbrev pub is_other : Text → FoundLink → Bool
is_other name link = not (is_of name link)

-- the target of a link has none of these
abbrev pub is_new : List FoundLink → FoundLink → Bool
is_new links link = not (list_any (is_of (target link)) links)

-- ---- names of targets

bytes_eq-swap : (a b : Text) → bytes_eq a b ≡ true → bytes_eq b a ≡ true
bytes_eq-swap a b h = (bytes_eq-Decides b a).1 (sym ((bytes_eq-Decides a b).0 h))

bytes_eq-sym : (a b : Text) → bytes_eq a b ≡ bytes_eq b a
bytes_eq-sym a b = by_test (bytes_eq a b) refl (bytes_eq b a) refl
  where
    by_test : (c : Bool) → bytes_eq a b ≡ c → (d : Bool) → bytes_eq b a ≡ d → c ≡ d
    by_test true h true g = refl
    by_test true h false g = sym (bytes_eq-swap a b h) ∙ g
    by_test false h true g = sym h ∙ bytes_eq-swap b a g
    by_test false h false g = refl

-- a link of one target is not of another one
other_target : (name : Text) (link : FoundLink) → is_of name link ≡ false → (later : FoundLink) → is_of name later ≡ true
    → is_other (target link) later ≡ true
other_target name link h later g =
    let same : target later ≡ name = (bytes_eq-Decides (target later) name).0 g in
    ap not (ap (λ t. bytes_eq t (target link)) same ∙ bytes_eq-sym name (target link) ∙ h)

same_target : (name : Text) (link : FoundLink) → is_of name link ≡ true → (later : FoundLink) → is_other (target link) later ≡ true
    → is_of name later ≡ false
same_target name link h later g =
    let same : target link ≡ name = (bytes_eq-Decides (target link) name).0 h in
    sym (ap (λ t. bytes_eq (target later) t) same) ∙ not-true (bytes_eq (target later) (target link)) g

-- ---- the targets that have links

pub any_same : (name : Text) (links : List FoundLink) → list_any (is_of name) (first_of_each links) ≡ list_any (is_of name) links
any_same name [] = refl
any_same name (link ∷ links) = by_test (is_of name link) refl (any_same name links)
  where
    by_test : (b : Bool) → is_of name link ≡ b → list_any (is_of name) (first_of_each links) ≡ list_any (is_of name) links
        → (b || list_any (is_of name) (filter (is_other (target link)) (first_of_each links))) ≡ (b || list_any (is_of name) links)
    by_test true h s = refl
    by_test false h s = any_within (is_of name) (is_other (target link)) (other_target name link h) (first_of_each links) ∙ s

pub at_most_one : (name : Text) (links : List FoundLink) → length (filter (is_of name) (first_of_each links)) ≤ 1
at_most_one name [] = omega arith
at_most_one name (link ∷ links) = by_test (is_of name link) refl (at_most_one name links)
  where
    rest : List FoundLink
    rest = filter (is_of name) (filter (is_other (target link)) (first_of_each links))

    by_test : (b : Bool) → is_of name link ≡ b → length (filter (is_of name) (first_of_each links)) ≤ 1 → length (cond b (link ∷ rest) rest) ≤ 1
    by_test true h s =
        let none : rest ≡ [] =
        filter_none (is_of name) (filter (is_other (target link)) (first_of_each links))
        (All-weaker (λ later. is_other (target link) later ≡ true) (λ later. is_of name later ≡ false) (same_target name link h)
        (filter (is_other (target link)) (first_of_each links)) (filter_passes (is_other (target link)) (first_of_each links))) in
        subst (λ r. length (link ∷ r) ≤ 1) (sym none) (omega arith)
    by_test false h s =
        subst (λ r. length r ≤ 1) (sym (filter_within (is_of name) (is_other (target link)) (other_target name link h) (first_of_each links))) s

-- ---- links after others

no_more : (a b : Bool) → not (a || b) ≡ (not a && not b)
no_more true b = refl
no_more false b = refl

new_after : (link : FoundLink) (links : List FoundLink) (later : FoundLink)
    → is_new (link ∷ links) later ≡ (is_other (target link) later && is_new links later)
new_after link links later =
    no_more (is_of (target later) link) (list_any (is_of (target later)) links)
    ∙ ap (λ b. not b && is_new links later) (bytes_eq-sym (target link) (target later))

pub each_append : (links more : List FoundLink) → first_of_each (links ++ more) ≡ first_of_each links ++ filter (is_new links) (first_of_each more)
each_append [] more = sym (filter_all (is_new []) (first_of_each more) (λ k d h. refl))
each_append (link ∷ links) more =
    let other = is_other (target link) in
    ap (λ r. link ∷ filter other r) (each_append links more)
    ∙ ap (λ r. link ∷ r) (filter-append other (first_of_each links) (filter (is_new links) (first_of_each more)))
    ∙ ap (λ r. link ∷ (filter other (first_of_each links) ++ r))
    (filter_both other (is_new links) (is_new (link ∷ links)) (new_after link links) (first_of_each more))

-- those of other targets, before or after
other_first : (name : Text) (links : List FoundLink) → filter (is_other name) (first_of_each links) ≡ first_of_each (filter (is_other name) links)
other_first name [] = refl
other_first name (link ∷ links) = by_test (is_of name link) refl (other_first name links)
  where
    rest : List FoundLink
    rest = filter (is_other name) (filter (is_other (target link)) (first_of_each links))

    apart : is_of name link ≡ true → (later : FoundLink) → is_other name later ≡ true → is_other (target link) later ≡ true
    apart h later g =
        let same : target link ≡ name = (bytes_eq-Decides (target link) name).0 h in
        subst (λ t. is_other t later ≡ true) (sym same) g

    by_test : (b : Bool) → is_of name link ≡ b → filter (is_other name) (first_of_each links) ≡ first_of_each (filter (is_other name) links)
        → cond (not b) (link ∷ rest) rest ≡ first_of_each (cond (not b) (link ∷ filter (is_other name) links) (filter (is_other name) links))
    by_test true h s = filter_within (is_other name) (is_other (target link)) (apart h) (first_of_each links) ∙ s
    by_test false h s =
        ap (λ r. link ∷ r)
        (filter_swaps (is_other name) (is_other (target link)) (first_of_each links) ∙ ap (filter (is_other (target link))) s)

pub each_once : (links : List FoundLink) → first_of_each (first_of_each links) ≡ first_of_each links
each_once [] = refl
each_once (link ∷ links) =
    let other = is_other (target link) in
    ap (λ r. link ∷ r)
    (ap (filter other) (sym (other_first (target link) (first_of_each links)))
    ∙ filter_within other other (λ later h. h) (first_of_each (first_of_each links))
    ∙ ap (filter other) (each_once links))

pub each_after : (links more : List FoundLink) → first_of_each (first_of_each links ++ more) ≡ first_of_each (links ++ more)
each_after links more =
    each_append (first_of_each links) more
    ∙ ap (λ r. r ++ filter (is_new (first_of_each links)) (first_of_each more)) (each_once links)
    ∙ ap (λ r. first_of_each links ++ r)
    (filter_same (is_new (first_of_each links)) (is_new links) (λ later. ap not (any_same (target later) links)) (first_of_each more))
    ∙ sym (each_append links more)

-- one link more
one_more : (links : List FoundLink) (link : FoundLink) (b : Bool) → first_of_each links ≡ links → list_any (is_of (target link)) links ≡ b
    → first_of_each (links ++ link ∷ []) ≡ links ++ cond b [] (link ∷ [])
one_more links link b once h =
    each_append links (link ∷ []) ∙ ap (λ r. r ++ filter (is_new links) (link ∷ [])) once ∙ by_test b h
  where
    by_test : (c : Bool) → list_any (is_of (target link)) links ≡ c → links ++ filter (is_new links) (link ∷ []) ≡ links ++ cond c [] (link ∷ [])
    by_test true g = rw g refl
    by_test false g = rw g refl

-- the link of an entry, if its target has none yet
pub link_added : (request : RequestValue) (name : Text) (found : Resolution) (row : ℕ) (link : Text) (links : List FoundLink) (b : Bool)
    → found ≡ resolution.Link row link → first_of_each links ≡ links → list_any (is_of (target_of name)) links ≡ b
    → first_of_each (links ++ links_in request (record { name = name; resolution = found } ∷ []))
    ≡ links ++ cond b [] (record { name = name; row = row; link = link; request = request } ∷ [])
link_added request name found row link links b is once h =
    ap (λ it. first_of_each (links ++ links_in request (record { name = name; resolution = it } ∷ []))) is
    ∙ one_more links (record { name = name; row = row; link = link; request = request }) b once h
