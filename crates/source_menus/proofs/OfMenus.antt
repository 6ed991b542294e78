-- The links that are found, and the requests that give them.
use Rattle.std.proofs.Common.{◌≡◌, false, List, [], ◌∷◌, ◌++◌, filter, length, take, drop, refl, sym, ap, subst, ◌∙◌}
use Rattle.std.specs.List.{All, Contains, flat_map}
use Rattle.std.proofs.Math.Seq.{take-append_seam, drop-append_seam}
use Rattle.std.proofs.lemmas.List.Elements.{All-nil, All-cons, All-append, All-head, All-tail, All-filter, All-contains_itself}
use Rattle.menu.specs.Entries.{MenuEntry}
use Rattle.menu.specs.declared.entry.Resolution.{Resolution}
use Rattle.menu.specs.declared.entry.Resolution.TheVariants as resolution
use Rattle.text_model.specs.Texts.{Text}
use Rattle.kev_read.specs.Pairs.{KeyValue}
use Rattle.menu_source.specs.Menus.{Menus}
use Rattle.source_requests.specs.Requests.{fitting}
use Rattle.source_menus.specs.Found.{Any, FoundLink, Further, Own, RequestValue, first_of_each, is_own, links_by, links_for, links_in, pairs_for, target}
use Rattle.source_menus.proofs.FirstOfEach.{each_append, is_new, is_other}

-- what holds of all links
pub all_kept : (P : FoundLink → Type 0) (links : List FoundLink) → All P links → All P (first_of_each links)
all_kept P [] all = all
all_kept P (link ∷ links) all =
    let rest = first_of_each links in
    All-cons P link (filter (is_other (target link)) rest) (All-head P link links all)
    (All-filter (is_other (target link)) P rest (all_kept P links (All-tail P link links all)))

pub are_those : (links : List FoundLink) → All (Contains links) (first_of_each links)
are_those links = all_kept (Contains links) links (All-contains_itself links)

-- links of other requests than the query's own
abbrev pub IsOther : FoundLink → Type 0
IsOther link = is_own link.request ≡ false

not_own : (request : RequestValue) (menu : List MenuEntry) → is_own request ≡ false → All IsOther (links_in request menu)
not_own request [] other = All-nil IsOther
not_own request (entry ∷ menu) other = by_resolution entry.resolution (not_own request menu other)
  where
    by_resolution : (found : Resolution) → All IsOther (links_in request menu)
        → All IsOther (links_in request (record { name = entry.name; resolution = found } ∷ menu))
    by_resolution (resolution.Link row link) rest =
        All-cons IsOther (record { name = entry.name; row = row; link = link; request = request }) (links_in request menu) other rest
    by_resolution resolution.NoRow rest = rest
    by_resolution resolution.NoLink rest = rest
    by_resolution resolution.NotAWebLink rest = rest
    by_resolution (resolution.OverBudget bytes) rest = rest

further_other : (menus : Menus) (pairs : List KeyValue) (numbers : List Text)
    → All IsOther (flat_map (λ number. links_by menus pairs (Further number)) numbers)
further_other menus pairs [] = All-nil IsOther
further_other menus pairs (number ∷ numbers) =
    All-append IsOther (links_by menus pairs (Further number)) (flat_map (λ n. links_by menus pairs (Further n)) numbers)
    (not_own (Further number) (menus (fitting (pairs_for (Further number) pairs))) refl) (further_other menus pairs numbers)

-- the first ones, and the others
pub lead : (links more : List FoundLink) → take (length (first_of_each links)) (first_of_each (links ++ more)) ≡ first_of_each links
lead links more =
    ap (take (length (first_of_each links))) (each_append links more)
    ∙ take-append_seam (first_of_each links) (filter (is_new links) (first_of_each more))

rest : (links more : List FoundLink) → All IsOther more → All IsOther (drop (length (first_of_each links)) (first_of_each (links ++ more)))
rest links more all =
    let left = filter (is_new links) (first_of_each more) in
    let same = ap (drop (length (first_of_each links))) (each_append links more) ∙ drop-append_seam (first_of_each links) left in
    subst (All IsOther) (sym same) (All-filter (is_new links) IsOther (first_of_each more) (all_kept IsOther more all))

pub others : (menus : Menus) (numbers : List Text) (pairs : List KeyValue)
    → All IsOther (drop (length (first_of_each (links_by menus pairs Own))) (links_for menus numbers pairs))
others menus numbers pairs =
    let further = flat_map (λ number. links_by menus pairs (Further number)) numbers in
    rest (links_by menus pairs Own) (further ++ links_by menus pairs Any)
    (All-append IsOther further (links_by menus pairs Any) (further_other menus pairs numbers)
    (not_own Any (menus (fitting (pairs_for Any pairs))) refl))
