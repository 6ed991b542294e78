-- The links of the entries one at a time.
use Rattle.std.proofs.Common.{◌≡◌, ℕ, ◌+◌, ◌<◌, not, ◌||◌, ◌==◌, List, [], ◌∷◌, ◌++◌, length, take, get_or, refl, sym, ap, ◌∙◌, append_assoc, arith, suc}
use Rattle.std.proofs.lemmas.Bool.{ne_eqb}
use Rattle.std.specs.List.{flat_map, list_any, cons_option}
use Rattle.std.proofs.lemmas.Grind.{flat_map-append}
use Rattle.std.proofs.lemmas.List.{take_more}
use Rattle.std.proofs.lemmas.List.Elements.{filter_map-append}
use Rattle.text_model.specs.Texts.{Text}
use Rattle.menu.specs.Entries.{MenuEntry}
use Rattle.menu.specs.declared.entry.Resolution.{Resolution}
use Rattle.menu.specs.declared.entry.Resolution.TheVariants as resolution
use Rattle.menu.specs.Links.{NamedLink, link_under, named_link, links, is_link, has_link, is_empty}

-- one more entry, printed after those before it
pub links_more : (f : NamedLink → Text) (menu : List MenuEntry) (i : ℕ) (d : MenuEntry) → i < length menu
    → flat_map f (links (take (i + 1) menu)) ≡ flat_map f (links (take i menu)) ++ flat_map f (links (get_or menu i d ∷ []))
links_more f menu i d within =
    ap (λ es. flat_map f (links es)) (take_more menu i d within)
    ∙ (ap (flat_map f) (filter_map-append named_link (take i menu) (get_or menu i d ∷ []))
    ∙ flat_map-append f (links (take i menu)) (links (get_or menu i d ∷ [])))

-- the step of a loop that prints the entries after an existing text
pub links_step : (f : NamedLink → Text) (start before after : Text) (menu : List MenuEntry) (i : ℕ) (d : MenuEntry) → i < length menu
    → before ≡ start ++ flat_map f (links (take i menu)) → after ≡ before ++ flat_map f (links (get_or menu i d ∷ []))
    → after ≡ start ++ flat_map f (links (take (i + 1) menu))
links_step f start before after menu i d within h g =
    g ∙ (ap (λ (t : Text). t ++ flat_map f (links (get_or menu i d ∷ []))) h
    ∙ (append_assoc start (flat_map f (links (take i menu))) (flat_map f (links (get_or menu i d ∷ [])))
    ∙ ap (λ (t : Text). start ++ t) (sym (links_more f menu i d within))))

-- no entry has a link exactly if there are no links
pub no_links : (menu : List MenuEntry) → not (list_any has_link menu) ≡ is_empty menu
no_links [] = refl
no_links (entry ∷ menu) = by_resolution entry.resolution (no_links menu)
  where
    by_resolution : (r : Resolution) → not (list_any has_link menu) ≡ is_empty menu
        → not (is_link r || list_any has_link menu) ≡ (length (cons_option (link_under entry.name r) (links menu)) == 0)
    by_resolution (resolution.Link row link) rest = sym (ne_eqb (suc (length (links menu))) 0 (λ e. omega (arith, e)))
    by_resolution resolution.NoRow rest = rest
    by_resolution resolution.NoLink rest = rest
    by_resolution resolution.NotAWebLink rest = rest
    by_resolution (resolution.OverBudget bytes) rest = rest
