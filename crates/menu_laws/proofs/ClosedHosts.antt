-- The links of targets about whose hosts nothing is found.
use Rattle.std.proofs.Common.{◌≡◌, ℕ, ◌<◌, true, false, length, List, [], ◌∷◌, map, All, Some, refl, get_or}
use Rattle.std.specs.Prelude.{◌↔◌, Contains}
use Rattle.std.specs.List.{AllByRecursion, AllZip, cons_option}
use Rattle.std.proofs.lemmas.List.Elements.{All-contains_itself, All-from_recursion, recursion_from_All}
use Rattle.text_model.specs.Texts.{Text}
use Rattle.kev_read.specs.Pairs.{KeyValue}
use Rattle.kbart_rows.specs.Cells.{Holdings}
use Rattle.rule_parser.specs.Rules.{IsSound, RuleSet}
use Rattle.rule_parser.specs.Meaning.{meaning}
use Rattle.menu.specs.WebLink.{is_web_link}
use Rattle.menu.specs.Links.{NamedLink, link_under, links}
use Rattle.menu.specs.declared.entry.Resolution.{Resolution}
use Rattle.menu.specs.declared.entry.Resolution.TheVariants as resolution
use Rattle.registry.specs.Entries.{menu_of, resolution_of}
use Rattle.lint_laws.specs.RowLinks.{HasHostOfRow, environment_of_cells, has_open_hosts}
use Rattle.rule_menus.specs.FirstLinks.{IsFirstWebLink}
use Rattle.rule_menus.specs.RuleMenus.{HasSoundRules, RuleTarget, coded}
use Rattle.menu_laws.specs.Hosts.{HasClosedHosts, HasHostOfFirstRow, HasHostOfItsRow}

-- what lower crates say
pub record LawsOfHosts : Type 0 where
  pub chosen : (target : RuleTarget) (pairs : List KeyValue) (row : ℕ) (link : Text) → HasSoundRules target
      → (resolution_of (coded target) pairs ≡ resolution.Link row link) ↔ IsFirstWebLink target pairs row link
  pub host : (rules : RuleSet) (table : Holdings) (row : ℕ) (pairs : List KeyValue) (link : Text)
      → IsSound rules → has_open_hosts rules table ≡ false → row < length table.rows
      → meaning rules (environment_of_cells rules table (get_or table.rows row []) pairs) ≡ Some link
      → is_web_link link ≡ true → HasHostOfRow rules table row pairs link

module _ (laws : LawsOfHosts) (pairs : List KeyValue) where
  pub closed_target : (target : RuleTarget) (row : ℕ) (link : Text) → HasSoundRules target → HasClosedHosts target
      → resolution_of (coded target) pairs ≡ resolution.Link row link → HasHostOfRow target.rules target.table row pairs link
  closed_target target row link sound closed is =
      let first = ((laws.chosen target pairs row link sound).0 is).here in
      laws.host target.rules target.table row pairs link sound closed first.there first.means first.web

  entries : (targets : List RuleTarget) → AllByRecursion HasSoundRules targets → AllZip (HasHostOfItsRow pairs) targets (menu_of (map coded targets) pairs)
  entries [] sound = tt
  entries (target ∷ targets) sound =
      (λ closed row link is. closed_target target row link sound.0 closed is, entries targets sound.1)

  pub closed_entries : (targets : List RuleTarget) → All HasSoundRules targets → AllZip (HasHostOfItsRow pairs) targets (menu_of (map coded targets) pairs)
  closed_entries targets sound = entries targets (recursion_from_All HasSoundRules targets sound)

  -- ---- all links

  module _ (all : List RuleTarget) where
    links_from : (targets : List RuleTarget) → AllByRecursion HasSoundRules targets → AllByRecursion HasClosedHosts targets
        → AllByRecursion (Contains all) targets
        → AllByRecursion (HasHostOfFirstRow all pairs) (links (menu_of (map coded targets) pairs))
    links_from [] sound closed among = tt
    links_from (target ∷ targets) sound closed among =
        by_resolution (resolution_of (coded target) pairs) refl (links_from targets sound.1 closed.1 among.1)
      where
        rest : List NamedLink
        rest = links (menu_of (map coded targets) pairs)

        by_resolution : (r : Resolution) → resolution_of (coded target) pairs ≡ r → AllByRecursion (HasHostOfFirstRow all pairs) rest
            → AllByRecursion (HasHostOfFirstRow all pairs) (cons_option (link_under target.name r) rest)
        by_resolution (resolution.Link row link) is later = (
          record {
            target = target;
            among = among.0;
            name = refl;
            row = row;
            first = (laws.chosen target pairs row link sound.0).0 is;
            host = closed_target target row link sound.0 closed.0 is;
          },
          later,
        )
        by_resolution resolution.NoRow is later = later
        by_resolution resolution.NoLink is later = later
        by_resolution resolution.NotAWebLink is later = later
        by_resolution (resolution.OverBudget bytes) is later = later

  pub closed_links : (targets : List RuleTarget) → All HasSoundRules targets → All HasClosedHosts targets
      → All (HasHostOfFirstRow targets pairs) (links (menu_of (map coded targets) pairs))
  closed_links targets sound closed =
      All-from_recursion (HasHostOfFirstRow targets pairs) (links (menu_of (map coded targets) pairs))
      (links_from targets targets (recursion_from_All HasSoundRules targets sound) (recursion_from_All HasClosedHosts targets closed)
      (recursion_from_All (Contains targets) targets (All-contains_itself targets)))
