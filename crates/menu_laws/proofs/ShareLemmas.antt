-- The share of some targets is the whole of the registry that has them alone.
use Rattle.std.proofs.Common.{◌≡◌, ◌≢◌, ◌≤◌, Bool, true, false, cond, List, [], ◌∷◌, length, refl}
use Rattle.std.proofs.Common.{sym, ap, ◌∙◌, arith}
use Rattle.std.specs.Prelude.{All, filter, map}
use Rattle.std.specs.List.{AllPairs, cons_option, flat_map}
use Rattle.std.specs.Str.Lines.{lines}
use Rattle.std.proofs.lemmas.List.{length-map}
use Rattle.std.proofs.lemmas.List.Elements.{All-filter, All-head, All-tail, All-weaker, filter_passes}
use Rattle.std.proofs.lemmas.List.Kept.{AllPairs-filter}
use Rattle.std.proofs.lemmas.Slice.Eq.{bytes_eq-Decides}
use Rattle.text_model.specs.Texts.{Text}
use Rattle.machine_model.specs.Safe.{IsSafe}
use Rattle.kev_read.specs.Pairs.{KeyValue}
use Rattle.menu.specs.Contained.{IsTargetName}
use Rattle.menu.specs.Links.{NamedLink, link_under, links}
use Rattle.menu.specs.PageReading.{IsSoundLink, HasSoundLinks}
use Rattle.menu.specs.Printed.{report, text}
use Rattle.menu.specs.Entries.{MenuEntry}
use Rattle.menu.specs.declared.entry.Resolution.{Resolution}
use Rattle.menu.specs.declared.entry.Resolution.TheVariants as resolution
use Rattle.registry.specs.Entries.{entry_of, menu_of, resolution_of}
use Rattle.registry.specs.MenuLinks.{IsMenuLink, IsSoundMenu}
use Rattle.registry.specs.Targets.{TargetValue, IsRegistry}
use Rattle.menu_laws.specs.Shares.{is_named, lines_under, links_under, targets_under}
use Rattle.menu_laws.proofs.MenuLines.{entry_line, link_line, report_lines, report_lines_under, text_lines, text_lines_under}

-- the menus of registries are sound
abbrev pub MenusAreSound : Type 0
MenusAreSound = (targets : List TargetValue) (pairs : List KeyValue) → IsRegistry targets → IsSoundMenu (menu_of targets pairs)

pub sound_links : (menu : List MenuEntry) → IsSoundMenu menu → HasSoundLinks menu
sound_links menu sound = All-weaker IsMenuLink IsSoundLink (λ l h. record { name = h.name; uri = h.uri }) (links menu) sound.links

pub one_after_another : (targets : List TargetValue) (pairs : List KeyValue) → menu_of targets pairs ≡ flat_map (λ target. menu_of (target ∷ []) pairs) targets
one_after_another [] pairs = refl
one_after_another (target ∷ targets) pairs = ap (λ (others : List MenuEntry). entry_of target pairs ∷ others) (one_after_another targets pairs)

module _ (test : Text → Bool) (pairs : List KeyValue) where
  entries_under : (targets : List TargetValue) → filter (λ entry. test entry.name) (menu_of targets pairs) ≡ menu_of (targets_under test targets) pairs
  entries_under [] = refl
  entries_under (target ∷ targets) = by_test (test target.name) (entries_under targets)
    where
      by_test : (b : Bool) → filter (λ entry. test entry.name) (menu_of targets pairs) ≡ menu_of (targets_under test targets) pairs
          → cond b (entry_of target pairs ∷ filter (λ entry. test entry.name) (menu_of targets pairs))
          (filter (λ entry. test entry.name) (menu_of targets pairs))
          ≡ menu_of (cond b (target ∷ targets_under test targets) (targets_under test targets)) pairs
      by_test true same = ap (λ (others : List MenuEntry). entry_of target pairs ∷ others) same
      by_test false same = same

  one_more_link : (name : Text) (r : Resolution) (b : Bool) (others : List NamedLink) (kept : List MenuEntry) → test name ≡ b
      → links_under test others ≡ links kept
      → links_under test (cons_option (link_under name r) others) ≡ links (cond b (record { name = name; resolution = r } ∷ kept) kept)
  one_more_link name (resolution.Link row link) true others kept is same = rw is (ap (λ (ls : List NamedLink). record { name = name; link = link } ∷ ls) same)
  one_more_link name (resolution.Link row link) false others kept is same = rw is same
  one_more_link name resolution.NoRow true others kept is same = same
  one_more_link name resolution.NoRow false others kept is same = same
  one_more_link name resolution.NoLink true others kept is same = same
  one_more_link name resolution.NoLink false others kept is same = same
  one_more_link name resolution.NotAWebLink true others kept is same = same
  one_more_link name resolution.NotAWebLink false others kept is same = same
  one_more_link name (resolution.OverBudget bytes) true others kept is same = same
  one_more_link name (resolution.OverBudget bytes) false others kept is same = same

  pub menu_links_under : (targets : List TargetValue) → links_under test (links (menu_of targets pairs)) ≡ links (menu_of (targets_under test targets) pairs)
  menu_links_under [] = refl
  menu_links_under (target ∷ targets) =
      one_more_link target.name (resolution_of target pairs) (test target.name) (links (menu_of targets pairs))
      (menu_of (targets_under test targets) pairs) refl (menu_links_under targets)
      ∙ by_test (test target.name)
    where
      by_test : (b : Bool) → links (cond b (entry_of target pairs ∷ menu_of (targets_under test targets) pairs) (menu_of (targets_under test targets) pairs))
          ≡ links (menu_of (cond b (target ∷ targets_under test targets) (targets_under test targets)) pairs)
      by_test true = refl
      by_test false = refl

-- fewer targets of a registry are a registry
length_kept : {X : Type 0} (test : X → Bool) (xs : List X) → length (filter test xs) ≤ length xs
length_kept test [] = omega arith
length_kept test (x ∷ xs) = by_test (test x) (length_kept test xs)
  where
    by_test : (b : Bool) → length (filter test xs) ≤ length xs → length (cond b (x ∷ filter test xs) (filter test xs)) ≤ length (x ∷ xs)
    by_test true h = omega (arith, h)
    by_test false h = omega (arith, h)

registry_under : (test : Text → Bool) (targets : List TargetValue) → IsRegistry targets → IsRegistry (targets_under test targets)
registry_under test targets known =
    let fewer = length_kept (λ (target : TargetValue). test target.name) targets in
    record {
      few = omega (arith, fewer, known.few);
      named = All-filter (λ target. test target.name) (λ target. IsTargetName target.name) targets known.named;
      safe = All-filter (λ target. test target.name) (λ target. IsSafe target.code) targets known.safe;
      once = AllPairs-filter (λ (a b : TargetValue). a.name ≢ b.name) (λ target. test target.name) targets known.once;
    }

module _ (sound : MenusAreSound) (test : Text → Bool) (targets : List TargetValue) (pairs : List KeyValue) (known : IsRegistry targets) where
  abbrev kept : List TargetValue
  kept = targets_under test targets

  pub text_share : lines_under test (text (menu_of targets pairs)) ≡ lines (text (menu_of kept pairs))
  text_share =
      text_lines_under test (menu_of targets pairs) (sound_links (menu_of targets pairs) (sound targets pairs known))
      ∙ ap (map link_line) (menu_links_under test pairs targets)
      ∙ sym (text_lines (menu_of kept pairs) (sound_links (menu_of kept pairs) (sound kept pairs (registry_under test targets known))))

  pub report_share : lines_under test (report (menu_of targets pairs)) ≡ lines (report (menu_of kept pairs))
  report_share =
      report_lines_under test (menu_of targets pairs) (sound targets pairs known).names
      ∙ ap (map entry_line) (entries_under test pairs targets)
      ∙ sym (report_lines (menu_of kept pairs) (sound kept pairs (registry_under test targets known)).names)

-- ---- at most one line of a name

few_links : (menu : List MenuEntry) → length (links menu) ≤ length menu
few_links [] = omega arith
few_links (entry ∷ menu) = by_resolution entry.resolution (few_links menu)
  where
    by_resolution : (r : Resolution) → length (links menu) ≤ length menu → length (cons_option (link_under entry.name r) (links menu)) ≤ length (entry ∷ menu)
    by_resolution (resolution.Link row link) h = omega (arith, h)
    by_resolution resolution.NoRow h = omega (arith, h)
    by_resolution resolution.NoLink h = omega (arith, h)
    by_resolution resolution.NotAWebLink h = omega (arith, h)
    by_resolution (resolution.OverBudget bytes) h = omega (arith, h)

at_most_one : (name : Text) (targets : List TargetValue) → All (λ target. is_named name target.name ≡ true) targets
    → AllPairs (λ (a b : TargetValue). a.name ≢ b.name) targets → length targets ≤ 1
at_most_one name [] named once = omega arith
at_most_one name (a ∷ []) named once = omega arith
at_most_one name (a ∷ b ∷ targets) named once =
    let here = (bytes_eq-Decides a.name name).0 (All-head (λ target. is_named name target.name ≡ true) a (b ∷ targets) named) in
    let there = (bytes_eq-Decides b.name name).0 (All-head (λ target. is_named name target.name ≡ true) b targets
    (All-tail (λ target. is_named name target.name ≡ true) a (b ∷ targets) named)) in
    absurd (once 0 1 a (omega arith) (omega arith) (here ∙ sym there))

module _ (sound : MenusAreSound) (name : Text) (targets : List TargetValue) (pairs : List KeyValue) (known : IsRegistry targets) where
  abbrev own : List TargetValue
  own = targets_under (is_named name) targets

  few_own : length own ≤ 1
  few_own =
      at_most_one name own (filter_passes (λ (target : TargetValue). is_named name target.name) targets)
      (registry_under (is_named name) targets known).once

  pub own_text : length (lines_under (is_named name) (text (menu_of targets pairs))) ≤ 1
  own_text =
      let menu = menu_of own pairs in
      let same = ap length (text_lines_under (is_named name) (menu_of targets pairs) (sound_links (menu_of targets pairs) (sound targets pairs known))
      ∙ ap (map link_line) (menu_links_under (is_named name) pairs targets)) in
      let one = length-map (links menu) link_line in
      let few = few_links menu in
      let each = length-map own (λ (target : TargetValue). entry_of target pairs) in
      omega (arith, same, one, few, each, few_own)

  pub own_report : length (lines_under (is_named name) (report (menu_of targets pairs))) ≤ 1
  own_report =
      let same = ap length (report_lines_under (is_named name) (menu_of targets pairs) (sound targets pairs known).names
      ∙ ap (map entry_line) (entries_under (is_named name) pairs targets)) in
      let one = length-map (menu_of own pairs) entry_line in
      let each = length-map own (λ (target : TargetValue). entry_of target pairs) in
      omega (arith, same, one, each, few_own)
