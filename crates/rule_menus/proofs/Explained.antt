-- The last row that is tried decides the entry of a target, and how its explanation ends.
use Rattle.std.proofs.Common.{◌≡◌, ℕ, ◌+◌, ◌≤◌, List, [], ◌∷◌, ◌++◌, Option, Some, Bool, true, false, cond, ◌||◌, map, refl, ap, sym, ◌∙◌, subst, arith, codes}
use Rattle.std.proofs.lemmas.Grind.{common_steps}
use Rattle.std.specs.Prelude.{All, find}
use Rattle.std.specs.List.{AllByRecursion, AllZip, enumerate_from, flat_map, list_any}
use Rattle.std.specs.Option.{unwrap_or}
use Rattle.std.proofs.lemmas.List.{append-nil}
use Rattle.std.proofs.lemmas.List.Elements.{All-head, All-tail, recursion_from_All}
use Rattle.text_model.specs.Texts.{Text}
use Rattle.kev_read.specs.Pairs.{KeyValue}
use Rattle.kbart_rows.specs.Identifiers.{ids_of, matching_rows}
use Rattle.rule_parser.specs.Meaning.{meaning}
use Rattle.verified_runs.specs.declared.run.TheConstants.{MAX_LINK_BYTES}
use Rattle.menu.specs.Links.{is_link}
use Rattle.menu.specs.declared.entry.Resolution.{Resolution}
use Rattle.menu.specs.declared.entry.Resolution.TheVariants as resolution
use Rattle.registry.specs.Entries.{chosen, last_resolution, menu_of, resolution_by, resolution_of}
use Rattle.rule_explanation.specs.Explanation.{explanation, is_detailed, text_of_rows, tried_row_text}
use Rattle.rule_explanation.specs.Rows.{gives_web_link, has_web_link, is_web, tried_rows, up_to_first}
use Rattle.rule_menus.specs.RuleMenus.{RuleTarget, HasSoundRules, coded, environment_by_rules, fate_of_meaning, most_bytes_of_row, resolution_by_rules}
use Rattle.rule_menus.specs.RuleMenus.{resolution_of_row_by_rules}
use Rattle.rule_menus.specs.Explanations.{EndAs, IsExplained, AreTriedRowsWithinBudget, lines_of}
use Rattle.rule_menus.proofs.Lines.{are_lines, end_joined, lines_joined, no_lines}
use Rattle.rule_menus.proofs.RowEnds.{Ends, LawsOfRows, row_ends}

module _ (target : RuleTarget) (pairs : List KeyValue) where
  abbrev test : ℕ → Bool
  test row = gives_web_link target.rules target.table pairs row

  abbrev f : ℕ → Resolution
  f row = resolution_of_row_by_rules target pairs row

  -- what a row within its budget gives
  abbrev g : ℕ → Resolution
  g row = resolution_by row (fate_of_meaning (meaning target.rules (environment_by_rules target pairs row)))

  abbrev IsWithin : ℕ → Type 0
  IsWithin row = most_bytes_of_row target pairs row ≤ MAX_LINK_BYTES

  within_budget : (row : ℕ) → IsWithin row → f row ≡ g row
  within_budget row within = grind (arith, common_steps)

  web_is_link : (row : ℕ) (o : Option Text) → is_link (resolution_by row (fate_of_meaning o)) ≡ is_web o
  web_is_link row o = grind (arith, common_steps)

  g_is_link : (row : ℕ) → is_link (g row) ≡ test row
  g_is_link row = web_is_link row (meaning target.rules (environment_by_rules target pairs row))

  -- ---- what is chosen

  abbrev last_tried : Resolution → List ℕ → Resolution
  last_tried before rows = last_resolution before (map g (up_to_first test rows))

  -- what is chosen of a row and later ones, where it is a link or not
  abbrev from_test : ℕ → List ℕ → Bool → Resolution
  from_test row rows b = unwrap_or (cond b (Some (f row)) (find is_link (map f rows))) (last_resolution (f row) (map f rows))

  chosen_is_last : (rows : List ℕ) (before : Resolution) → AllByRecursion IsWithin (up_to_first test rows) → chosen before (map f rows) ≡ last_tried before rows
  chosen_is_last [] before within = refl
  chosen_is_last (row ∷ rows) before within = by_test (test row) refl within (chosen_is_last rows)
    where
      by_test : (b : Bool) → test row ≡ b → AllByRecursion IsWithin (cond b (row ∷ []) (row ∷ up_to_first test rows))
          → ((r : Resolution) → AllByRecursion IsWithin (up_to_first test rows) → chosen r (map f rows) ≡ last_tried r rows)
          → from_test row rows (is_link (f row)) ≡ last_resolution before (map g (cond b (row ∷ []) (row ∷ up_to_first test rows)))
      by_test b web within rest = grind (arith, within_budget, g_is_link)

  last_is_link : (rows : List ℕ) (before : Resolution) → is_link before ≡ false → is_link (last_tried before rows) ≡ list_any test rows
  last_is_link [] before none = none
  last_is_link (row ∷ rows) before none = by_test (test row) refl (last_is_link rows)
    where
      by_test : (b : Bool) → test row ≡ b → ((r : Resolution) → is_link r ≡ false → is_link (last_tried r rows) ≡ list_any test rows)
          → is_link (last_resolution before (map g (cond b (row ∷ []) (row ∷ up_to_first test rows)))) ≡ (b || list_any test rows)
      by_test true web rest = g_is_link row ∙ web
      by_test false other rest = rest (g row) (g_is_link row ∙ other)

  abbrev rows_of_request : List ℕ
  rows_of_request = matching_rows target.table (ids_of pairs)

  entry_is_last : AreTriedRowsWithinBudget pairs target → resolution_by_rules target pairs ≡ last_tried resolution.NoRow rows_of_request
  entry_is_last within = chosen_is_last rows_of_request resolution.NoRow (recursion_from_All IsWithin (up_to_first test rows_of_request) within)

  pub found_is_link : AreTriedRowsWithinBudget pairs target → is_link (resolution_by_rules target pairs) ≡ has_web_link target.rules target.table pairs
  found_is_link within = ap is_link (entry_is_last within) ∙ last_is_link rows_of_request resolution.NoRow refl

  -- ---- how the explanation ends

  module _ (laws : LawsOfRows) (sound : HasSoundRules target) where
    abbrev text : ℕ × ℕ → Text
    text p = tried_row_text target.rules target.table pairs p

    text_ends : (place row : ℕ) → Ends (text (place, row)) (g row)
    text_ends place row = row_ends laws target.rules sound (environment_by_rules target pairs row) (is_detailed place) row

    rows_end : (rows : List ℕ) (place row : ℕ) (before : Resolution)
        → Ends (flat_map text (enumerate_from place (row ∷ rows))) (last_resolution before (map g (row ∷ rows)))
    rows_end [] place row before = grind (arith, text_ends, lines_joined, no_lines, append-nil)
    rows_end (next ∷ rows) place row before =
        let here = text_ends place row in
        let rest = rows_end rows (place + 1) next (g row) in
        record {
          lines = here.lines ++ rest.lines;
          are = lines_joined (text (place, row)) _ here.lines rest.lines here.are rest.are;
          last = end_joined here.lines rest.lines _ rest.last;
        }

    all_end : (rows : List ℕ) → Ends (text_of_rows target.rules target.table pairs rows) (last_resolution resolution.NoRow (map g rows))
    all_end [] = record { lines = codes "no row" ∷ []; are = record { before = λ rest. refl }; last = refl }
    all_end (row ∷ rows) = rows_end rows 1 row resolution.NoRow

    pub explanation_ends : AreTriedRowsWithinBudget pairs target
        → EndAs (lines_of (explanation target.rules target.table pairs)) (resolution_by_rules target pairs)
    explanation_ends within =
        let whole = all_end (tried_rows target.rules target.table pairs) in
        let ends : EndAs (lines_of (explanation target.rules target.table pairs)) (last_tried resolution.NoRow rows_of_request) =
        subst (λ ls. EndAs ls (last_tried resolution.NoRow rows_of_request)) (sym (are_lines _ whole.lines whole.are)) whole.last in
        subst (λ r. EndAs (lines_of (explanation target.rules target.table pairs)) r) (sym (entry_is_last within)) ends

-- ---- all targets

abbrev pub EntryIsExplained : List KeyValue → RuleTarget → Type 0
EntryIsExplained pairs target = HasSoundRules target → AreTriedRowsWithinBudget pairs target
    → EndAs (lines_of (explanation target.rules target.table pairs)) (resolution_of (coded target) pairs)

module _ (pairs : List KeyValue) (each : (target : RuleTarget) → EntryIsExplained pairs target) where
  pub menu_explained : (targets : List RuleTarget) → All HasSoundRules targets → All (AreTriedRowsWithinBudget pairs) targets
      → AllZip (IsExplained pairs) targets (menu_of (map coded targets) pairs)
  menu_explained [] sound within = tt
  menu_explained (target ∷ targets) sound within = (
    record { name = refl; last = each target (All-head HasSoundRules target targets sound) (All-head (AreTriedRowsWithinBudget pairs) target targets within) },
    menu_explained targets (All-tail HasSoundRules target targets sound) (All-tail (AreTriedRowsWithinBudget pairs) target targets within),
  )
