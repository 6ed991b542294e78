-- The menu by codes and the menu by rules, target by target.
use Rattle.std.proofs.Common.{arith, ◌≡◌, ℕ, List, [], ◌∷◌, Option, Bool, true, false, map, nat_lt, refl, ap, ◌∙◌}
use Rattle.std.proofs.lemmas.Grind.{common_steps}
use Rattle.std.specs.Prelude.{◌↔◌, All, if◌then◌else◌}
use Rattle.std.proofs.lemmas.List.Elements.{All-head, All-tail}
use Rattle.text_model.specs.Texts.{Text}
use Rattle.text_model.proofs.Lists.{map-same}
use Rattle.environment_model.specs.Environment.{Environment}
use Rattle.code_model.specs.Code.{Code}
use Rattle.machine_model.specs.Next.{outcome_of}
use Rattle.machine_model.specs.Runs.{HasOutcome, Outcome}
use Rattle.kev_read.specs.Pairs.{KeyValue}
use Rattle.kbart_rows.specs.Identifiers.{ids_of, matching_rows}
use Rattle.rule_parser.specs.Rules.{IsSound}
use Rattle.rule_parser.specs.Meaning.{meaning}
use Rattle.compiler_model.specs.Answer.{answer}
use Rattle.compiler_model.specs.Compiled.{code_of}
use Rattle.verified_runs.specs.declared.run.TheConstants.{MAX_LINK_BYTES}
use Rattle.menu.specs.declared.entry.Resolution.TheVariants.{NoRow}
use Rattle.verified_runs.specs.Fates.{OverBudget, ended, fate_in}
use Rattle.registry.specs.Entries.{chosen, entry_of, menu_of, resolution_by, resolution_of, resolution_of_row}
use Rattle.rule_menus.specs.RuleMenus.{RuleTarget, HasSoundRules, coded, environment_by_code, environment_by_rules, most_bytes_of_row}
use Rattle.rule_menus.specs.RuleMenus.{fate_of_meaning, fate_by_rules, resolution_of_row_by_rules, resolution_by_rules, entry_by_rules, menu_by_rules}
use Rattle.rule_menus.proofs.SameMeaning.{CodeMeansRules}

-- the outcome of a run is the one that is computed
abbrev pub OutcomesAreDecided : Type 0
OutcomesAreDecided = (c : Code) (v : Environment) (o : Outcome) → HasOutcome c v o ↔ (outcome_of c v ≡ o)

answer_ends : (m : Option Text) → ended (answer m) ≡ fate_of_meaning m
answer_ends m = grind (arith, common_steps)

-- a list that rules declare but do not use does not change what they mean
abbrev pub UnusedListsChangeNothing : Type 0
UnusedListsChangeNothing = (target : RuleTarget) (pairs : List KeyValue) (row : ℕ) → HasSoundRules target
    → meaning target.rules (environment_by_code target pairs row) ≡ meaning target.rules (environment_by_rules target pairs row)

module _ (means : CodeMeansRules) (decided : OutcomesAreDecided) (unused : UnusedListsChangeNothing) where
  same_fate : (target : RuleTarget) (pairs : List KeyValue) (row : ℕ) → IsSound target.rules
      → fate_in (code_of target.rules) (environment_by_code target pairs row) ≡ fate_by_rules target pairs row
  unfolding fate_in
  same_fate target pairs row sound = by_test (nat_lt MAX_LINK_BYTES (most_bytes_of_row target pairs row))
    where
      by_test : (b : Bool)
          → (if b then OverBudget (most_bytes_of_row target pairs row) else ended (outcome_of (code_of target.rules) (environment_by_code target pairs row)))
          ≡ (if b then OverBudget (most_bytes_of_row target pairs row) else fate_of_meaning (meaning target.rules (environment_by_rules target pairs row)))
      by_test true = refl
      by_test false =
          let env = environment_by_code target pairs row in
          let result = answer (meaning target.rules env) in
          let has = (means target.rules sound env result).1 refl in
          ap ended ((decided (code_of target.rules) env result).0 has)
          ∙ answer_ends (meaning target.rules env)
          ∙ ap fate_of_meaning (unused target pairs row sound)

  pub same_resolution : (target : RuleTarget) (pairs : List KeyValue) → HasSoundRules target
      → resolution_of (coded target) pairs ≡ resolution_by_rules target pairs
  same_resolution target pairs sound =
      ap (chosen NoRow)
      (map-same (resolution_of_row (coded target) pairs) (resolution_of_row_by_rules target pairs) (matching_rows target.table (ids_of pairs))
      (λ k row within. ap (resolution_by _) (same_fate target pairs _ sound)))

-- ---- all targets, if each has one resolution

abbrev pub ResolutionsAreSame : Type 0
ResolutionsAreSame = (target : RuleTarget) (pairs : List KeyValue) → HasSoundRules target → resolution_of (coded target) pairs
    ≡ resolution_by_rules target pairs

module _ (same : ResolutionsAreSame) where
  pub same_menu : (targets : List RuleTarget) (pairs : List KeyValue) → All HasSoundRules targets
      → menu_of (map coded targets) pairs ≡ menu_by_rules targets pairs
  same_menu [] pairs sound = refl
  same_menu (target ∷ targets) pairs sound =
      let first : entry_of (coded target) pairs ≡ entry_by_rules target pairs =
      ap (λ resolution. record { name = target.name; resolution = resolution }) (same target pairs (All-head HasSoundRules target targets sound)) in
      let others = same_menu targets pairs (All-tail HasSoundRules target targets sound) in
      cc
