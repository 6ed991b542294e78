-- The kinds of the code of rules.

use Rattle.std.proofs.Common.{◌≡◌, ℕ, ◌+◌, List, [], ◌∷◌, ◌++◌, length, Some, None, refl, ap, ◌∙◌, subst, arith}
use Rattle.std.specs.Prelude.{slice_get}
use Rattle.std.specs.List.{flat_map}
use Rattle.std.proofs.lemmas.Option.{slice_get_within}
use Rattle.std.proofs.lemmas.List.{length-append}
use Rattle.std.proofs.lemmas.Grind.{common_steps}
use Rattle.text_model.specs.Texts.{Text}
use Rattle.code_model.specs.Code.{Code}
use Rattle.code_model.specs.declared.code.Instruction.TheVariants as instruction
use Rattle.machine_model.specs.Form.{body_at}
use Rattle.machine_model.specs.Kinds.{Kinds, any_kinds, edge}
use Rattle.machine_model.specs.Typable.{Table, Holds, IsTypable}
use Rattle.machine_model.proofs.Orders.{below_antisym}
use Rattle.machine_model.proofs.Readings.{Reads-reading_at}
use Rattle.machine_model.proofs.Bodies.{no_body_first}
use Rattle.rule_parser.specs.declared.rule.Rule.{Rule}
use Rattle.rule_parser.specs.Rules.{RuleSet, IsSound}
use Rattle.compiler_model.specs.declared.lines.Line.TheVariants.{Halts}
use Rattle.compiler_model.specs.Blocks.{lines}
use Rattle.compiler_model.specs.Shapes.{rule_block}
use Rattle.compiler_model.specs.Compiled.{rule_lines, code_of}
use Rattle.compiler_model.proofs.Places.{placed_both}
use Rattle.compiler_model.proofs.Formed.{TreesAreSound, AreFormed}
use Rattle.compiler_model.proofs.Forming.{body_next, body_past}
use Rattle.compiler_model.proofs.RuleRuns.{AreRulesPlaced}
use Rattle.compiler_model.proofs.CodePlaces.{code_formed, code_placed}
use Rattle.compiler_model.proofs.CodeForm.{code_length}
use Rattle.compiler_model.proofs.Typed.{rows, length-rows, below_any}
use Rattle.compiler_model.proofs.TypedExpressions.{rule_typed}
use Rattle.compiler_model.proofs.CodeKinds.{IsSettled, AreRowsPlaced, Settled, block_fits, rows_both, rows_placed, settled, settled_both, settled_one}

-- the kinds at each place of rules: nothing is known where one begins, at HALT, and at FAIL
rules_rows : List Text → List Rule → List Kinds
rules_rows lists [] = any_kinds ∷ []
rules_rows lists (rule ∷ rules) = rows (rule_block lists rule) any_kinds any_kinds (rule_typed lists rule) ++ any_kinds ∷ rules_rows lists rules

length-rules_rows : (lists : List Text) (rules : List Rule) → length (rules_rows lists rules) ≡ length (flat_map (rule_lines lists) rules) + 1
unfolding rules_rows
length-rules_rows lists [] = refl
length-rules_rows lists (rule ∷ rules) =
    let block = rule_block lists rule in
    let first = rows block any_kinds any_kinds (rule_typed lists rule) in
    omega (
      arith,
      length-append first (any_kinds ∷ rules_rows lists rules),
      length-rows block any_kinds any_kinds (rule_typed lists rule),
      length-rules_rows lists rules,
      length-append (rule_lines lists rule) (flat_map (rule_lines lists) rules),
      length-append (lines block) (Halts ∷ []),
    )

module _ (c : Code) (t : Table) (version : ℕ) (lists : List Text) where
  rules_settled : (rules : List Rule) (place : ℕ) → AreFormed version lists rules → AreRulesPlaced c lists place rules → body_at c place ≡ None
      → place + length (flat_map (rule_lines lists) rules) + 1 ≡ length c.instrs → AreRowsPlaced t place (rules_rows lists rules)
      → Settled c t place (length c.instrs) × Holds t (edge place any_kinds)
  unfolding rules_rows
  rules_settled [] place f h at eq r = grind (arith, common_steps)
  rules_settled (rule ∷ rules) place f h at eq r =
      let block = rule_block lists rule in
      let last = place + length (lines block) in
      let away = place + length (rule_lines lists rule) in
      let are_placed = placed_both c away place (lines block) (Halts ∷ []) h.0 in
      let next : last + 1 ≡ away = omega (arith, length-append (lines block) (Halts ∷ [])) in
      let whole : away + length (flat_map (rule_lines lists) rules) + 1 ≡ length c.instrs = grind (arith, common_steps) in
      let both = rows_both t place (rows block any_kinds any_kinds (rule_typed lists rule)) (any_kinds ∷ rules_rows lists rules) r in
      let later = subst (λ n. AreRowsPlaced t (place + n) (any_kinds ∷ rules_rows lists rules)) (length-rows block any_kinds any_kinds (rule_typed lists rule))
      both.1 in
      let at_last = body_past c block version away place last None f.0 are_placed.0 refl (omega (arith, next, whole)) tt at in
      let at_away : body_at c away ≡ None =
      subst (λ n. body_at c n ≡ None) next (body_next c last instruction.Halt are_placed.1.0.reads refl None at_last tt) in
      let rest = rules_settled rules away f.1 h.1 at_away whole (subst (λ n. AreRowsPlaced t n (rules_rows lists rules)) next later.1) in
      let first = block_fits c t block version away place last None f.0 are_placed.0 refl (omega (arith, next, whole)) tt (λ e. rest.1) at any_kinds any_kinds
      (rule_typed lists rule) both.0 (any_kinds, later.0, below_any any_kinds) in (
        settled_both c t place last (length c.instrs) first.0
            (settled_both c t last away (length c.instrs)
            (settled_one c t last away next (settled c t last instruction.Halt any_kinds (Reads-reading_at c last _ are_placed.1.0.reads) later.0 tt tt))
            rest.0),
        first.1,
      )

module _ (trees : TreesAreSound) (rules : RuleSet) (sound : IsSound rules) where
  -- the kinds of all places
  table : Table
  table place = slice_get (rules_rows rules.lists rules.rules) place

  all_settled : Settled (code_of rules) table 0 (length (code_of rules).instrs) × Holds table (edge 0 any_kinds)
  unfolding table
  all_settled =
      let c = code_of rules in
      rules_settled c table c.version rules.lists rules.rules 0 (code_formed trees rules sound) (code_placed trees rules sound) (no_body_first c)
      (omega (arith, code_length rules))
      (rows_placed table (rules_rows rules.lists rules.rules) 0 (λ n. let e : 0 + n ≡ n = omega arith in ap table e))

  settled_at : (place : ℕ) → IsSettled (code_of rules) table place
  unfolding table
  settled_at place ks e = grind (arith, slice_get_within, all_settled, length-rules_rows, code_length)

  pub code_typable : IsTypable (code_of rules)
  code_typable =
      let first = all_settled.1 in
      let any : first.0 ≡ any_kinds = below_antisym first.0 any_kinds (below_any first.0) first.2 in
      (table, record { first = first.1 ∙ ap Some any; along = λ p ks e. (settled_at p ks e).0 }, record { at = λ p ks e. (settled_at p ks e).1 })
