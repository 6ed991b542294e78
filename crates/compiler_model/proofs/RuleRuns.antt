-- A code that contains rules one after another: the machine ends with their meaning.
use Rattle.std.proofs.Common.{◌≡◌, ℕ, ◌+◌, List, [], ◌∷◌, length, Option, Some, None, Bool, true, false, refl, sym, ap, ◌∙◌, arith}
use Rattle.std.specs.Prelude.{if◌then◌else◌, All}
use Rattle.std.specs.List.{list_all, find}
use Rattle.std.specs.Option.{option_map}
use Rattle.std.proofs.lemmas.List.{length-append}
use Rattle.std.proofs.lemmas.List.Elements.{All-head, All-tail}
use Rattle.text_model.specs.Texts.{Text}
use Rattle.environment_model.specs.Environment.{Environment, Meaning, look_up, view}
use Rattle.environment_model.specs.Lists.{list_names}
use Rattle.code_model.specs.Code.{Code}
use Rattle.code_model.specs.declared.code.Instruction.TheVariants as instruction
use Rattle.machine_model.specs.Operands.{Reads}
use Rattle.machine_model.specs.States.{End, Link, NoLink}
use Rattle.machine_model.specs.Step as step
use Rattle.uri_template.specs.Expansion.{expansion}
use Rattle.rule_parser.specs.declared.rule.Guard.{Guard}
use Rattle.rule_parser.specs.declared.rule.Rule.{Rule}
use Rattle.rule_parser.specs.Rules.{guard_fits, IsSoundGuard, IsSoundRule}
use Rattle.rule_parser.specs.Meaning.{guards_hold}
use Rattle.compiler_model.specs.declared.lines.Line.TheVariants.{Halts}
use Rattle.compiler_model.specs.Blocks.{lines}
use Rattle.compiler_model.specs.Shapes.{rule_block, parts_block}
use Rattle.compiler_model.specs.Compiled.{rule_lines}
use Rattle.compiler_model.proofs.Effects.{Store, Claim, Brings}
use Rattle.compiler_model.proofs.Places.{ArePlaced, placed_both, Finishes, at_place, at_end}
use Rattle.compiler_model.proofs.Simulation.{moves}
use Rattle.compiler_model.proofs.SpecPieces.{parts_bring}
use Rattle.compiler_model.proofs.Guards.{Settles}
use Rattle.compiler_model.proofs.ListGuards.{guards_bring}

-- the code has the lines of the rules from a place on, and FAIL after them
abbrev pub AreRulesPlaced : Code → List Text → ℕ → List Rule → Type 0
AreRulesPlaced c lists p [] = Reads c p instruction.Fail
AreRulesPlaced c lists p (rule ∷ rules) =
    ArePlaced c (p + length (rule_lines lists rule)) p (rule_lines lists rule) × AreRulesPlaced c lists (p + length (rule_lines lists rule)) rules

pub guards_fit : (lists : List Text) (gs : List Guard) → All (IsSoundGuard lists) gs → list_all (guard_fits lists) gs ≡ true
guards_fit lists [] h = refl
guards_fit lists (g ∷ gs) h = rw ((All-head (IsSoundGuard lists) g gs h).kinds) (guards_fit lists gs (All-tail (IsSoundGuard lists) g gs h))

-- the end with a link, or with none
abbrev pub end_of : Option Text → End
end_of None = NoLink
end_of (Some text) = Link text

module _ (c : Code) (v : Environment) (lists : List Text) where
  abbrev look : Text → Option Meaning
  look = view (list_names lists) (look_up v)

  -- the link of the first rule that holds
  abbrev pub first_link : List Rule → Option Text
  first_link rules = option_map (λ (rule : Rule). expansion look rule.template.parts) (find (guards_hold look) rules)

  -- if its guards hold, a rule appends its link, and otherwise it is left
  rule_brings : (rule : Rule) → IsSoundRule lists rule → (s : Store) (Q R : Claim)
      → Settles (guards_hold look rule) s.output (λ n. Brings v None (parts_block lists rule.template.parts) n Q R) R
      → Brings v None (rule_block lists rule) s Q R
  rule_brings rule sound s Q R k = guards_bring v lists rule.guards (guards_fit lists rule.guards sound.guards) s _ R k

  abbrev Answers : Option Text → ℕ → Store → Type 0
  Answers link p s = Finishes c v (end_of link) (at_place p None s)

  -- a rule ends with its link, or leads to the place after it
  rule_finishes : (rule : Rule) → IsSoundRule lists rule → (link : Option Text) (p : ℕ) (s : Store) → s.output ≡ []
      → ArePlaced c (p + length (rule_lines lists rule)) p (rule_lines lists rule) → (b : Bool) → guards_hold look rule ≡ b
      → (b ≡ true → link ≡ Some (expansion look rule.template.parts))
      → (b ≡ false → (n : Store) → n.output ≡ [] → Answers link (p + length (rule_lines lists rule)) n) → Answers link p s
  rule_finishes rule sound link p s empty h b holds e rest =
      let away = p + length (rule_lines lists rule) in
      let last = p + length (lines (rule_block lists rule)) in
      let both = placed_both c away p (lines (rule_block lists rule)) (Halts ∷ []) h in
      let size : last + 1 ≡ away = omega (arith, length-append (lines (rule_block lists rule)) (Halts ∷ [])) in
      moves c v (end_of link) (rule_block lists rule) away p last None both.0 refl (omega (arith, size)) (λ x low high. tt) s
      (λ n. (b ≡ true) × (n.output ≡ expansion look rule.template.parts)) (λ n. (b ≡ false) × (n.output ≡ []))
      (rule_brings rule sound s _ _ (rw holds (by_test b)))
      (λ n done. halts last n both.1.0.reads (e done.0 ∙ ap Some (sym done.1)))
      (λ n left. (tt, rest left.0 n left.1))
    where
      halts : (last : ℕ) (n : Store) → Reads c last instruction.Halt → link ≡ Some n.output → Finishes c v (end_of link) (at_place last None n)
      halts last n r eq = rw eq (at_end c v (Link n.output) (at_place last None n) instruction.Halt r step.halt)

      by_test : (b : Bool)
          → Settles b s.output
          (λ n. Brings v None (parts_block lists rule.template.parts) n (λ n. (b ≡ true) × (n.output ≡ expansion look rule.template.parts))
          (λ n. (b ≡ false) × (n.output ≡ []))) (λ n. (b ≡ false) × (n.output ≡ []))
      by_test b = grind (arith, parts_bring)

  pub rules_finish : (rules : List Rule) → All (IsSoundRule lists) rules → (p : ℕ) (s : Store) → s.output ≡ [] → AreRulesPlaced c lists p rules
      → Finishes c v (end_of (first_link rules)) (at_place p None s)
  rules_finish [] sound p s empty h = at_end c v NoLink (at_place p None s) instruction.Fail h step.fail
  rules_finish (rule ∷ rules) sound p s empty h =
      let away = p + length (rule_lines lists rule) in
      by_test (guards_hold look rule) refl (λ n e. rules_finish rules (All-tail (IsSoundRule lists) rule rules sound) away n e h.1)
    where
      by_test : (b : Bool) → guards_hold look rule ≡ b
          → ((n : Store) → n.output ≡ [] → Finishes c v (end_of (first_link rules)) (at_place (p + length (rule_lines lists rule)) None n))
          → Finishes c v (end_of (option_map (λ (r : Rule). expansion look r.template.parts) (if b then Some rule else find (guards_hold look) rules)))
          (at_place p None s)
      by_test true holds rest = rule_finishes rule (All-head (IsSoundRule lists) rule rules sound) _ p s empty h.0 true holds (λ t. refl) (λ f. absurd (cc (f)))
      by_test false holds rest = rule_finishes rule (All-head (IsSoundRule lists) rule rules sound) _ p s empty h.0 false holds (λ f. absurd (cc (f)))
          (λ f n e. rest n e)
