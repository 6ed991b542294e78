-- The lines of one more rule: the counts and the instructions with them, and with the lines of the rules that are left.
use Rattle.std.proofs.Common.{◌≡◌, ℕ, ◌+◌, ◌<◌, List, [], ◌∷◌, ◌++◌, Vec, Global, length, drop, get_or, map, refl, sym, ap, ◌∙◌, arith}
use Rattle.std.proofs.Common.{append_assoc, length-append}
use Rattle.std.specs.Prelude.{All}
use Rattle.std.specs.List.{flat_map}
use Rattle.std.proofs.lemmas.List.{drop_more, map-append, length-map}
use Rattle.std.proofs.lemmas.List.Elements.{All-nil, All-cons}
use Rattle.std.proofs.lemmas.List.Folds.{flat_map-map}
use Rattle.text_model.specs.Texts.{Text}
use Rattle.code_model.specs.Code.{Name, Literal, spelling}
use Rattle.code_model.specs.declared.code.Instr.{Instr}
use Rattle.rule_parser.specs.declared.rule.Rule.{Rule}
use Rattle.rule_parser.specs.Rules.{RuleSet}
use Rattle.compiler_model.specs.declared.lines.Line.{Line}
use Rattle.compiler_model.specs.declared.lines.Line.TheVariants.{Fails}
use Rattle.compiler_model.specs.Shapes.{rule_block}
use Rattle.compiler_model.specs.Compiled.{rule_lines, all_lines, instructions_from, rules_instructions, code_of}
use Rattle.compiler_model.proofs.CodePlaces.{length-instructions_from}
use Rattle.compiler_model.proofs.CodeForm.{code_length}
use Rattle.compiler.specs.Private.Reach.{StayWithin}
use Rattle.compiler.specs.Private.RuleLines.{instructions_of, joined, lines_in, with_fail}
use Rattle.compiler.proofs.ReachLemmas.{rule_within}

-- ---- one more rule

pub next_lines : (rules : List (Vec Line Global)) (i : ℕ) (lines : Vec Line Global) → i < length rules → lines ≡ get_or rules i lines
    → lines_in (drop i rules) ≡ lines.items ∷ lines_in (drop (i + 1) rules)
next_lines rules i lines lt is = ap lines_in (drop_more rules i lines lt ∙ ap (λ (ls : Vec Line Global). ls ∷ drop (i + 1) rules) (sym is))

pub length_step : (before rest : List (List Line)) (ls lines : List Line) → before ≡ lines ∷ rest → ls ≡ lines
    → length (joined before) ≡ length ls + length (joined rest)
length_step before rest ls lines next made =
    ap (λ (rs : List (List Line)). length (joined rs)) next
    ∙ length-append lines (joined rest)
    ∙ ap (λ (x : List Line). length x + length (joined rest)) (sym made)

pub with_fail_more : (lines : List Line) (rest : List (List Line)) → with_fail (lines ∷ rest) ≡ lines ++ with_fail rest
with_fail_more lines rest = append_assoc lines (joined rest) (Fails ∷ [])

module _ (names : List Name) (literals : List Literal) where
  pub length-instructions : (old new : List Instr) (away : ℕ) (ls : List Line)
      → new ≡ old ++ map spelling (instructions_from names literals away (length old) ls) → length new ≡ length old + length ls
  length-instructions old new away ls e =
      let is = instructions_from names literals away (length old) ls in
      omega (arith, ap length e, length-append old (map spelling is), length-map is spelling, length-instructions_from names literals away (length old) ls)

  pub instructions_step : (old new : List Instr) (before rest : List (List Line)) (lines : List Line) (whole : List Instr) → before ≡ lines ∷ rest
      → new ≡ old ++ map spelling (instructions_from names literals (length old + length lines) (length old) lines)
      → old ++ map spelling (instructions_of names literals (length old) before) ≡ whole
      → new ++ map spelling (instructions_of names literals (length new) rest) ≡ whole
  instructions_step old new before rest lines whole next made so_far =
      let away = length old + length lines in
      let here = instructions_from names literals away (length old) lines in
      let following = instructions_of names literals away rest in
      ap (λ n. new ++ map spelling (instructions_of names literals n rest)) (length-instructions old new away lines made)
      ∙ ap (λ (x : List Instr). x ++ map spelling following) made
      ∙ append_assoc old (map spelling here) (map spelling following)
      ∙ ap (λ (x : List Instr). old ++ x) (sym (map-append spelling here following))
      ∙ sym (ap (λ (rs : List (List Line)). old ++ map spelling (instructions_of names literals (length old) rs)) next)
      ∙ so_far

-- ---- all rules

pub all_within : (lists : List Text) (rules : List Rule) → All (StayWithin 0) (map (rule_lines lists) rules)
all_within lists [] = All-nil (StayWithin 0)
all_within lists (rule ∷ rules) =
    All-cons (StayWithin 0) (rule_lines lists rule) (map (rule_lines lists) rules) (rule_within (rule_block lists rule)) (all_within lists rules)

pub lines_of_all : (rules : RuleSet) (all : List (List Line)) → all ≡ map (rule_lines rules.lists) rules.rules → with_fail all ≡ all_lines rules
lines_of_all rules all made =
    ap with_fail made ∙ ap (λ (ls : List Line). ls ++ Fails ∷ []) (flat_map-map (λ ls. ls) (rule_lines rules.lists) rules.rules)

pub instructions_of_all : (names : List Name) (literals : List Literal) (lists : List Text) (place : ℕ) (rules : List Rule)
    → instructions_of names literals place (map (rule_lines lists) rules) ≡ rules_instructions names literals lists place rules
instructions_of_all names literals lists place [] = refl
instructions_of_all names literals lists place (rule ∷ rules) =
    let away = place + length (rule_lines lists rule) in
    ap (λ rest. instructions_from names literals away place (rule_lines lists rule) ++ rest) (instructions_of_all names literals lists away rules)

-- FAIL after all lines
pub length-all_lines : (rules : RuleSet) → length (all_lines rules) ≡ length (flat_map (rule_lines rules.lists) rules.rules) + 1
length-all_lines rules = length-append (flat_map (rule_lines rules.lists) rules.rules) (Fails ∷ [])

-- a line has one instruction
pub length-code : (rules : RuleSet) → length (code_of rules).instrs ≡ length (all_lines rules)
length-code rules = code_length rules ∙ sym (length-all_lines rules)
