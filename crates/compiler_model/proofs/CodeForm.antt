-- The code of rules has good form, and can be that of a code file.
use Rattle.std.proofs.Common.{◌≡◌, ℕ, zero, suc, ◌+◌, List, [], ◌∷◌, length, None, Bool, true, false, refl, ◌∙◌, subst, arith, ⊎_elim}
use Rattle.std.specs.Prelude.{slice_get, not}
use Rattle.std.specs.List.{AllByRecursion, filter_map, flat_map}
use Rattle.std.proofs.lemmas.Bool.{cases_lt, not-true}
use Rattle.std.proofs.lemmas.List.{length-append, length-map}
use Rattle.std.proofs.lemmas.Grind.{common_steps}
use Rattle.text_model.specs.Texts.{Text}
use Rattle.text_model.specs.UriText.{IsUriText}
use Rattle.text_model.proofs.Lists.{all_filter}
use Rattle.code_model.specs.Code.{Name, Literal, Code, spelling}
use Rattle.code_model.specs.declared.code.Instruction.TheVariants as instruction
use Rattle.machine_model.specs.Operands.{is_link_text, text_of_literal}
use Rattle.machine_model.specs.Form.{body_at, HasGoodForm}
use Rattle.machine_model.specs.Safe.{IsFileCode}
use Rattle.machine_model.proofs.Bodies.{no_body_first}
use Rattle.machine_model.proofs.Faults.{past_good}
use Rattle.rule_parser.specs.declared.rule.Rule.{Rule}
use Rattle.rule_parser.specs.Rules.{RuleSet, IsSound}
use Rattle.compiler_model.specs.declared.lines.Action.TheVariants.{LoadText, LoadList, LoadConst, CountMembers, Emits, Separates, Puts, Cuts}
use Rattle.compiler_model.specs.declared.lines.Line.{Line}
use Rattle.compiler_model.specs.declared.lines.Line.TheVariants.{Acts, Tests, Jumps, Begins, Turns, Halts, Fails}
use Rattle.compiler_model.specs.Blocks.{lines}
use Rattle.compiler_model.specs.Shapes.{rule_block}
use Rattle.compiler_model.specs.Tables.{is_same_literal, literal_used, firsts}
use Rattle.compiler_model.specs.Compiled.{rule_lines, all_lines, rules_instructions, instructions_from, code_of}
use Rattle.compiler_model.proofs.Places.{placed_both}
use Rattle.compiler_model.proofs.Formed.{TreesAreSound, AreFormed}
use Rattle.compiler_model.proofs.Placement.{IsFormedLine}
use Rattle.compiler_model.proofs.RuleRuns.{AreRulesPlaced}
use Rattle.compiler_model.proofs.CodePlaces.{IsFounded, length-instructions_from, code_formed, founded, code_placed}
use Rattle.compiler_model.proofs.Forming.{body_next, body_past}
use Rattle.compiler_model.proofs.NoFaults.{HasNoFault, clean_one, clean_both, block_clean, last_good}

-- ---- lengths

length-rules_instructions : (names : List Name) (literals : List Literal) (lists : List Text) (place : ℕ) (rules : List Rule)
    → length (rules_instructions names literals lists place rules) ≡ length (flat_map (rule_lines lists) rules) + 1
length-rules_instructions names literals lists place [] = refl
length-rules_instructions names literals lists place (rule ∷ rules) =
    let ls = rule_lines lists rule in
    let away = place + length ls in
    let is = instructions_from names literals away place ls in
    omega (
      arith,
      length-append is (rules_instructions names literals lists away rules),
      length-instructions_from names literals away place ls,
      length-rules_instructions names literals lists away rules,
      length-append ls (flat_map (rule_lines lists) rules),
    )

pub code_length : (rules : RuleSet) → length (code_of rules).instrs ≡ length (flat_map (rule_lines rules.lists) rules.rules) + 1
code_length rules = length-map _ spelling ∙ length-rules_instructions _ _ rules.lists 0 rules.rules

-- ---- form

module _ (c : Code) (version : ℕ) (lists : List Text) where
  rules_clean : (rules : List Rule) (place : ℕ) → AreFormed version lists rules → AreRulesPlaced c lists place rules → body_at c place ≡ None
      → place + length (flat_map (rule_lines lists) rules) + 1 ≡ length c.instrs → HasNoFault c place (length c.instrs)
  rules_clean [] place f h at eq = clean_one c place (length c.instrs) (omega (arith, eq)) (last_good c place instruction.Fail h refl)
  rules_clean (rule ∷ rules) place f h at eq =
      let block = rule_block lists rule in
      let last = place + length (lines block) in
      let away = place + length (rule_lines lists rule) in
      let both = placed_both c away place (lines block) (Halts ∷ []) h.0 in
      let next : last + 1 ≡ away = omega (arith, length-append (lines block) (Halts ∷ [])) in
      let whole : away + length (flat_map (rule_lines lists) rules) + 1 ≡ length c.instrs = grind (arith, common_steps) in
      let at_last = body_past c block version away place last None f.0 both.0 refl (omega (arith, next, whole)) tt at in
      let at_away : body_at c away ≡ None = subst (λ n. body_at c n ≡ None) next (body_next c last instruction.Halt both.1.0.reads refl None at_last tt) in
      clean_both c place last (length c.instrs)
      (block_clean c block version away place last None f.0 both.0 refl (omega (arith, next, whole)) tt
      (λ e. (omega (arith, next), omega (arith, whole), at_away)) at)
      (clean_both c last away (length c.instrs)
      (clean_one c last away next (last_good c last instruction.Halt both.1.0.reads refl))
      (rules_clean rules away f.1 h.1 at_away whole))

-- ---- link texts

-- a literal of the link is URI text
abbrev LinksUri : Literal → Type 0
LinksUri literal = literal.compared ≡ false → IsUriText literal.bytes

used_uri : (version : ℕ) (ls : List Line) → AllByRecursion (IsFormedLine version) ls → AllByRecursion LinksUri (filter_map literal_used ls)
used_uri version [] f = tt
used_uri version (Acts (LoadConst a t) ∷ ls) f = (λ e. absurd (cc (e)), used_uri version ls f.1)
used_uri version (Acts (Emits t) ∷ ls) f = (λ e. f.0, used_uri version ls f.1)
used_uri version (Acts (Separates t) ∷ ls) f = (λ e. f.0.1, used_uri version ls f.1)
used_uri version (Acts (LoadText a name) ∷ ls) f = used_uri version ls f.1
used_uri version (Acts (LoadList a name) ∷ ls) f = used_uri version ls f.1
used_uri version (Acts (CountMembers a b) ∷ ls) f = used_uri version ls f.1
used_uri version (Acts (Puts a w) ∷ ls) f = used_uri version ls f.1
used_uri version (Acts (Cuts a n w) ∷ ls) f = used_uri version ls f.1
used_uri version (Tests t g ∷ ls) f = used_uri version ls f.1
used_uri version (Jumps g ∷ ls) f = used_uri version ls f.1
used_uri version (Begins a b n ∷ ls) f = used_uri version ls f.1
used_uri version (Turns ∷ ls) f = used_uri version ls f.1
used_uri version (Halts ∷ ls) f = used_uri version ls f.1
used_uri version (Fails ∷ ls) f = used_uri version ls f.1

pub firsts_keep : {X : Type 0} (P : X → Type 0) (same : X → X → Bool) (xs : List X) → AllByRecursion P xs → AllByRecursion P (firsts same xs)
firsts_keep P same [] h = tt
firsts_keep P same (x ∷ xs) h = (h.0, all_filter P (λ y. not (same x y)) (firsts same xs) (firsts_keep P same xs h.1))

link_at : (ls : List Literal) → AllByRecursion LinksUri ls → (n : ℕ) → is_link_text (slice_get ls n) ≡ true → IsUriText (text_of_literal (slice_get ls n))
link_at [] h n e = absurd (cc)
link_at (l ∷ ls) h zero e = h.0 (not-true l.compared e)
link_at (l ∷ ls) h (suc n) e = link_at ls h.1 n e

-- ---- the code of rules

formed_lines : (c : Code) (ls : List Line) → AllByRecursion (IsFounded c) ls → AllByRecursion (IsFormedLine c.version) ls
formed_lines c [] h = tt
formed_lines c (l ∷ ls) h = (h.0.formed, formed_lines c ls h.1)

module _ (trees : TreesAreSound) (rules : RuleSet) (sound : IsSound rules) where
  pub code_good : HasGoodForm (code_of rules)
  code_good =
      let c = code_of rules in
      let clean = rules_clean c c.version rules.lists rules.rules 0 (code_formed trees rules sound) (code_placed trees rules sound) (no_body_first c)
      (omega (arith, code_length rules)) in
      record { at = λ place. ⊎_elim (λ lt. clean place (omega arith) lt) (past_good c place) (cases_lt place (length c.instrs)) }

  pub code_is_file : IsFileCode (code_of rules)
  code_is_file =
      let c = code_of rules in
      record {
        some = omega (arith, code_length rules);
        links = link_at c.literals
            (firsts_keep LinksUri is_same_literal _ (used_uri c.version (all_lines rules) (formed_lines c (all_lines rules) (founded trees rules sound))));
      }
