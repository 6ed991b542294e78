use Rattle.std.proofs.Common.{◌≡◌, ◌+◌, ◌++◌, List, All, drop, length, map, sym, ap, ◌∙◌, subst, arith}
use Rattle.std.proofs.lemmas.List.Elements.{All-head, All-tail}
use Rattle.code_model.specs.Code.{Name, Literal, spelling}
use Rattle.compiler_model.specs.Compiled.{instructions_from}
use Rattle.compiler.specs.Private.Reach.{StayWithin}
use Rattle.compiler.specs.Private.RuleLines.{lines_in}
use Rattle.compiler.proofs.RuleSteps.{length_step, length-instructions, instructions_step, next_lines}
use Rattle.compiler.proofs.code.instructions.Goals as goal

pub push_rule-requires-clause-within : goal.push_rule-requires-clause-within
push_rule-requires-clause-within c =
    let rules = c.args.rules.now in
    let lines = c.lines-item.result in
    let next = next_lines rules c.loop-lines.lines-index lines c.loop-lines-test.true c.lines-item.is in
    subst (StayWithin 0) (sym c.deref-in-loop-lines-2.ensures.value)
    (All-head (StayWithin 0) lines.items _ (subst (All (StayWithin 0)) next c.loop-lines.invariant.within))

pub loop-lines-preserved : goal.loop-lines-preserved
loop-lines-preserved c =
    let rules = c.args.rules.now in
    let i = c.loop-lines.lines-index in
    let lines = c.lines-item.result in
    let ls = c.deref-in-loop-lines-2.result.now in
    let rest = lines_in (drop (i + 1) rules) in
    let next = next_lines rules i lines c.loop-lines-test.true c.lines-item.is in
    let made : ls ≡ lines.items = c.deref-in-loop-lines-2.ensures.value in
    let old = c.loop-lines.instrs.items in
    let new = c.push_rule.new.instrs.items in
    let names = c.args.tables.now.names.items in
    let literals = c.args.tables.now.literals.items in
    let longer = length_step (lines_in (drop i rules)) rest ls lines.items next made in
    let built : new ≡ old ++ map spelling (instructions_from names literals (length old + length lines.items) (length old) lines.items) =
    c.in_ok-push_rule.ensures.pushed
    ∙ ap (λ (ns : List Name). old ++ map spelling (instructions_from ns c.deref-in-loop-lines.result.now (length old + length ls) (length old) ls))
    c.deref.ensures.value
    ∙ ap (λ (xs : List Literal). old ++ map spelling (instructions_from names xs (length old + length ls) (length old) ls))
    c.deref-in-loop-lines.ensures.value
    ∙ ap (λ x. old ++ map spelling (instructions_from names literals (length old + length x) (length old) x)) made in
    let count = length-instructions names literals old new (length old + length lines.items) lines.items built in
    record {
      whole = instructions_step names literals old new (lines_in (drop i rules)) rest lines.items _ next built c.loop-lines.invariant.whole;
      room = omega (arith, longer, count, ap length made, c.loop-lines.invariant.room);
      within = All-tail (StayWithin 0) lines.items rest (subst (All (StayWithin 0)) next c.loop-lines.invariant.within);
      fields = c.in_ok-push_rule.ensures.fields;
    }
