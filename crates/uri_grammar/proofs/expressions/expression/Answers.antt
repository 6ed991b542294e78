use Rattle.std.proofs.Common.{arith, ◌≡◌, ◌∙◌, sym, take, subst, List, ℕ, inr, false}
use Rattle.std.proofs.lemmas.Grind.{common_steps}
use Rattle.uri_grammar.specs.Expressions.{IsBody}
use Rattle.uri_grammar.specs.Faults.{IsBodyFault}
use Rattle.uri_grammar.specs.Private.Reading.{IsFault, begins_with_brace}
use Rattle.uri_grammar.proofs.TemplateLemmas.{IsExpression-braced, IsPartFault-literal, IsPartFault-body, IsPartFault-unclosed, IsPartFault-empty}
use Rattle.uri_grammar.proofs.expressions.expression.Goals as goal

pub returns-in-Ok-clause-ok : goal.returns-in-Ok-clause-ok
returns-in-Ok-clause-ok c =
    let found = c.in-Some.ensures.found in
    let body : IsBody (take c.in-Some.end c.split_at.result.1.now) c.in-Ok.op c.in-Ok.specs.items = grind (arith, common_steps) in
    rw c.new-specs.ensures (IsExpression-braced c.args.text.now c.split_at.result.1.now c.in-Some.end c.in-Ok.op c.in-Ok.specs.items
    (sym c.begins_with_brace.ensures ∙ c.if-not-begins_with_brace.false) c.split_at.ensures.back found.0 found.1 found.2 body)

pub returns-in-Err-clause-err : goal.returns-in-Err-clause-err
returns-in-Err-clause-err c =
    let found = c.in-Some.ensures.found in
    rw c.after.ensures
    (IsPartFault-body c.args.text.now c.split_at.result.1.now c.in-Some.end c.in-Err.e (sym c.begins_with_brace.ensures ∙ c.if-not-begins_with_brace.false)
    c.split_at.ensures.back found.0 (omega (arith, c.if-end-eq0.false)) found.1 found.2
    (subst (λ (b : List ℕ). IsFault c.in-Err.e (IsBodyFault b)) c.split_at-2.ensures.front c.in-Err.ensures.err))

pub returns-then-not-begins_with_brace-clause-err : goal.returns-then-not-begins_with_brace-clause-err
returns-then-not-begins_with_brace-clause-err c =
    let other : begins_with_brace c.args.text.now ≡ false = sym c.begins_with_brace.ensures ∙ c.if-not-begins_with_brace.true in
    rw c.new.ensures (inr (IsPartFault-literal c.args.text.now c.requires.some c.requires.no_literal other))

pub returns-in_default-clause-err : goal.returns-in_default-clause-err
returns-in_default-clause-err c =
    rw c.new-in_default.ensures
    (inr (IsPartFault-unclosed c.args.text.now c.split_at.result.1.now (sym c.begins_with_brace.ensures ∙ c.if-not-begins_with_brace.false)
    c.split_at.ensures.back c.in_default.ensures.none))

pub returns-then-end-eq0-clause-err : goal.returns-then-end-eq0-clause-err
returns-then-end-eq0-clause-err c =
    let found = c.in-Some.ensures.found in
    rw c.new-then-end-eq0.ensures
    (inr (IsPartFault-empty c.args.text.now c.split_at.result.1.now c.in-Some.end (sym c.begins_with_brace.ensures ∙ c.if-not-begins_with_brace.false)
    c.split_at.ensures.back found.0 found.1 c.if-end-eq0.true))
