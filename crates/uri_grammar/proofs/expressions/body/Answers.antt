use Rattle.std.proofs.Common.{arith, ◌≡◌, ◌∙◌, sym, ap, subst, ℕ, List, drop, length, inr}
use Rattle.std.proofs.lemmas.Grind.{common_steps}
use Rattle.uri_grammar.specs.Expressions.{operator_text}
use Rattle.uri_grammar.specs.Faults.{IsListFault, reserved_operator}
use Rattle.uri_grammar.specs.Private.Reading.{IsFault, operator_of}
use Rattle.uri_grammar.proofs.ExpressionLemmas.{operator_of-HasOperator, body_fault}
use Rattle.uri_grammar.proofs.expressions.body.Goals as goal

pub returns-then-begins_with_reserved-clause-err : goal.returns-then-begins_with_reserved-clause-err
returns-then-begins_with_reserved-clause-err c =
    rw c.new.ensures (inr (reserved_operator c.args.text.now (sym c.begins_with_reserved.ensures ∙ c.if-begins_with_reserved.true)))

pub returns-in-Err-clause-err : goal.returns-in-Err-clause-err
returns-in-Err-clause-err c =
    let skipped : c.operator_len-skipped.result ≡ length (operator_text (operator_of c.args.text.now)) = grind (arith, common_steps) in
    let list = c.split_at.ensures.back ∙ ap (λ (k : ℕ). drop k c.args.text.now) skipped in
    let operator = operator_of-HasOperator c.args.text.now (sym c.begins_with_reserved.ensures ∙ c.if-begins_with_reserved.false) in
    rw (c.after.ensures, skipped)
    (body_fault c.args.text.now (operator_of c.args.text.now) (drop (length (operator_text (operator_of c.args.text.now))) c.args.text.now) c.in-Err.e
    operator (subst (λ (t : List ℕ). IsFault c.in-Err.e (IsListFault t)) list c.in-Err.ensures.err))
