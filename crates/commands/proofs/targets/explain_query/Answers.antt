use Rattle.std.proofs.Common.{refl, subst, sym, ap, ◌∙◌}
use Rattle.std.proofs.lemmas.Result.{err_from_is_err_and}
use Rattle.rule_explanation.specs.Explanation.{explanation}
use Rattle.rule_explanation.specs.Rows.{has_web_link}
use Rattle.commands.specs.Explaining.{no_request, explained, no_web_link, unprinted, in_part}
use Rattle.commands.specs.Output.{output_of}
use Rattle.commands.proofs.targets.explain_query.Goals as goal

pub returns-in_err-request_of : goal.returns-in_err-request_of
returns-in_err-request_of g c =
    let made = err_from_is_err_and c.from_residual.result c.from_residual.ensures.1 in
    rw (made.1, made.2) (no_request _ c.in_err-request_of.ensures.err (refl {a = c.args.output.now}))

pub returns-in-Ok-true : goal.returns-in-Ok-true
returns-in-Ok-true g c =
    let pairs = c.in_ok-request_of.ensures.pairs in
    explained c.in_ok-request_of.ensures.accepted
    (subst (λ ps. (output_of g.O.Write.contents c.args.output.now c.explain-found.new.output).gets (explanation c.args.rules.now c.args.table.now ps)) pairs
    c.in-Ok-true.ensures.printed)
    (sym (ap (has_web_link c.args.rules.now c.args.table.now) pairs) ∙ sym c.in-Ok-true.ensures.found ∙ c.in-Ok-true.field-0-test)

pub returns-in-Ok-false : goal.returns-in-Ok-false
returns-in-Ok-false g c =
    let pairs = c.in_ok-request_of.ensures.pairs in
    no_web_link c.in_ok-request_of.ensures.accepted
    (subst (λ ps. (output_of g.O.Write.contents c.args.output.now c.explain-found.new.output).gets (explanation c.args.rules.now c.args.table.now ps)) pairs
    c.in-Ok-false.ensures.printed)
    (sym (ap (has_web_link c.args.rules.now c.args.table.now) pairs) ∙ sym c.in-Ok-false.ensures.found ∙ c.in-Ok-false.field-0-test)

pub returns-in-Err-NoMemory : goal.returns-in-Err-NoMemory
returns-in-Err-NoMemory g c =
    in_part c.in_ok-request_of.ensures.accepted
    (subst (λ ps. (output_of g.O.Write.contents c.args.output.now c.explain-found.new.output).gets_part (explanation c.args.rules.now c.args.table.now ps))
    c.in_ok-request_of.ensures.pairs (rw c.in-Err-NoMemory.is at c.explain-found.ensures.in_part))

pub returns-in-Err-Output : goal.returns-in-Err-Output
returns-in-Err-Output g c =
    unprinted _ c.in_ok-request_of.ensures.accepted refl
    (subst (λ ps. (output_of g.O.Write.contents c.args.output.now c.explain-found.new.output).gets_part (explanation c.args.rules.now c.args.table.now ps))
    c.in_ok-request_of.ensures.pairs (rw c.in-Err-Output.is at c.explain-found.ensures.in_part))
