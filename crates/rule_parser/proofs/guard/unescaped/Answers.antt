-- Each character denotes itself, or is escaped by the backslash before it; any other character makes the text invalid.
use Rattle.std.proofs.Common.{arith, sym, ◌∙◌}
use Rattle.std.proofs.lemmas.Grind.{common_steps}
use Rattle.std.specs.String.{string_bytes}
use Rattle.rule_parser.proofs.EscapeLemmas.{escaped_more, not_escaped, not_escaped_at_end, same_answers, other_answers}
use Rattle.rule_parser.proofs.guard.unescaped.Goals as goal

pub loop-c-preserved-then-is_special-is_escaped : goal.loop-c-preserved-then-is_special-is_escaped
loop-c-preserved-then-is_special-is_escaped c =
    rw c.in_ok-push.ensures.bytes
    (escaped_more _ (string_bytes c.loop-c.text) _ _ c.in-Some.c c.loop-c.is_escaped
    (sym c.is_special.ensures ∙ same_answers _ _ c.if-is_special-is_escaped.true) c.loop-c.invariant
    c.in-Some.ensures.steps.0)

pub returns-else-c-eq92 : goal.returns-else-c-eq92
returns-else-c-eq92 c =
    not_escaped _ (string_bytes c.loop-c.text) _ _ c.in-Some.c c.loop-c.is_escaped
    (λ e. other_answers _ _ c.if-is_special-is_escaped.false (c.is_special.ensures ∙ e)) c.if-c-eq92.false
    c.loop-c.invariant c.in-Some.ensures.steps.0

pub returns-then-is_escaped : goal.returns-then-is_escaped
returns-then-is_escaped c = not_escaped_at_end _ (string_bytes c.loop-c.text) _ _ c.if-is_escaped.true c.in-None.ensures.steps.0.0 c.loop-c.invariant

pub loop-c-preserved : goal.loop-c-preserved
loop-c-preserved c = grind (arith, common_steps)

pub returns : goal.returns
returns c = grind (arith, common_steps)
