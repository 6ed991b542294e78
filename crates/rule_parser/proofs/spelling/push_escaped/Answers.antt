-- The character's bytes are written escaped.
use Rattle.rule_parser.proofs.SpellingLemmas.{escaped_step}
use Rattle.rule_parser.proofs.spelling.push_escaped.Goals as goal

pub loop-c-preserved : goal.loop-c-preserved
loop-c-preserved c =
    escaped_step _ _ _ _ _ c.in-Some.c c.loop-c.invariant c.in-Some.ensures.steps.0 c.in_ok-push_escaped_char.ensures
