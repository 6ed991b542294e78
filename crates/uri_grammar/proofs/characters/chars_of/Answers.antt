use Rattle.std.proofs.Common.{arith}
use Rattle.std.proofs.lemmas.Grind.{common_steps}
use Rattle.uri_grammar.proofs.CharacterLemmas.{encodes_push}
use Rattle.uri_grammar.proofs.characters.chars_of.Goals as goal

pub loop-c-preserved : goal.loop-c-preserved
loop-c-preserved c =
    let push = encodes_push c.loop-c.chars.items c.in-Some.c in
    let step = (c.in-Some.ensures.steps).0 in
    grind (arith, common_steps, push, step, c.loop-c.invariant, c.in_ok-push.ensures.items)

pub returns : goal.returns
returns c = grind (arith, common_steps)
