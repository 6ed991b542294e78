use Rattle.std.proofs.Common.{take, arith}
use Rattle.std.proofs.lemmas.Grind.{common_steps}
use Rattle.uri_grammar.proofs.CharacterLemmas.{encodes_push}
use Rattle.uri_grammar.proofs.characters.text_of.Goals as goal

pub loop-c-preserved : goal.loop-c-preserved
loop-c-preserved c =
    let push = encodes_push (take c.loop-c.c-index c.args.chars.now) c.c-item.result in
    grind (arith, common_steps, push, c.in_ok-push.ensures.bytes)

pub returns : goal.returns
returns c = grind (arith, common_steps)
