use Rattle.std.proofs.Common.{append_assoc}
use Rattle.kev_read.proofs.DecodedForms.{decoded_first}
use Rattle.kev_read.proofs.decoding.push_first.Goals as goal

pub returns-then-input-ne37-clause-items : goal.returns-then-input-ne37-clause-items
returns-then-input-ne37-clause-items c =
    let first = decoded_first c.args.input.now c.requires.some (λ long percent high low. c.if-input-ne37.true percent) in
    rw (c.push_reserved.ensures.items, c.plus_to_space.ensures, c.split_at.ensures.back, first) (append_assoc c.args.bytes.now.items _ _)
