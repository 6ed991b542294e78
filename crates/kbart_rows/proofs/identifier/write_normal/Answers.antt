use Rattle.std.proofs.Common.{ap, ◌∙◌, length, arith}
use Rattle.std.proofs.lemmas.List.{take_all}
use Rattle.kbart_rows.specs.Private.Normal.{normal}
use Rattle.kbart_rows.proofs.NormalBytes.{normal_bytes}
use Rattle.kbart_rows.proofs.identifier.write_normal.Goals as goal

pub returns : goal.returns
returns c =
    let text = c.args.text.now in
    let whole = take_all c.loop-byte.byte-index text (omega (arith, c.loop-byte-test.false, ap length c.as_bytes-byte-items.ensures.value)) in
    c.loop-byte.invariant ∙ ap normal whole ∙ normal_bytes text c.utf8.text
