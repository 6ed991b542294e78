use Rattle.std.proofs.Common.{get_or, string_bytes, not, ap, length, arith}
use Rattle.table_inspection.proofs.SpellingLemmas.{spelled_next, spelled_all}
use Rattle.table_inspection.proofs.spelling.spelling.Goals as goal

pub loop-b-preserved : goal.loop-b-preserved
loop-b-preserved c =
    let size = ap length c.as_bytes-b-items.ensures.value in
    spelled_next c.args.text.now c.loop-b.b-index (string_bytes c.loop-b.name) _ c.loop-b.is_after_other _
    (get_or c.as_bytes-b-items.result.now c.loop-b.b-index 0)
    (omega (arith, size, c.loop-b-test.true)) (ap (λ (bytes : _). get_or bytes c.loop-b.b-index 0) c.as_bytes-b-items.ensures.value) c.loop-b.invariant
    c.in_ok-spell_byte.ensures (ap not c.is_ascii_alphabetic-is_after_other.ensures.value)

pub returns : goal.returns
returns c =
    let size = ap length c.as_bytes-b-items.ensures.value in
    spelled_all c.args.text.now c.loop-b.b-index (string_bytes c.loop-b.name) c.loop-b.is_after_other
    (omega (arith, size, c.loop-b-test.false)) c.loop-b.invariant
