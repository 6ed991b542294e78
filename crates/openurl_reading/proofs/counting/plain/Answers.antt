use Rattle.std.proofs.Common.{sym, ◌∙◌}
use Rattle.openurl_reading.proofs.Walks.{plain_pushed, plain_kept}
use Rattle.openurl_reading.proofs.counting.plain.Goals as goal
use Rattle.openurl_reading.proofs.counting.plain.Goals.{then-is_plain+in_ok-push, else-is_plain}

pub loop-byte-preserved : goal.loop-byte-preserved
loop-byte-preserved c =
    let value = c.args.value.now in
    let i = c.loop-byte.byte-index in
    let bytes = c.loop-byte.bytes.items in
    elim c.if-is_plain.branch [
      | then-is_plain+in_ok-push w ↦
          plain_pushed value i w.to_ascii_uppercase.result bytes c.if-is_plain.bytes.items c.loop-byte-test.true
          (sym c.is_plain.ensures ∙ w.if-is_plain.true) (rw w.bytes-is w.in_ok-push.ensures.items) w.to_ascii_uppercase.ensures.value c.loop-byte.invariant
      | else-is_plain w ↦
          rw w.bytes-is (plain_kept value i bytes c.loop-byte-test.true (sym c.is_plain.ensures ∙ w.if-is_plain.false) c.loop-byte.invariant)
    ]
