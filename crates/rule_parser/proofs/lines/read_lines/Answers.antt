-- Each line is read, skipped or rejected, and at the end a link may be missing.
use Rattle.std.proofs.Common.{[], sym, ◌∙◌}
use Rattle.std.proofs.lemmas.Result.{err_from_is_err_and}
use Rattle.rule_parser.proofs.LineLemmas.{line_at, all_lines, line_read, line_skipped, line_refused, end_result}
use Rattle.rule_parser.proofs.lines.read_lines.Goals as goal
use Rattle.rule_parser.proofs.lines.read_lines.Goals.{then-is_significant+in_ok-read, else-is_significant}

pub loop-i-preserved : goal.loop-i-preserved
loop-i-preserved c =
    let at = line_at c.args.lines.now c.loop-i.i (record { ref_ptr = (0, 0); now = [] }) c.loop-i-test.true in
    elim c.if-is_significant.branch [
      | then-is_significant+in_ok-read w ↦
          rw w.reader-is
          (line_read _ _ c.loop-i.reader _ _ c.loop-i.invariant at.0 at.1 (sym c.is_significant.ensures ∙ w.if-is_significant.true) w.in_ok-read.ensures.ok
          w.in_ok-read.ensures.line)
      | else-is_significant w ↦
          rw w.reader-is
          (line_skipped _ _ c.loop-i.reader _ c.loop-i.invariant at.0 at.1 (sym c.is_significant.ensures ∙ w.if-is_significant.false))
    ]

pub returns-in_err-read-clause-err : goal.returns-in_err-read-clause-err
returns-in_err-read-clause-err c =
    let at = line_at c.args.lines.now c.loop-i.i (record { ref_ptr = (0, 0); now = [] }) c.loop-i-test.true in
    let p = err_from_is_err_and c.from_residual.result c.from_residual.ensures.1 in
    rw (p.1, p.2)
    (line_refused _ _ c.loop-i.reader _ _ c.loop-i.invariant at.0 at.1 (sym c.is_significant.ensures ∙ c.if-is_significant.true) c.in_err-read.ensures.err)

pub returns-clause-err : goal.returns-clause-err
returns-clause-err c = end_result _ _ c.loop-i.reader _ c.loop-i.invariant (all_lines _ _ c.loop-i-test.false) c.finish.ensures.err
