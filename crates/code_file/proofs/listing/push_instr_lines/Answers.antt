use Rattle.code_file.specs.Listing.{instr_line}
use Rattle.code_file.proofs.LineLemmas.{line_step}
use Rattle.code_file.proofs.listing.push_instr_lines.Goals as goal

pub loop-place-preserved : goal.loop-place-preserved
loop-place-preserved c =
    line_step (instr_line c.args.version) _ c.args.instrs.now c.loop-place.place _ _ _ c.loop-place-test.true c.loop-place.invariant
    c.in_ok-push_instr_line.ensures
