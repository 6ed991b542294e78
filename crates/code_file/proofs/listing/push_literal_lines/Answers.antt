use Rattle.std.proofs.Common.{◌++◌, ap, ◌∙◌}
use Rattle.std.specs.Prelude.{string_bytes}
use Rattle.code_file.specs.Listing.{literal_line}
use Rattle.code_file.proofs.LineLemmas.{line_step}
use Rattle.code_file.proofs.listing.push_literal_lines.Goals as goal

pub loop-place-preserved : goal.loop-place-preserved
loop-place-preserved c =
    line_step literal_line _ c.args.literals.now c.loop-place.place c.index-literals-place.result _ _ c.loop-place-test.true c.loop-place.invariant
    (c.in_ok-push_literal_line.ensures
    ∙ ap (λ (x : _). string_bytes c.loop-place.out ++ literal_line c.loop-place.place x) c.index-literals-place.is)
