use Rattle.std.proofs.Common.{◌++◌, ap, ◌∙◌}
use Rattle.std.specs.Prelude.{string_bytes}
use Rattle.code_file.specs.Listing.{name_line}
use Rattle.code_file.proofs.LineLemmas.{line_step}
use Rattle.code_file.proofs.listing.push_name_lines.Goals as goal

pub loop-place-preserved : goal.loop-place-preserved
loop-place-preserved c =
    line_step name_line _ c.args.names.now c.loop-place.place c.index-names-place.result _ _ c.loop-place-test.true c.loop-place.invariant
    (c.in_ok-push_name_line.ensures
    ∙ ap (λ (x : _). string_bytes c.loop-place.out ++ name_line c.loop-place.place x) c.index-names-place.is)
