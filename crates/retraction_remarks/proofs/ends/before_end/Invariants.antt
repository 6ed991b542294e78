use Rattle.std.proofs.Common.{◌≡◌, ◌++◌, take, drop}
use Rattle.std.specs.Option.{option_map}
use Rattle.retraction_remarks.specs.Remarks as spec
use Rattle.retraction_remarks.proofs.ends.before_end.Given as goal

abbrev pub invariant-loop-at : goal.invariant-loop-at
invariant-loop-at l =
    option_map (λ front. take l.at l.text ++ front) (spec.before_place (spec.is_at l.end) (drop l.at l.text))
    ≡ spec.before_place (spec.is_at l.end) l.text
