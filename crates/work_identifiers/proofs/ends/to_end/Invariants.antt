use Rattle.std.proofs.Common.{◌≡◌, ◌≤◌, length, take}
use Rattle.work_identifiers.specs.Ends as spec
use Rattle.work_identifiers.proofs.EndSteps.{AreCounts}
use Rattle.work_identifiers.proofs.ends.to_end.Given as goal

abbrev pub invariant-loop-at : goal.invariant-loop-at
invariant-loop-at l = record {
  counts : AreCounts l.counts (take l.at l.text);
  end : take l.end l.text ≡ spec.cut_at l.at l.text;
  size : length l.counts ≡ 256;
  within : l.end ≤ l.at;
}
