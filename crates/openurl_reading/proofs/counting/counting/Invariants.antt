use Rattle.std.proofs.Common.{◌≡◌, ◌-◌, ◌≤◌, length, map, take}
use Rattle.openurl_reading.specs.Counting.{accepted, most_pairs}
use Rattle.openurl_reading.specs.Keys.{named}
use Rattle.openurl_reading.proofs.counting.counting.Given as goal

abbrev pub invariant-loop-index : goal.invariant-loop-index
invariant-loop-index l = record {
  list : l.list.items ≡ take most_pairs (accepted (take l.index (map named l.query)));
  left_out : l.left_out ≡ length (accepted (take l.index (map named l.query))) - most_pairs;
  few : length (accepted (take l.index (map named l.query))) ≤ l.index;
}
