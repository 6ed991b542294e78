use Rattle.std.proofs.Common.{◌≡◌, map, take}
use Rattle.serde_json.specs.View.{view}
use Rattle.source_json.specs.Values.{pair_value}
use Rattle.source_json.proofs.readings.pairs_value.Given as goal

abbrev pub invariant-loop-index : goal.invariant-loop-index
invariant-loop-index l = map view l.list.items ≡ map pair_value (take l.index l.pairs)
