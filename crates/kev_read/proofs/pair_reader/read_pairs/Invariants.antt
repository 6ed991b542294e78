use Rattle.std.proofs.Common.{◌≡◌, ◌-◌, ◌++◌, map, drop, length}
use Rattle.std.specs.Prelude.{All}
use Rattle.form_urlencoded.specs.Form.{raw_pairs}
use Rattle.kev_read.specs.Pairs.{pairs_of, decoded_pair}
use Rattle.kev_read.specs.Private.Layout.{IsPlaced, pair_in}
use Rattle.kev_read.specs.Private.Reading.{HoldsQuery}
use Rattle.kev_read.proofs.pair_reader.read_pairs.Given as goal

-- the pairs so far, with those that are left, are all pairs
abbrev pub invariant-loop-done : goal.invariant-loop-done
invariant-loop-done l = record {
  held : HoldsQuery l.query l.text.items;
  placed : All (IsPlaced l.text.items) l.places.items;
  pairs : map (pair_in l.text.items) l.places.items ++ map decoded_pair (raw_pairs (drop l.done l.query)) ≡ pairs_of l.query;
}

abbrev pub decreases-loop-done : goal.decreases-loop-done
decreases-loop-done l = length l.query - l.done
