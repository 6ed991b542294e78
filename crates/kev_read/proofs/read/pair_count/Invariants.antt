use Rattle.std.proofs.Common.{◌≡◌, ◌+◌, ◌<◌, ◌^◌, length}
use Rattle.form_urlencoded.specs.Form.{raw_pairs}
use Rattle.form_urlencoded.specs.Parse.{raw_pairs_left}
use Rattle.kev_read.proofs.read.pair_count.Given as goal

-- the count so far, with the pairs that are left, is the whole
abbrev pub invariant-loop : goal.invariant-loop
invariant-loop l = record {
  whole : l.count + length (raw_pairs_left l.iterator') ≡ length (raw_pairs l.query);
  fits : length (raw_pairs l.query) < 2 ^ 64;
}
