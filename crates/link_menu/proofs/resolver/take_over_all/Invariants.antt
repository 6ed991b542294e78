use Rattle.std.proofs.Common.{◌≡◌, drop, map, take}
use Rattle.std.specs.Vec.Iter.{into_iter_items}
use Rattle.interleaved_runs.specs.Fates.{fate_value}
use Rattle.link_menu.specs.Private.Searches.{fates_next, after_next_row}
use Rattle.link_menu.proofs.resolver.take_over_all.Given as goal

-- the searches before the place have recorded their fates, and the fates that are left are those of the others
abbrev pub invariant-loop-search : goal.invariant-loop-search
invariant-loop-search l = record {
  fates : map fate_value (into_iter_items l.fates) ≡ fates_next (drop l.search-index l.fn.searches);
  before : take l.search-index l.searches ≡ map after_next_row (take l.search-index l.fn.searches);
  others : drop l.search-index l.searches ≡ drop l.search-index l.fn.searches;
}
