use Rattle.std.proofs.Common.{◌≡◌, ◌++◌, drop, length, map}
use Rattle.std.specs.Vec.Iter.{into_iter_items}
use Rattle.link_menu.specs.Private.Held.{entries_with}
use Rattle.link_menu.proofs.searches.menu_with.Given as goal

abbrev pub invariant-loop-target : goal.invariant-loop-target
invariant-loop-target l = record {
  many : length l.entries.items ≡ l.target-index;
  rest : l.entries.items ++ entries_with (drop l.target-index l.targets) (drop l.target-index l.held) (map (λ s. s.resolution) (into_iter_items l.searches))
      ≡ entries_with l.targets l.held (map (λ s. s.resolution) l.fn.searches.items);
}
