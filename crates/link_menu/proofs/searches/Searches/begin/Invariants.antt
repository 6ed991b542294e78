use Rattle.std.proofs.Common.{◌≡◌, length, map, take}
use Rattle.link_menu.specs.Private.Held.{has_row, held}
use Rattle.link_menu.specs.Private.Searches.{started}
use Rattle.link_menu.proofs.searches.Searches.begin.Given as goal

abbrev pub invariant-loop-target : goal.invariant-loop-target
invariant-loop-target l = record {
  flags : l.all.held.items ≡ map (has_row l.citation.pairs) (take l.target-index l.targets);
  searches : l.all.searches.items ≡ map (started l.citation) (held l.citation.pairs (take l.target-index l.targets));
  known : l.known.request ≡ l.citation;
  numbered : l.known.numbered ≡ l.numbered.names;
  many : length l.all.held.items ≡ l.target-index;
}
