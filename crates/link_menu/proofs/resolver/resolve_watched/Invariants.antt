use Rattle.std.proofs.Common.{◌≡◌, map}
use Rattle.registry.specs.Entries.{menu_of}
use Rattle.link_menu.specs.Private.Held.{held}
use Rattle.link_menu.proofs.RoundLemmas.{rounds_left}
use Rattle.link_menu.proofs.RoundProgress.{AfterRounds}
use Rattle.link_menu.proofs.SearchLemmas.{entry_in_the_end}
use Rattle.link_menu.proofs.resolver.resolve_watched.Given as goal

abbrev pub invariant-loop-searches : goal.invariant-loop-searches
invariant-loop-searches g l = record {
  menu : map entry_in_the_end l.searches.items ≡ menu_of (held l.request.pairs l.registry) l.request.pairs;
  rounds : AfterRounds l.request.pairs (held l.request.pairs l.registry) l.searches.items (g.W.Watch.lists l.fn.watch) (g.W.Watch.lists l.watch);
}

abbrev pub decreases-loop-searches : goal.decreases-loop-searches
decreases-loop-searches g l = rounds_left l.searches.items
