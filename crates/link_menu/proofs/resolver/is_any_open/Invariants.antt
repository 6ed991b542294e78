-- No search so far is open.
use Rattle.std.proofs.Common.{◌≡◌, false, drop}
use Rattle.std.specs.List.{list_any}
use Rattle.link_menu.specs.Private.Searches as spec
use Rattle.link_menu.proofs.resolver.is_any_open.Given as goal

abbrev pub invariant-loop-search : goal.invariant-loop-search
invariant-loop-search l = list_any spec.is_open l.searches ≡ list_any spec.is_open (drop l.search-index l.searches)
