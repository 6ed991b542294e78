use Rattle.std.proofs.Common.{◌≡◌, ◌++◌, take}
use Rattle.source_menus.specs.Found.{first_of_each, links_in, request_value}
use Rattle.source_menus.proofs.links.push_links.Given as goal

abbrev pub invariant-loop-entry : goal.invariant-loop-entry
invariant-loop-entry l =
    l.links.items ≡ first_of_each (l.initial.links.items ++ links_in (request_value l.request) (take l.entry-index l.entries))
