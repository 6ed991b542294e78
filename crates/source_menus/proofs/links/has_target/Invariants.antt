use Rattle.std.proofs.Common.{◌≡◌, false, take}
use Rattle.std.specs.List.{list_any}
use Rattle.source_menus.specs.Found.{is_of}
use Rattle.source_menus.proofs.links.has_target.Given as goal

abbrev pub invariant-loop-link : goal.invariant-loop-link
invariant-loop-link l = list_any (is_of l.target) (take l.link-index l.links) ≡ false
