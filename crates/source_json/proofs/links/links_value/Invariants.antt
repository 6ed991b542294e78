use Rattle.std.proofs.Common.{◌≡◌, map, take}
use Rattle.serde_json.specs.View.{view}
use Rattle.source_json.specs.Values.{link_value}
use Rattle.source_json.proofs.links.links_value.Given as goal

abbrev pub invariant-loop-link : goal.invariant-loop-link
invariant-loop-link l = map view l.list.items ≡ map link_value (take l.link-index l.links)
