-- The lists so far are those of the names so far.
use Rattle.std.proofs.Common.{◌≡◌, map, take}
use Rattle.environment_model.specs.Lists.{list_names}
use Rattle.rule_parser.specs.Names.{each_once}
use Rattle.rule_parser.proofs.rules.Rules.lists.Given as goal

abbrev pub invariant-loop-list : goal.invariant-loop-list
invariant-loop-list l = map (λ list. list.now) l.lists.items ≡ each_once (list_names (take l.list-index l.list-items))
