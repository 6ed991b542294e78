-- what the names so far are
use Rattle.std.proofs.Common.{◌≡◌, map, take, string_bytes}
use Rattle.rule_explanation.specs.Private.KnownNames.{known_as}
use Rattle.rule_explanation.proofs.known_names.KnownNames.new.Given as goal

abbrev pub invariant-loop-name : goal.invariant-loop-name
invariant-loop-name l = l.known.items ≡ map (λ name. known_as l.lists l.table.header (string_bytes name)) (take l.name-index l.texts)
