-- Lines have at most one list of statements, and statements belong to at most one set of rules.
use Rattle.std.specs.Str.Lines.{lines}
use Rattle.rule_parser.proofs.FirstFaults.{rules_same}
use Rattle.rule_parser.proofs.laws.one_rule_set.Goals as goal

pub returns : goal.returns
returns c = λ bytes rules others a b. rules_same c.one_tree.ensures (lines bytes) rules others a.sound b.sound a.spelled b.spelled
