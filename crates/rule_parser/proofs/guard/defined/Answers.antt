-- Two tokens are a guard if the second is a name and the first is one of three verbs.
use Rattle.std.proofs.lemmas.Bool.{iff_false}
use Rattle.rule_parser.proofs.GuardLemmas.{no_guard_without_name, no_guard_of_verb}
use Rattle.rule_parser.proofs.guard.defined.Goals as goal

pub returns-then-not-is_name : goal.returns-then-not-is_name
returns-then-not-is_name c = no_guard_without_name _ _ c.requires.verb c.requires.name (iff_false c.is_name.ensures c.if-not-is_name.true)

pub returns-in_default : goal.returns-in_default
returns-in_default c =
    no_guard_of_verb _ _ c.requires.verb c.requires.name c.in_default.not-has c.in_default.not-lacks c.in_default.not-given
