-- An environment as rules see it.
use Rattle.environment_model.specs.Environment.{LookUp}
use Rattle.rule_parser.specs.Meaning.{seen}
use Rattle.rule_parser.specs.declared.view.RulesView.{RulesView}

-- each name as the rules declare it
abbrev pub seen_by : RulesView → LookUp
seen_by v = seen v.rules.now v.env.now.entries
