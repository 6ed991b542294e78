-- Targets as files: the bytes of rule texts and of tables.
use Rattle.std.specs.Prelude.{◌≡◌, List}
use Rattle.std.specs.List.{AllZip}
use Rattle.text_model.specs.Texts.{Text}
use Rattle.kbart_rows.specs.Reading.{IsTable}
use Rattle.rule_parser.specs.Grammar.{IsRuleText}
use Rattle.rule_menus.specs.RuleMenus.{RuleTarget}

-- a name, the bytes of a rule text, and those of a holdings table
pub record TargetFiles : Type 0 where
  pub name : Text
  pub rules : Text
  pub table : Text

-- the target has the name, the rules in the rule text, and the table that is read from the bytes of the table
pub record IsOfFiles (files : TargetFiles) (target : RuleTarget) : Type 0 where
  pub name : target.name ≡ files.name
  pub rules : IsRuleText files.rules target.rules
  pub table : IsTable files.table target.table

-- each target is made of the files at the same position
abbrev pub AreOfFiles : List TargetFiles → List RuleTarget → Type 0
AreOfFiles files targets = AllZip IsOfFiles files targets
