-- Targets whose codes are read from code files, which were compiled from rule texts.
use Rattle.std.specs.Prelude.{◌≡◌, List}
use Rattle.std.specs.List.{AllZip}
use Rattle.text_model.specs.Texts.{Text}
use Rattle.code_file.specs.Grammar.{IsCodeFile}
use Rattle.kbart_rows.specs.Reading.{IsTable}
use Rattle.rule_parser.specs.Rules.{RuleSet}
use Rattle.rule_parser.specs.Grammar.{IsRuleText}
use Rattle.compiler_model.specs.Compiled.{code_of}
use Rattle.registry.specs.Targets.{TargetValue}
use Rattle.rule_menus.specs.RuleFiles.{TargetFiles}

-- the bytes are the code file of the rules in the rule text
pub record IsCodeFileOf (text file : Text) : Type 0 where
  pub rules : RuleSet
  pub are_rules : IsRuleText text rules
  pub compiled : IsCodeFile file (code_of rules)

-- the target has the name, the code that is read from the code file of the rule text, and the table that is read from the bytes of the table
pub record IsReadFrom (files : TargetFiles) (target : TargetValue) : Type 0 where
  pub name : target.name ≡ files.name
  pub file : Text
  pub is_of_rules : IsCodeFileOf files.rules file
  pub read : IsCodeFile file target.code
  pub table : IsTable files.table target.table

-- each target is read from the files at the same position
abbrev pub AreReadFrom : List TargetFiles → List TargetValue → Type 0
AreReadFrom files targets = AllZip IsReadFrom files targets
