use Rattle.rule_menus.proofs.ReadTargets.{one_file, read_code}
use Rattle.rule_menus.proofs.laws.rule_text_has_one_code.Goals as goal

pub returns-clause-file : goal.returns-clause-file
returns-clause-file c = one_file c.one_rule_set.ensures c.code_has_one_file.ensures

pub returns-clause-read : goal.returns-clause-read
returns-clause-read c = read_code c.one_rule_set.ensures c.file_has_one_code.ensures
