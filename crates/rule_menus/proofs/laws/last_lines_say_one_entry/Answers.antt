use Rattle.rule_menus.proofs.LastLines.{same_named_link, same_report}
use Rattle.rule_menus.proofs.laws.last_lines_say_one_entry.Goals as goal

pub returns-clause-report : goal.returns-clause-report
returns-clause-report c = λ lines resolution other x y. same_report lines resolution other x y

pub returns-clause-link : goal.returns-clause-link
returns-clause-link c = λ lines name resolution other x y. same_named_link lines name resolution other x y
