use Rattle.lint_laws.proofs.TemplateNames.{is_name_iff}
use Rattle.lint_laws.proofs.names.names_are_those_of_templates.Goals as goal

pub returns : goal.returns
returns c = is_name_iff
