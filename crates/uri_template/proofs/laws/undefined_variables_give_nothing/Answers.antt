use Rattle.uri_template.proofs.Undefined.{undefined-led}
use Rattle.uri_template.proofs.laws.undefined_variables_give_nothing.Goals as goal

pub returns : goal.returns
returns c = undefined-led
