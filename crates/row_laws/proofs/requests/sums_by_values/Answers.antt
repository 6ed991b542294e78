use Rattle.environment_model.specs.Environment.{meaning_bytes, meaning_members}
use Rattle.row_laws.proofs.SameValues.{same_values}
use Rattle.row_laws.proofs.requests.sums_by_values.Goals as goal

pub returns-clause-bytes : goal.returns-clause-bytes
returns-clause-bytes c = λ lists pairs others same. same_values meaning_bytes lists pairs others same

pub returns-clause-members : goal.returns-clause-members
returns-clause-members c = λ lists pairs others same. same_values meaning_members lists pairs others same
