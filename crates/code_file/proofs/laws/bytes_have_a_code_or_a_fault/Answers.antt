use Rattle.code_file.proofs.FileDecisions.{code_or_fault}
use Rattle.code_file.proofs.laws.bytes_have_a_code_or_a_fault.Goals as goal

pub returns : goal.returns
returns c = code_or_fault
