use Rattle.code_file.proofs.FileLaws.{file_one_fault}
use Rattle.code_file.proofs.laws.file_has_one_fault.Goals as goal

pub returns : goal.returns
returns c = file_one_fault
