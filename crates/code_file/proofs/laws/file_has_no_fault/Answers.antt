use Rattle.code_file.proofs.FileLaws.{file_no_fault}
use Rattle.code_file.proofs.laws.file_has_no_fault.Goals as goal

pub returns : goal.returns
returns c = file_no_fault
