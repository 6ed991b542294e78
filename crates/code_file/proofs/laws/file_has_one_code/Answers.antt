use Rattle.code_file.proofs.FileLaws.{file_one_code}
use Rattle.code_file.proofs.laws.file_has_one_code.Goals as goal

pub returns : goal.returns
returns c = file_one_code
