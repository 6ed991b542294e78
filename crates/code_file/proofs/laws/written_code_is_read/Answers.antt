use Rattle.code_file.proofs.FileLaws.{written_is_read}
use Rattle.code_file.proofs.laws.written_code_is_read.Goals as goal

pub returns : goal.returns
returns c = written_is_read
