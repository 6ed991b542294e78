use Rattle.std.proofs.Common.{arith, length-append}
use Rattle.code_file.proofs.PartsLemmas.{length-instrs}
use Rattle.code_file.proofs.parts.file_len.Goals as goal

pub returns : goal.returns
returns c version = grind (arith, length-append, c.args.literals.now, c.args.instrs.now, length-instrs)
