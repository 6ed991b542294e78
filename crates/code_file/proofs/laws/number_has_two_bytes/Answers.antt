use Rattle.std.proofs.Common.{◌≡◌, ◌+◌, ◌*◌, arith, ap, ◌∙◌}
use Rattle.code_file.specs.Grammar.{number}
use Rattle.code_file.proofs.FileLemmas.{number_of_bytes}
use Rattle.code_file.proofs.laws.number_has_two_bytes.Goals as goal

pub returns-clause-bytes : goal.returns-clause-bytes
returns-clause-bytes c high low h l =
    let same : high * 256 + (low * 1 + 0) ≡ 256 * high + low = omega arith in ap number same ∙ number_of_bytes high low h l
