use Rattle.std.proofs.Common.{arith}
use Rattle.kbart_rows.proofs.NormalBytes.{normal_bytes}
use Rattle.kbart_rows.proofs.identifier.is_identifier.Goals as goal

pub returns : goal.returns
returns c = grind (arith, normal_bytes)
