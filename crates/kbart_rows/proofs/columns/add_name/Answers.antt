use Rattle.std.proofs.Common.{arith}
use Rattle.std.proofs.lemmas.Map.Text.{text_keys}
use Rattle.kbart_rows.proofs.columns.add_name.Goals as goal

pub returns-clause-added : goal.returns-clause-added
returns-clause-added c = λ other. grind (arith, text_keys)
