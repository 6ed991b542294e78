use Rattle.std.proofs.Common.{arith}
use Rattle.std.proofs.lemmas.Grind.{common_steps}
use Rattle.uri_grammar.proofs.names.next_len.Goals as goal

pub returns-in-0-clause-value : goal.returns-in-0-clause-value
returns-in-0-clause-value c = grind (arith, common_steps)

pub returns-in_default-varchar_len-clause-value : goal.returns-in_default-varchar_len-clause-value
returns-in_default-varchar_len-clause-value c = grind (arith, common_steps)
