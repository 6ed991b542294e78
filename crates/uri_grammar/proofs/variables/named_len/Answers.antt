use Rattle.std.proofs.Common.{arith}
use Rattle.std.proofs.lemmas.Grind.{common_steps}
use Rattle.uri_grammar.proofs.SpecLemmas.{no_name}
use Rattle.uri_grammar.proofs.variables.named_len.Goals as goal

pub returns-then-len-eq0-clause-none : goal.returns-then-len-eq0-clause-none
returns-then-len-eq0-clause-none c = no_name c.args.text.now (c.varname_len-len.ensures.none c.if-len-eq0.true)

pub returns-clause-none : goal.returns-clause-none
returns-clause-none c = grind (arith, common_steps)
