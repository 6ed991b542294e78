use Rattle.std.proofs.Common.{arith}
use Rattle.std.proofs.lemmas.Bool.{eqb-true, eq-eqb}
use Rattle.uri_grammar.proofs.NameLemmas.{whole_varname, no_varname}
use Rattle.uri_grammar.proofs.names.is_varname.Goals as goal

pub returns-then-len-gt0 : goal.returns-then-len-gt0
returns-then-len-gt0 c = grind (arith, whole_varname, eqb-true, eq-eqb)

pub returns-else-len-gt0 : goal.returns-else-len-gt0
returns-else-len-gt0 c = grind (arith, c.if-len-gt0.false, no_varname, c.varname_len-len.ensures.none)
