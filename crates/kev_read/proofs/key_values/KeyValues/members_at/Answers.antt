use Rattle.std.proofs.Common.{arith, subst}
use Rattle.target_vars.specs.EnvValue.{EnvValue, AreMembersAt}
use Rattle.kev_read.proofs.KeySpans.{few_spans, members_are, spans_of_order}
use Rattle.kev_read.proofs.key_values.KeyValues.members_at.Goals as goal

pub overflow_cast-result : goal.overflow_cast-result
overflow_cast-result c = grind (arith, spans_of_order, c.self.invariant, few_spans)

pub overflow_cast-result-2 : goal.overflow_cast-result-2
overflow_cast-result-2 c = grind (arith, spans_of_order, c.self.invariant, few_spans)

pub returns : goal.returns
returns c =
    let first = c.run_of-first.result.0 in
    let count = c.run_of-first.result.1 in
    let key = c.args.key.now in
    let within = c.run_of-first.ensures.within in
    subst (λ (v : EnvValue). AreMembersAt v key first count) c.self.view_is
    grind (arith, spans_of_order, c.self.invariant, members_are, c.run_of-first.ensures)
