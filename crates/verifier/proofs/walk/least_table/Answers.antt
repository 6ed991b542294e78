use Rattle.std.proofs.Common.{ap, ◌∙◌, set, arith, rules}
use Rattle.std.specs.Prelude.{Some}
use Rattle.verifier.proofs.Pushes.{start_closed, start_below}
use Rattle.verifier.proofs.walk.least_table.Goals as goal

pub walk-requires-clause-closed : goal.walk-requires-clause-closed
walk-requires-clause-closed c =
    let items = c.in_ok-table.ensures.items_if_clones_equal (search rules) in
    start_closed c.args.layout.now.code.now c.len.result _ c.any.result (omega (arith, c.len.ensures.count, c.len.ensures.is_code.header.some))
    (c.deref_mut.ensures.value ∙ ap (λ x. set x 0 (Some c.any.result)) items) c.any.ensures

pub walk-requires-clause-below : goal.walk-requires-clause-below
walk-requires-clause-below c =
    let items = c.in_ok-table.ensures.items_if_clones_equal (search rules) in
    start_below c.args.layout.now.code.now c.len.result _ c.any.result (omega (arith, c.len.ensures.count, c.len.ensures.is_code.header.some))
    (c.deref_mut.ensures.value ∙ ap (λ x. set x 0 (Some c.any.result)) items) c.any.ensures
