use Rattle.std.proofs.Common.{ap, ◌+◌, ◌∙◌, arith}
use Rattle.std.specs.Prelude.{option_map}
use Rattle.verifier.specs.Private.Rows.{kinds_of, table_of}
use Rattle.verifier.proofs.GrowingTables.{place_followed, below_on, closed_on, closed_past_none}
use Rattle.verifier.proofs.GoodEdges.{registers_fit, element_fits, ends_within}
use Rattle.verifier.proofs.Pushes.{same_both, on_both}
use Rattle.verifier.proofs.NextPlaces.{continues}
use Rattle.verifier.proofs.walk.step.Goals as goal

pub edges-first-requires-clause-registers : goal.edges-first-requires-clause-registers
edges-first-requires-clause-registers c = registers_fit c.args.layout.now.code.now c.requires.form c.args.place c.instruction-instruction.result
    c.requires.place c.instruction-instruction.ensures

pub edges-first-requires-clause-element : goal.edges-first-requires-clause-element
edges-first-requires-clause-element c = element_fits c.args.layout.now.code.now c.requires.form c.args.place c.body-body.result c.body-body.ensures

pub follow-next-requires : goal.follow-next-requires
follow-next-requires c =
    (ends_within c.args.layout.now.code.now c.requires.form c.args.place _ _ _ _ _ _ c.requires.place c.body-body.ensures c.instruction-instruction.ensures
    c.edges-first.ensures c.requires.long).0

pub follow-requires : goal.follow-requires
follow-requires c =
    (ends_within c.args.layout.now.code.now c.requires.form c.args.place _ _ _ _ _ _ c.requires.place c.body-body.ensures c.instruction-instruction.ensures
    c.edges-first.ensures (c.follow-next.ensures.on.long ∙ c.requires.long)).1

pub returns-in_default-clause-closed : goal.returns-in_default-clause-closed
returns-in_default-clause-closed c =
    closed_past_none c.args.layout.now.code.now c.args.place (table_of c.args.table.now) (ap (option_map kinds_of) c.in_default.is) c.requires.closed

pub returns : goal.returns
returns c =
    let code = c.args.layout.now.code.now in
    let p = c.args.place in
    let ks = kinds_of c.in-Some.row in
    let old = table_of c.args.table.now in
    let new = table_of c.follow.new.table in
    let known = ap (option_map kinds_of) c.in-Some.is in
    let first = c.follow-next.ensures in
    let second = c.follow.ensures in
    let followed = place_followed code p ks _ _ _ _ old _ new c.instruction-instruction.ensures c.body-body.ensures c.edges-first.ensures first.follows
    second.follows in
    record {
      closed = closed_on code p c.follow.result ks old new known followed (same_both _ _ old _ new second.on.on first.same second.same)
          (omega (arith, second.on.on, first.on.on)) c.requires.closed;
      below = below_on code p ks old new known followed c.requires.below;
      on = on_both (p + 1) _ c.follow.result c.args.table.now _ c.follow.new.table first.on second.on;
      at =
          continues code c.requires.form p ks _ _ _ _ _ c.follow.result
          c.requires.place c.body-body.ensures c.instruction-instruction.ensures c.edges-first.ensures first.on.on first.at second.at;
    }
