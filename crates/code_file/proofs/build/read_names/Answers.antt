use Rattle.std.proofs.Common.{◌∷◌, [], arith, length-append}
use Rattle.std.proofs.lemmas.Grind.{common_steps}
use Rattle.code_file.proofs.TableLemmas.{building_next}
use Rattle.code_file.proofs.build.read_names.Goals as goal

pub read_name-requires : goal.read_name-requires
read_name-requires c =
    let next = building_next c.loop.invariant.0 (omega (arith, c.loop.invariant.1)) in (next.0, next.1, next.2, next.3)

pub loop-preserved : goal.loop-preserved
loop-preserved c =
    let next = building_next c.loop.invariant.0 (omega (arith, c.loop.invariant.1)) in
    let same = c.in_ok-name.ensures next.0 next.1 next.2 next.3 in
    rw (c.in_ok-push.ensures.items, same.0, same.1)
    (next.4, omega (arith, c.loop.invariant.1, length-append c.loop.names.items (next.0 ∷ [])))

pub returns : goal.returns
returns c = grind (arith, common_steps)
