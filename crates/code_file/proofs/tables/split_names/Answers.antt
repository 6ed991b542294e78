use Rattle.std.proofs.Common.{◌-◌, length, refl, arith}
use Rattle.std.proofs.lemmas.Grind.{common_steps}
use Rattle.code_file.specs.Grammar.{IsCodeName, name_field}
use Rattle.code_file.proofs.TableLemmas.{so_far_more}
use Rattle.code_file.proofs.tables.split_names.Goals as goal

pub loop-preserved : goal.loop-preserved
loop-preserved c =
    let entry = c.in-Ok.ensures.good in
    let more =
    so_far_more IsCodeName name_field c.loop.counter c.loop.at (length c.args.bytes.now - length c.in-Ok.rest.now)
    c.args.bytes.now _ c.in-Ok.rest.now c.loop.invariant.1 c.loop.invariant.0 (grind (arith, common_steps)) entry.0 entry.1 entry.2 refl
    in (more.1, more.0)
