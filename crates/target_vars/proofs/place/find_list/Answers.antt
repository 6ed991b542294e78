use Rattle.std.proofs.Common.{arith}
use Rattle.std.proofs.lemmas.Option.{slice_get-get_or, slice_get_within}
use Rattle.target_vars.proofs.place.find_list.Goals as goal

pub bounds : goal.bounds
bounds c = omega (arith, slice_get_within c.args.names.now.listed c.in-Ok.number c.args.name.now c.in-Ok.ensures, c.requires)

pub returns-in-One : goal.returns-in-One
returns-in-One c = grind (arith, slice_get_within, c.requires, slice_get-get_or, c.in-One.is)
