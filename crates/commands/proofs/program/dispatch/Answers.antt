use Rattle.std.proofs.Common.{refl}
use Rattle.commands.specs.Program.{no_command, runs}
use Rattle.commands.proofs.program.dispatch.Goals as goal

pub returns-in-Some : goal.returns-in-Some
returns-in-Some g c = runs _ _ c.in-Some.ensures.some c.run_command.ensures

pub returns-in-None : goal.returns-in-None
returns-in-None g c = no_command c.in-None.ensures.none (refl {a = c.args.rt.now}) (refl {a = c.args.output.now}) (refl {a = c.args.errors.now})
