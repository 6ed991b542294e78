use Rattle.std.proofs.Common.{refl}
use Rattle.commands.specs.Output.{unprinted, prints}
use Rattle.commands.proofs.printing.print_text.Goals as goal

pub returns-in-Ok : goal.returns-in-Ok
returns-in-Ok g c = prints _ refl c.in-Ok.ensures.ok

pub returns-in-Err : goal.returns-in-Err
returns-in-Err g c = unprinted _ _ refl refl c.in-Err.ensures.err
