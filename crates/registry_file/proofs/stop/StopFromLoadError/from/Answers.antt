use Rattle.std.proofs.Common.{refl}
use Rattle.registry_file.proofs.stop.StopFromLoadError.from.Goals as goal

pub returns-in-NoMemory : goal.returns-in-NoMemory
returns-in-NoMemory c = c.in-NoMemory.is

pub returns-in_default : goal.returns-in_default
returns-in_default c = (refl, c.in_default.not-NoMemory)
