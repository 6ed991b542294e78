use Rattle.std.proofs.Common.{ap}
use Rattle.files_in_memory.specs.InMemory.{content_of, mode_of}
use Rattle.files_in_memory.proofs.MapLemmas.{found_elsewhere}
use Rattle.files_in_memory.proofs.memory.MemoryFiles.remove.Goals as goal

pub returns-clause-others : goal.returns-clause-others
returns-clause-others c other apart =
    ap content_of (found_elsewhere c.args.self.now.files c.args.path.now _ c.remove.new.self c.remove.ensures.updates other apart)

pub returns-clause-modes : goal.returns-clause-modes
returns-clause-modes c other apart =
    ap mode_of (found_elsewhere c.args.self.now.files c.args.path.now _ c.remove.new.self c.remove.ensures.updates other apart)
