use Rattle.std.proofs.Common.{◌∙◌, ap, string_bytes}
use Rattle.files_in_memory.specs.InMemory.{content_of, mode_of}
use Rattle.files_in_memory.proofs.MapLemmas.{found_elsewhere}
use Rattle.files_in_memory.proofs.memory.Memory.put.Goals as goal

pub returns-in-Ok-clause-others : goal.returns-in-Ok-clause-others
returns-in-Ok-clause-others c other apart =
    ap content_of (found_elsewhere c.args.self.now.files (string_bytes c.in_ok-path.path) _ c.insert.new.self c.in-Ok.ensures.updates other
    (λ same. apart (same ∙ c.in_ok-path.ensures.ok)))

pub returns-in-Ok-clause-modes : goal.returns-in-Ok-clause-modes
returns-in-Ok-clause-modes c other apart =
    ap mode_of (found_elsewhere c.args.self.now.files (string_bytes c.in_ok-path.path) _ c.insert.new.self c.in-Ok.ensures.updates other
    (λ same. apart (same ∙ c.in_ok-path.ensures.ok)))
