use Rattle.std.proofs.Common.{◌∙◌, ap, string_bytes}
use Rattle.files_in_memory.specs.InMemory.{content_of, mode_of}
use Rattle.files_in_memory.proofs.MapLemmas.{found_elsewhere}
use Rattle.files_in_memory.proofs.memory.MemoryFiles.create.Goals as goal

pub returns-clause-others : goal.returns-clause-others
returns-clause-others c other apart =
    ap content_of (found_elsewhere c.args.self.now.files (string_bytes c.in_ok-key.key) _ c.insert.new.self c.in_ok-insert.ensures.updates other
    (λ same. apart (same ∙ c.in_ok-key.ensures.ok)))

pub returns-clause-modes : goal.returns-clause-modes
returns-clause-modes c other apart =
    ap mode_of (found_elsewhere c.args.self.now.files (string_bytes c.in_ok-key.key) _ c.insert.new.self c.in_ok-insert.ensures.updates other
    (λ same. apart (same ∙ c.in_ok-key.ensures.ok)))
