use Rattle.std.proofs.Common.{◌∙◌, ap, string_bytes, sym}
use Rattle.std.specs.BTreeMap.{get_by_text}
use Rattle.files_in_memory.specs.InMemory.{content_of, mode_of}
use Rattle.files_in_memory.proofs.MapLemmas.{found_elsewhere, kept_by}
use Rattle.files_in_memory.proofs.memory.Memory.set_mode_at.Goals as goal

pub returns-in-Ok-clause-modes : goal.returns-in-Ok-clause-modes
returns-in-Ok-clause-modes c other apart =
    ap mode_of (found_elsewhere c.args.self.now.files (string_bytes c.in_ok-path.path) _ c.insert.new.self c.in-Ok.ensures.updates other
    (λ same. apart (same ∙ c.in_ok-path.ensures.ok)))

pub returns-in-Ok-clause-same : goal.returns-in-Ok-clause-same
returns-in-Ok-clause-same c path =
    let files = c.args.self.now.files in
    kept_by files (string_bytes c.in_ok-path.path) _ c.insert.new.self c.in-Ok.ensures.updates content_of
    (c.in_ok-content.ensures ∙ ap content_of c.in-Some.ensures.value ∙ ap (λ p. content_of (get_by_text files p)) (sym c.in_ok-path.ensures.ok)) path
