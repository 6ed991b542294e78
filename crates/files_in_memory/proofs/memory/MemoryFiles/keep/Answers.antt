use Rattle.std.proofs.Common.{◌∙◌, ap, string_bytes, sym}
use Rattle.std.specs.BTreeMap.{get_by_text}
use Rattle.files_in_memory.specs.InMemory.{content_of, mode_of}
use Rattle.files_in_memory.proofs.MapLemmas.{found_elsewhere, kept_by}
use Rattle.files_in_memory.proofs.memory.MemoryFiles.keep.Goals as goal

pub returns-clause-others : goal.returns-clause-others
returns-clause-others c path bytes draft other apart =
    ap content_of (found_elsewhere c.args.self.now.files (string_bytes c.args.draft.path) _ c.insert.new.self c.in_ok-insert.ensures.updates other
    (λ same. apart (same ∙ sym draft.0)))

pub returns-clause-modes : goal.returns-clause-modes
returns-clause-modes c path =
    let files = c.args.self.now.files in
    kept_by files (string_bytes c.args.draft.path) _ c.insert.new.self c.in_ok-insert.ensures.updates mode_of
    (c.mode-mode.ensures ∙ ap (λ p. mode_of (get_by_text files p)) c.as_str.ensures.value) path
