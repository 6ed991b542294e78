use Rattle.std.proofs.Common.{◌∙◌, ap, string_bytes, sym}
use Rattle.std.specs.BTreeMap.{get_by_text}
use Rattle.files_in_memory.specs.InMemory.{content_of, mode_of}
use Rattle.files_in_memory.proofs.MapLemmas.{found_elsewhere, found_here}
use Rattle.files_in_memory.proofs.memory.MemoryFiles.rename.Goals as goal

pub returns-clause-there : goal.returns-clause-there
returns-clause-there c =
    let kept = found_elsewhere c.insert.new.self c.args.from.now _ c.remove.new.self c.remove.ensures.updates c.args.to.now (λ same. c.requires (sym same)) in
    let moved = found_here c.args.self.now.files (string_bytes c.in_ok-to.to) _ c.insert.new.self c.in_ok-insert.ensures.updates in
    ap content_of (kept ∙ ap (λ path. get_by_text c.insert.new.self path) (sym c.in_ok-to.ensures.ok) ∙ moved)
    ∙ c.in_ok-entry.ensures.content ∙ ap content_of c.in-Some.ensures.value

pub returns-clause-mode : goal.returns-clause-mode
returns-clause-mode c =
    let kept = found_elsewhere c.insert.new.self c.args.from.now _ c.remove.new.self c.remove.ensures.updates c.args.to.now (λ same. c.requires (sym same)) in
    let moved = found_here c.args.self.now.files (string_bytes c.in_ok-to.to) _ c.insert.new.self c.in_ok-insert.ensures.updates in
    ap mode_of (kept ∙ ap (λ path. get_by_text c.insert.new.self path) (sym c.in_ok-to.ensures.ok) ∙ moved)
    ∙ c.in_ok-entry.ensures.mode ∙ ap mode_of c.in-Some.ensures.value

pub returns-clause-others : goal.returns-clause-others
returns-clause-others c other not_from not_to =
    ap content_of (
    found_elsewhere c.insert.new.self c.args.from.now _ c.remove.new.self c.remove.ensures.updates other not_from
    ∙ found_elsewhere c.args.self.now.files (string_bytes c.in_ok-to.to) _ c.insert.new.self c.in_ok-insert.ensures.updates other
    (λ same. not_to (same ∙ c.in_ok-to.ensures.ok))
    )

pub returns-clause-modes : goal.returns-clause-modes
returns-clause-modes c other not_from not_to =
    ap mode_of (
    found_elsewhere c.insert.new.self c.args.from.now _ c.remove.new.self c.remove.ensures.updates other not_from
    ∙ found_elsewhere c.args.self.now.files (string_bytes c.in_ok-to.to) _ c.insert.new.self c.in_ok-insert.ensures.updates other
    (λ same. not_to (same ∙ c.in_ok-to.ensures.ok))
    )
