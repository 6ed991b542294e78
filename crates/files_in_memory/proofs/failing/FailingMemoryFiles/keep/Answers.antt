use Rattle.std.proofs.Common.{◌≡◌, List, ℕ, string_bytes, subst}
use Rattle.std.specs.Result.{OnOk}
use Rattle.files.specs.Changes.{ChangesOnly}
use Rattle.files_in_memory.specs.InMemory.{disk_of}
use Rattle.files_in_memory.proofs.failing.FailingMemoryFiles.keep.Goals as goal

pub returns-clause-others : goal.returns-clause-others
returns-clause-others c =
    subst
    (λ memory. OnOk c.keep.result ((path : List ℕ) (bytes : List ℕ) → (path ≡ string_bytes c.args.draft.path) × (bytes ≡ c.args.draft.bytes.items)
    → ChangesOnly path (disk_of memory) (disk_of c.keep.new.self))) c.in_ok-call.ensures.files c.keep.ensures.others
