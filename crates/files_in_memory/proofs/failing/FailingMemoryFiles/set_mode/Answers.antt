use Rattle.std.proofs.Common.{◌≡◌, List, ℕ, string_bytes, subst}
use Rattle.files.specs.Modes.{ChangesModeOnly}
use Rattle.files_in_memory.specs.InMemory.{modes_of}
use Rattle.files_in_memory.proofs.failing.FailingMemoryFiles.set_mode.Goals as goal

pub returns-clause-modes : goal.returns-clause-modes
returns-clause-modes c =
    subst
    (λ memory. (path : List ℕ) (bytes : List ℕ) → (path ≡ string_bytes c.args.draft.now.path) × (bytes ≡ c.args.draft.now.bytes.items)
    → ChangesModeOnly path (modes_of memory) (modes_of c.set_mode.new.self)) c.in_ok-call.ensures.files c.set_mode.ensures.modes
