use Rattle.std.proofs.Common.{◌≡◌, ℕ, ◌||◌, false, slice_index_or, take}
use Rattle.text_model.specs.Texts.{texts_of}
use Rattle.environment_model.specs.Environment.{is_among}
use Rattle.kev_read.specs.Private.KeyOrder.{passes_at}
use Rattle.kev_read.proofs.list_keys.mark_names.Given as goal

-- the names so far were searched
abbrev pub invariant-loop-name : goal.invariant-loop-name
invariant-loop-name l =
    (i : ℕ) → slice_index_or l.marks i false
    ≡ (slice_index_or l.fn.marks i false || passes_at (λ key. is_among key (texts_of (take l.name-index l.names))) l.pairs i)
