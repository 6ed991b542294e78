-- Marks of keys: numbers that compare in one step.
use Rattle.std.specs.Prelude.{ℕ, ◌+◌, ◌*◌, ◌%◌, ◌^◌, fold}
use Rattle.std.specs.declared.cmp.Ordering.{Ordering}
use Rattle.std.specs.Ordering.{nat_cmp, on, then_cmp}
use Rattle.std.specs.Cmp.Lexicographic.{slice_cmp}
use Rattle.text_model.specs.Texts.{Text}

-- the mark after one more byte
abbrev pub next_mark : ℕ → ℕ → ℕ
next_mark mark byte = ((mark * 257) % 2 ^ 64 + byte) % 2 ^ 64

-- the mark of a key: its bytes as the digits of one number, of which 64 bits are kept
unfoldable pub mark_of : Text → ℕ
mark_of key = fold next_mark 0 key

-- how keys compare: by their marks, and keys of one mark by their bytes
abbrev pub compared_keys : Text → Text → Ordering
compared_keys = then_cmp (on mark_of nat_cmp) (slice_cmp nat_cmp)
