-- The size of a code's file.
use Rattle.std.specs.Prelude.{ℕ, ◌+◌, ◌*◌, length, sum_by}
use Rattle.code_model.specs.Code.{Name, Literal, Code}

-- the bytes of the file of a code
abbrev pub file_size : Code → ℕ
file_size c =
    10 + (sum_by (λ (name : Name). 2 + length name.text) c.names
    + (sum_by (λ (literal : Literal). 3 + length literal.bytes) c.literals + 8 * length c.instrs))
