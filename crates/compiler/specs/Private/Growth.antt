-- How a table grows by the entries that are used. For private contracts.
use Rattle.std.specs.Prelude.{List, [], ◌∷◌, ◌++◌, Option, Some, None, Bool, if◌then◌else◌}
use Rattle.std.specs.List.{list_any}
use Rattle.std.specs.Str.{IsUtf8}
use Rattle.code_model.specs.Code.{Literal}

-- the table with one more entry, unless it has it already
abbrev pub added : {X : Type 0} → (X → X → Bool) → List X → X → List X
added same xs x = if list_any (same x) xs then xs else (xs ++ x ∷ [])

-- the table with the entry that a line uses, if it uses one
abbrev pub with_entry : {X : Type 0} → (X → X → Bool) → List X → Option X → List X
with_entry same xs None = xs
with_entry same xs (Some x) = added same xs x

-- the table with several entries, one after another
abbrev pub gathered : {X : Type 0} → (X → X → Bool) → List X → List X → List X
gathered same xs [] = xs
gathered same xs (y ∷ ys) = gathered same (added same xs y) ys

-- the literal is UTF-8
abbrev pub IsUtf8Literal : Literal → Type 0
IsUtf8Literal literal = IsUtf8 literal.bytes
