-- How far the jumps of a rule's lines lead. For private contracts.
use Rattle.std.specs.Prelude.{ℕ, suc, ◌+◌, ◌≤◌, List, [], ◌∷◌, length}
use Rattle.compiler_model.specs.declared.lines.Target.{Target}
use Rattle.compiler_model.specs.declared.lines.Target.TheVariants.{Ahead, Away}
use Rattle.compiler_model.specs.declared.lines.Line.{Line}
use Rattle.compiler_model.specs.declared.lines.Line.TheVariants.{Tests, Jumps, Begins}

abbrev pub distance : Target → ℕ
distance (Ahead places) = places
distance Away = 0

abbrev pub reach : Line → ℕ
reach (Tests test target) = distance target
reach (Jumps target) = distance target
reach (Begins element list places) = places
reach line = 0

-- no line leads past the lines and that many more after them
abbrev pub StayWithin : ℕ → List Line → Type 0
StayWithin more [] = Unit {0}
StayWithin more (line ∷ rest) = (reach line ≤ suc (length rest) + more) × StayWithin more rest
