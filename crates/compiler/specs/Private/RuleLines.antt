-- The lines of rules, rule by rule, and their instructions. For private contracts.
use Rattle.std.specs.Prelude.{ℕ, ◌+◌, List, [], ◌∷◌, ◌++◌, length, map}
use Rattle.std.specs.List.{flat_map}
use Rattle.std.specs.declared.vec.Vec.{Vec}
use Rattle.code_model.specs.Code.{Name, Literal}
use Rattle.code_model.specs.declared.code.Instruction.{Instruction}
use Rattle.code_model.specs.declared.code.Instruction.TheVariants.{Fail}
use Rattle.compiler_model.specs.declared.lines.Line.{Line}
use Rattle.compiler_model.specs.declared.lines.Line.TheVariants.{Fails}
use Rattle.compiler_model.specs.Compiled.{instructions_from}

-- the lines of each rule
abbrev pub lines_in : {A : Type 0} → List (Vec Line A) → List (List Line)
lines_in rules = map (λ lines. lines.items) rules

-- the lines of all rules, one rule after another
abbrev pub joined : List (List Line) → List Line
joined rules = flat_map (λ lines. lines) rules

-- and FAIL after them
abbrev pub with_fail : List (List Line) → List Line
with_fail rules = joined rules ++ Fails ∷ []

-- the instructions of the rules from a place on, and FAIL after them; a test that leaves a rule leads to the place after its lines
abbrev pub instructions_of : List Name → List Literal → ℕ → List (List Line) → List Instruction
instructions_of names literals place [] = Fail ∷ []
instructions_of names literals place (lines ∷ rules) =
    instructions_from names literals (place + length lines) place lines ++ instructions_of names literals (place + length lines) rules
