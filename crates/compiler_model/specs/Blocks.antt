-- Code as blocks: each jump leads past a block, or out of the rule.
use Rattle.std.specs.Prelude.{ℕ, ◌+◌, List, [], ◌∷◌, ◌++◌, length}
use Rattle.compiler_model.specs.declared.lines.Action.{Action}
use Rattle.compiler_model.specs.declared.lines.Test.{Test}
use Rattle.compiler_model.specs.declared.lines.Target.TheVariants.{Ahead, Away}
use Rattle.compiler_model.specs.declared.lines.Line.{Line}
use Rattle.compiler_model.specs.declared.lines.Line.TheVariants.{Acts, Tests, Jumps, Begins, Turns}

pub data Block : Type 0 where
  Nothing : Block
  Does : (action : Action) → Block
  -- one after the other
  Then : (first second : Block) → Block
  -- the body, unless the test holds
  Unless : (test : Test) (body : Block) → Block
  -- the first, unless the test holds; then the second
  Either : (test : Test) (first second : Block) → Block
  -- the body once for each member of the second register's list, with the member in the first
  ForEach : (element list : ℕ) (body : Block) → Block
  -- leaves the rule if the test holds
  LeaveIf : (test : Test) → Block
  Leave : Block

-- the lines of a block
abbrev pub lines : Block → List Line
lines Nothing = []
lines (Does action) = Acts action ∷ []
lines (Then first second) = lines first ++ lines second
lines (Unless test body) = Tests test (Ahead (length (lines body) + 1)) ∷ lines body
lines (Either test first second) =
    Tests test (Ahead (length (lines first) + 2)) ∷ lines first ++ Jumps (Ahead (length (lines second) + 1)) ∷ lines second
lines (ForEach element list body) = Begins element list (length (lines body) + 2) ∷ lines body ++ Turns ∷ []
lines (LeaveIf test) = Tests test Away ∷ []
lines Leave = Jumps Away ∷ []
