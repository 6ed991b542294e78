-- What a block does to registers and output, as weakest preconditions: what has to hold before it so that a claim holds after it. Places do not occur.
use Rattle.std.proofs.Common.{◌≡◌, ℕ, ◌<◌, ◌≤◌, List, [], ◌∷◌, ◌++◌, length, Option, Some, None, Bool, true, false, ◌⊎◌}
use Rattle.text_model.specs.Texts.{Text}
use Rattle.text_model.specs.Writing.{written}
use Rattle.text_model.specs.Cut.{cut}
use Rattle.text_model.specs.Number.{leading_number}
use Rattle.environment_model.specs.Environment.{Environment, text_of, members_of}
use Rattle.machine_model.specs.Values.{Value, text_or_undefined}
use Rattle.machine_model.specs.Values as value
use Rattle.machine_model.specs.States.{put}
use Rattle.compiler_model.specs.declared.lines.Action.{Action}
use Rattle.compiler_model.specs.declared.lines.Action.TheVariants.{LoadText, LoadList, LoadConst, CountMembers, Emits, Separates, Puts, Cuts}
use Rattle.compiler_model.specs.declared.lines.Test.{Test}
use Rattle.compiler_model.specs.declared.lines.Test.TheVariants.{IsUndefined, IsEmpty, HasNoMember, HasNoNumber, Differs, IsLess}
use Rattle.compiler_model.specs.Blocks.{Block, Nothing, Does, Then, Unless, Either, ForEach, LeaveIf, Leave}

-- what code works on
pub record Store : Type 0 where
  pub registers : ℕ → Value
  pub output : Text

abbrev pub keeping : ℕ → Value → Store → Store
keeping a x s = record s { registers = put s.registers a x }

abbrev pub saying : Text → Store → Store
saying t s = record s { output = s.output ++ t }

-- a property of a store
abbrev pub Claim : Type 1
Claim = Store → Type 0

-- a separator, in a loop's first turn or in a later one
abbrev pub Separated : Option Bool → Text → Store → Claim → Type 0
Separated None t s Q = ⊥
Separated (Some true) t s Q = Q s
Separated (Some false) t s Q = Q (saying t s)

-- after the action the claim holds; the turn of a loop is its first or not
abbrev pub Acted : Environment → Option Bool → Action → Store → Claim → Type 0
Acted v turn (LoadText a name) s Q = Q (keeping a (text_or_undefined (text_of v name)) s)
Acted v turn (LoadList a name) s Q = Q (keeping a (value.List (members_of v name)) s)
Acted v turn (LoadConst a t) s Q = Q (keeping a (value.Text t) s)
Acted v turn (CountMembers a b) s Q = (ts : List Text) × (s.registers b ≡ value.List ts) × Q (keeping a (value.Number (length ts)) s)
Acted v turn (Emits t) s Q = Q (saying t s)
Acted v turn (Separates t) s Q = Separated turn t s Q
Acted v turn (Puts a w) s Q = (t : Text) × (s.registers a ≡ value.Text t) × Q (saying (written w t) s)
Acted v turn (Cuts a n w) s Q = (t : Text) × (s.registers a ≡ value.Text t) × Q (saying (written w (cut w t n)) s)

-- if the test holds, the first claim holds, and otherwise the second
abbrev pub Tested : Test → Store → Type 0 → Claim → Type 0
Tested (IsUndefined a) s J Q =
    ((s.registers a ≡ value.Undefined) × J) ⊎ ((t : Text) × (s.registers a ≡ value.Text t) × Q s)
Tested (IsEmpty a) s J Q =
    ((s.registers a ≡ value.Text []) × J) ⊎ ((b : ℕ) × (t : Text) × (s.registers a ≡ value.Text (b ∷ t)) × Q s)
Tested (HasNoMember a) s J Q =
    ((s.registers a ≡ value.List []) × J) ⊎ ((t : Text) × (ts : List Text) × (s.registers a ≡ value.List (t ∷ ts)) × Q s)
Tested (HasNoNumber a b) s J Q =
    (t : Text) × (s.registers b ≡ value.Text t)
    × (((leading_number t ≡ None) × J) ⊎ ((n : ℕ) × (leading_number t ≡ Some n) × Q (keeping a (value.Number n) s)))
Tested (Differs a b) s J Q =
    (t : Text) × (u : Text) × (s.registers a ≡ value.Text t) × (s.registers b ≡ value.Text u)
    × (((t ≡ u → ⊥) × J) ⊎ ((t ≡ u) × Q s))
Tested (IsLess a b) s J Q =
    (m : ℕ) × (n : ℕ) × (s.registers a ≡ value.Number m) × (s.registers b ≡ value.Number n)
    × (((m < n) × J) ⊎ ((n ≤ m) × Q s))

-- the turns of a loop, one for each member, each leading to the next
abbrev pub InTurns : (Bool → Store → Claim → Type 0) → ℕ → List Text → Bool → Store → Claim → Type 0
InTurns turn a [] first s Q = Q s
InTurns turn a (t ∷ ts) first s Q = turn first (keeping a (value.Text t) s) (λ next. InTurns turn a ts false next Q)

-- after the block the first claim holds; if the rule is left in the block, the second claim holds
abbrev pub Brings : Environment → Option Bool → Block → Store → Claim → Claim → Type 0
Brings v turn Nothing s Q R = Q s
Brings v turn (Does action) s Q R = Acted v turn action s Q
Brings v turn (Then first second) s Q R = Brings v turn first s (λ next. Brings v turn second next Q R) R
Brings v turn (Unless test body) s Q R = Tested test s (Q s) (λ next. Brings v turn body next Q R)
Brings v turn (Either test first second) s Q R = Tested test s (Brings v turn second s Q R) (λ next. Brings v turn first next Q R)
Brings v turn (ForEach a b body) s Q R =
    (turn ≡ None) × (ts : List Text) × (s.registers b ≡ value.List ts)
    × InTurns (λ first next Claimed. Brings v (Some first) body next Claimed (λ never. ⊥)) a ts true s Q
Brings v turn (LeaveIf test) s Q R = Tested test s (R s) Q
Brings v turn Leave s Q R = R s
