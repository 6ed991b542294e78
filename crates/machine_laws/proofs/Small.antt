-- The values in registers and loops are no larger than the environment and the comparison texts.
use Rattle.std.proofs.Common.{◌≡◌, ℕ, zero, suc, ◌+◌, ◌≤◌, List, [], ◌∷◌, length, Option, Some, None, Bool, true, refl, sym, subst, arith}
use Rattle.std.specs.Prelude.{slice_get, if◌then◌else◌, bytes_eq, sum_by}
use Rattle.std.proofs.lemmas.Grind.{common_steps}
use Rattle.std.proofs.lemmas.List.Sums.{sum_by-cons}
use Rattle.text_model.specs.Texts.{Text}
use Rattle.environment_model.specs.Environment.{Environment, Meaning, look_up, text_in, members_in, members_of, member_count, byte_count}
use Rattle.environment_model.specs.Environment.{meaning_bytes, meaning_members}
use Rattle.code_model.specs.Code.{Code, Literal}
use Rattle.code_model.specs.declared.code.Instruction.{Instruction}
use Rattle.code_model.specs.declared.code.Instruction.TheVariants.{Const}
use Rattle.machine_model.specs.Operands.{is_compared, has_right_operands, name_at, literal_at, text_of_literal}
use Rattle.machine_model.specs.Values.{Value, Nothing, Undefined, Text as TextValue, List as ListValue, Number as NumberValue, text_or_undefined}
use Rattle.machine_model.specs.States.{Loop, Frame, State, Running, Ended, put}
use Rattle.machine_model.specs.Step.{Move, Ends, MovesTo, Returns, Does, halt, fail, text, list, const, number, no_turn, enter, next_member, leave, count}
use Rattle.machine_model.specs.Step.{StepsTo}
use Rattle.machine_model.specs.Runs.{After}
use Rattle.machine_model.specs.Budget.{compared_length, longest_compared}

-- a value whose lists have at most m members and e bytes together, and whose texts have at most n bytes
abbrev pub IsSmall : ℕ → ℕ → ℕ → Value → Type 0
IsSmall m e n Nothing = Unit {0}
IsSmall m e n Undefined = Unit {0}
IsSmall m e n (TextValue t) = length t ≤ n
IsSmall m e n (ListValue ts) = (length ts ≤ m) × (sum_by length ts ≤ e)
IsSmall m e n (NumberValue x) = Unit {0}

-- the members that are left have at most e bytes together
abbrev pub LeftSmall : ℕ → Option Loop → Type 0
LeftSmall e None = Unit {0}
LeftSmall e (Some l) = sum_by length l.left ≤ e

pub record FrameSmall (m e n : ℕ) (s : Frame) : Type 0 where
  pub registers : (r : ℕ) → IsSmall m e n (s.registers r)
  pub left : LeftSmall e s.loop

abbrev pub StateSmall : ℕ → ℕ → ℕ → State → Type 0
StateSmall m e n (Running s) = FrameSmall m e n s
StateSmall m e n (Ended end) = Unit {0}

abbrev pub MoveSmall : ℕ → ℕ → ℕ → Move → Type 0
MoveSmall m e n (Ends end) = Unit {0}
MoveSmall m e n (MovesTo s) = FrameSmall m e n s
MoveSmall m e n (Returns s) = FrameSmall m e n s

-- ---- values from the environment

abbrev MeaningSmall : ℕ → ℕ → Option Meaning → Type 0
MeaningSmall m e o = (length (members_in o) ≤ m) × (sum_by length (members_in o) ≤ e) × IsSmall m e e (text_or_undefined (text_in o))

meaning_small : (v : Environment) (name : Text) → MeaningSmall (member_count v) (byte_count v) (look_up v name)
unfolding look_up
meaning_small [] name = (omega arith, omega arith, tt)
meaning_small (x ∷ v) name =
    rw (sum_by-cons (λ e. meaning_members e.meaning) x v, sum_by-cons (λ e. meaning_bytes e.meaning) x v)
    (by_test (meaning_small v name) (bytes_eq x.name name))
  where
    by_test : MeaningSmall (member_count v) (byte_count v) (look_up v name) → (t : Bool)
        → MeaningSmall (meaning_members x.meaning + member_count v) (meaning_bytes x.meaning + byte_count v) (if t then Some x.meaning else look_up v name)
    by_test rest t = grind (arith, common_steps)

-- ---- values from the table of literals

literal_small : (ls : List Literal) (b : ℕ) → is_compared (slice_get ls b) ≡ true → length (text_of_literal (slice_get ls b)) ≤ longest_compared ls
unfolding longest_compared
literal_small [] b h = absurd (cc)
literal_small (l ∷ ls) zero h = let f : compared_length l ≡ length l.bytes = rw h refl in omega (arith, f)
literal_small (l ∷ ls) (suc b) h = omega (arith, literal_small ls b h)

const_compared : (c : Code) (a b : ℕ) → has_right_operands c (Const a b) ≡ true → is_compared (slice_get c.literals b) ≡ true
unfolding has_right_operands
const_compared c a b h = grind (arith, common_steps)

-- ---- steps keep values small

-- the maximum number of bytes of a text in a register
abbrev pub text_limit : Code → Environment → ℕ
text_limit c v = byte_count v + longest_compared c.literals

module _ (c : Code) (v : Environment) where
  abbrev pub Small : State → Type 0
  Small s = StateSmall (member_count v) (byte_count v) (text_limit c v) s

  small_put : (s : Frame) (a : ℕ) (x : Value) → ((r : ℕ) → IsSmall (member_count v) (byte_count v) (text_limit c v) (s.registers r))
      → IsSmall (member_count v) (byte_count v) (text_limit c v) x → (r : ℕ) → IsSmall (member_count v) (byte_count v) (text_limit c v) (put s.registers a x r)
  small_put s a x h k r = grind (arith, common_steps)

  text_more : (o : Option Text) → IsSmall (member_count v) (byte_count v) (byte_count v) (text_or_undefined o)
      → IsSmall (member_count v) (byte_count v) (text_limit c v) (text_or_undefined o)
  text_more o h = grind (arith, common_steps)

  small_move : (s : Frame) (i : Instruction) (m : Move) → FrameSmall (member_count v) (byte_count v) (text_limit c v) s → has_right_operands c i ≡ true
      → Does c v s i m → MoveSmall (member_count v) (byte_count v) (text_limit c v) m
  small_move s _ _ h ok halt = tt
  small_move s _ _ h ok fail = tt
  small_move s _ _ h ok (text a b) = let x = meaning_small v (name_at c b) in
      record { registers = small_put s a _ h.registers (text_more (text_in (look_up v (name_at c b))) x.2); left = h.left }
  small_move s _ _ h ok (list a b) = let x = meaning_small v (name_at c b) in
      record { registers = small_put s a (ListValue (members_of v (name_at c b))) h.registers (x.0, x.1); left = h.left }
  small_move s _ _ h ok (const a b) =
      record {
        registers = small_put s a (TextValue (literal_at c b)) h.registers (omega (arith, literal_small c.literals b (const_compared c a b ok)));
        left = h.left;
      }
  small_move s _ _ h ok (number a b d n t e f) = record { registers = small_put s a (NumberValue n) h.registers tt; left = h.left }
  small_move s _ _ h ok (count a b ts e) = record { registers = small_put s a (NumberValue (length ts)) h.registers tt; left = h.left }
  small_move s _ _ h ok (enter a b d t ts e lt f) = grind (arith, common_steps)
  small_move s _ _ h ok (next_member l t ts e p f) = grind (arith, common_steps)
  small_move s _ _ h ok (leave l e p f) = record { registers = h.registers; left = tt }
  small_move s _ _ h ok (no_turn a b d e lt f) = record { registers = h.registers; left = h.left }
  small_move s _ _ h ok _ = record { registers = h.registers; left = h.left }

  small_step : (s new : State) → Small s → StepsTo c v s new → Small new
  small_step s new h st = grind (arith, small_move)

  -- for any code
  pub small_after : (k : ℕ) (s : State) → After c v k s → Small s
  unfolding After
  small_after zero s h = subst (StateSmall (member_count v) (byte_count v) (text_limit c v)) (sym h) (record { registers = λ r. tt; left = tt })
  small_after (suc k) s h = small_step h.0 s (small_after k h.0 h.1) h.2
