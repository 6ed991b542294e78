-- What code does depends only on what the names of its table denote.
use Rattle.std.proofs.Common.{◌≡◌, ℕ, zero, suc, Option, Some, None, true, refl, sym, ap, ◌∙◌, subst, slice_get, arith}
use Rattle.std.proofs.lemmas.Bool.{false≢true}
use Rattle.std.proofs.lemmas.Grind.{common_steps}
use Rattle.environment_model.specs.Environment.{Environment, text_of, members_of}
use Rattle.code_model.specs.Code.{Code, Name}
use Rattle.code_model.specs.declared.code.Instruction.{Instruction}
use Rattle.code_model.specs.declared.code.Instruction.TheVariants as instruction
use Rattle.machine_model.specs.Operands.{has_right_operands, names_text, names_list, name_at, text_of_name}
use Rattle.machine_model.specs.Values as value
use Rattle.machine_model.specs.Values.{text_or_undefined}
use Rattle.machine_model.specs.States.{Frame, State, on, holding}
use Rattle.machine_model.specs.Step.{Move, MovesTo, Does, halt, fail, jump, text, list, const, number, no_number, undefined, defined, empty, not_empty}
use Rattle.machine_model.specs.Step.{no_member, a_member, equal, different, less, not_less, emit, put_text, cut_text, no_turn, enter, first_turn, later_turn}
use Rattle.machine_model.specs.Step.{next_member, leave, count, StepsTo}
use Rattle.machine_model.specs.Runs.{After}

-- each name of the table denotes the same text and the same members
abbrev pub AgreeOn : Code → Environment → Environment → Type 0
AgreeOn c v w = (k : ℕ) (name : Name) → slice_get c.names k ≡ Some name
    → (text_of v name.text ≡ text_of w name.text) × (members_of v name.text ≡ members_of w name.text)

-- ---- the names of instructions are in the table

text_in_table : (c : Code) (a b : ℕ) → has_right_operands c (instruction.Text a b) ≡ true → names_text (slice_get c.names b) ≡ true
unfolding has_right_operands
text_in_table c a b right = grind (arith, common_steps)

list_in_table : (c : Code) (a b : ℕ) → has_right_operands c (instruction.List a b) ≡ true → names_list (slice_get c.names b) ≡ true
unfolding has_right_operands
list_in_table c a b right = grind (arith, common_steps)

-- ---- steps

module _ (c : Code) (v w : Environment) (agree : AgreeOn c v w) where
  text_same : (a b : ℕ) → has_right_operands c (instruction.Text a b) ≡ true → text_of v (name_at c b) ≡ text_of w (name_at c b)
  text_same a b right = grind (arith, text_in_table)

  members_same : (a b : ℕ) → has_right_operands c (instruction.List a b) ≡ true → members_of v (name_at c b) ≡ members_of w (name_at c b)
  members_same a b right = by_name (slice_get c.names b) refl
    where
      by_name : (o : Option Name) → slice_get c.names b ≡ o → members_of v (text_of_name o) ≡ members_of w (text_of_name o)
      by_name None none = absurd (false≢true (ap names_list (sym none) ∙ list_in_table c a b right))
      by_name (Some name) at = (agree b name at).1

  same_move : (s : Frame) (i : Instruction) (m : Move) → has_right_operands c i ≡ true → Does c v s i m → Does c w s i m
  same_move s _ _ right halt = halt
  same_move s _ _ right fail = fail
  same_move s _ _ right (jump d) = jump d
  same_move s _ _ right (text a b) =
      subst (λ o. Does c w s (instruction.Text a b) (MovesTo (on (holding a (text_or_undefined o) s)))) (sym (text_same a b right)) (text a b)
  same_move s _ _ right (list a b) =
      subst (λ ts. Does c w s (instruction.List a b) (MovesTo (on (holding a (value.List ts) s)))) (sym (members_same a b right)) (list a b)
  same_move s _ _ right (const a b) = const a b
  same_move s _ _ right (number a b d n t h k) = number a b d n t h k
  same_move s _ _ right (no_number a b d t h k) = no_number a b d t h k
  same_move s _ _ right (undefined a d h) = undefined a d h
  same_move s _ _ right (defined a d t h) = defined a d t h
  same_move s _ _ right (empty a d h) = empty a d h
  same_move s _ _ right (not_empty a d b t h) = not_empty a d b t h
  same_move s _ _ right (no_member a d h) = no_member a d h
  same_move s _ _ right (a_member a d t ts h) = a_member a d t ts h
  same_move s _ _ right (equal a b d t h k) = equal a b d t h k
  same_move s _ _ right (different a b d t u h k ne) = different a b d t u h k ne
  same_move s _ _ right (less a b d m n h k lt) = less a b d m n h k lt
  same_move s _ _ right (not_less a b d m n h k le) = not_less a b d m n h k le
  same_move s _ _ right (emit b) = emit b
  same_move s _ _ right (put_text a m t h) = put_text a m t h
  same_move s _ _ right (cut_text a n m t h) = cut_text a n m t h
  same_move s _ _ right (no_turn a b d h lt k) = no_turn a b d h lt k
  same_move s _ _ right (enter a b d t ts h lt k) = enter a b d t ts h lt k
  same_move s _ _ right (first_turn b l h k) = first_turn b l h k
  same_move s _ _ right (later_turn b l h k) = later_turn b l h k
  same_move s _ _ right (next_member l t ts h e k) = next_member l t ts h e k
  same_move s _ _ right (leave l h e k) = leave l h e k
  same_move s _ _ right (count a b ts h) = count a b ts h

  same_step : (old new : State) → StepsTo c v old new → StepsTo c w old new
  same_step old new step = grind (arith, same_move)

  -- the states after each number of steps are the same
  pub same_states : (k : ℕ) (s : State) → After c v k s → After c w k s
  unfolding After
  same_states zero s after = after
  same_states (suc k) s after = (after.0, same_states k after.0 after.1, same_step after.0 s after.2)
