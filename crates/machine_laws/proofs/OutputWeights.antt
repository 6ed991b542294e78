-- How many bytes an instruction prints at most: its weight, and what it prints for each byte of the current member.
use Rattle.std.proofs.Common.{◌≡◌, ℕ, ◌+◌, ◌*◌, ◌≤◌, ◌++◌, length, Option, Some, None, false, refl, subst, arith, length-append}
use Rattle.std.proofs.lemmas.Grind.{common_steps}
use Rattle.std.specs.Prelude.{if◌then◌else◌, ◌==◌, option_map}
use Rattle.text_model.specs.Texts.{Text}
use Rattle.text_model.specs.Writing.{written}
use Rattle.environment_model.specs.Environment.{Environment, member_count, byte_count}
use Rattle.code_model.specs.Code.{Code, reading_at}
use Rattle.code_model.specs.declared.code.Instruction.{Instruction}
use Rattle.text_model.proofs.Written.{length-written}
use Rattle.text_model.proofs.Cuts.{length-cut}
use Rattle.machine_model.specs.declared.form.Body.{Body}
use Rattle.machine_model.specs.Operands.{literal_at, writing_of}
use Rattle.machine_model.specs.States.{Frame}
use Rattle.machine_model.specs.Step.{Move, Does, fail, emit, put_text, cut_text, later_turn}
use Rattle.machine_model.specs.Form.{body_at}
use Rattle.machine_model.specs.Values.{Text as TextValue}
use Rattle.machine_model.specs.Budget.{longest_compared, fixed_bytes, separator_bytes, written_bytes, prints, prints_element}
use Rattle.machine_model.specs.Fitting.{body_of}
use Rattle.machine_laws.proofs.Small.{FrameSmall, IsSmall, text_limit}
use Rattle.machine_laws.proofs.AtHand.{at_hand}
use Rattle.machine_laws.proofs.StepCosts.{StepWithin, within_weight}
use Rattle.machine_laws.proofs.UriOutputs.{move_output}

-- a SEP prints only in a body
abbrev pub separated : Option Body → ℕ → ℕ
separated None n = 0
separated (Some b) n = n

module _ (c : Code) (v : Environment) where
  -- the maximum number of bytes that an instruction in a body prints, except for a PUT or CUT of the element
  abbrev pub weight_of : Option Body → Option Instruction → ℕ
  weight_of o i = ((if prints_element c o i then 0 else fixed_bytes c i) + separated o (separator_bytes c i))
      + (if prints_element c o i then 0 else written_bytes i) * byte_count v

  -- and what such a PUT or CUT prints for each byte of the current member
  abbrev pub tight_of : Option Body → Option Instruction → ℕ
  tight_of o i = if prints_element c o i then written_bytes i else 0

  abbrev pub weight : ℕ → ℕ
  weight p = weight_of (body_at c p) (reading_at c p)

  abbrev pub tight : ℕ → ℕ
  tight p = tight_of (body_at c p) (reading_at c p)

  abbrev pub PrintsWithin : Frame → ℕ → Type 0
  PrintsWithin s n = StepWithin c weight tight (member_count v) (byte_count v) s (length s.output) n

  module _ (s : Frame) (i : Instruction) (b : option_map body_of s.loop ≡ body_at c s.place) (r : reading_at c s.place ≡ Some i) where
    -- an instruction that is neither PUT nor CUT
    fixed : (n : ℕ) → ((e : ℕ) → prints e (Some i) ≡ false)
        → n ≤ length s.output + (fixed_bytes c (Some i) + separated (body_at c s.place) (separator_bytes c (Some i))) → PrintsWithin s n
    fixed n other le = grind (arith, common_steps)

    -- PUT or CUT of a text in a register
    of_text : (n a : ℕ) (t : Text) → s.registers a ≡ TextValue t → length t ≤ text_limit c v → written_bytes (Some i) ≡ 3
        → fixed_bytes c (Some i) ≡ 3 * longest_compared c.literals → separator_bytes c (Some i) ≡ 0 → ((e : ℕ) → prints e (Some i) ≡ (e == a))
        → n ≤ length s.output + 3 * length t → PrintsWithin s n
    of_text n a t held short w f z p le = grind (arith, common_steps)

  pub long_move : (s : Frame) (i : Instruction) (m : Move) → FrameSmall (member_count v) (byte_count v) (text_limit c v) s
      → option_map body_of s.loop ≡ body_at c s.place → reading_at c s.place ≡ Some i → Does c v s i m → PrintsWithin s (length (move_output m))
  long_move s _ _ h b r fail = within_weight c weight tight (member_count v) (byte_count v) s.loop (at_hand c s) s.place (length s.output) 0 (omega arith)
  long_move s _ _ h b r (emit n) = fixed s _ b r (length (s.output ++ literal_at c n)) (λ e. refl) (omega (arith, length-append s.output (literal_at c n)))
  long_move s _ _ h b r (later_turn n l e f) = grind (arith, common_steps)
  long_move s _ _ h b r (put_text a m t e) =
      let x = subst (IsSmall (member_count v) (byte_count v) (text_limit c v)) e (h.registers a) in
      of_text s _ b r (length (s.output ++ written (writing_of m) t)) a t e x refl refl refl (λ e. refl)
      (omega (arith, length-written (writing_of m) t, length-append s.output (written (writing_of m) t)))
  long_move s _ _ h b r (cut_text a n m t e) = grind (arith, of_text, length-written, length-cut, length-append)
  long_move s i _ h b r _ = within_weight c weight tight (member_count v) (byte_count v) s.loop (at_hand c s) s.place (length s.output) (length s.output)
      (omega arith)
