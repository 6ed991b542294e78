-- The outputs of a typable code of good form have at most O(M, E) bytes, so such a code is safe.
use Rattle.std.proofs.Common.{◌≡◌, ℕ, zero, suc, ◌+◌, ◌*◌, ◌<◌, ◌≤◌, length, Option, Some, None, Bool, false, refl, sym, subst, arith}
use Rattle.std.specs.Prelude.{if◌then◌else◌}
use Rattle.environment_model.specs.Environment.{Environment, member_count, byte_count}
use Rattle.code_model.specs.Code.{Code}
use Rattle.machine_model.specs.declared.form.Body.{Body}
use Rattle.machine_model.specs.States.{Link, NoLink, State, Running, Ended}
use Rattle.machine_model.specs.Step.{StepsTo}
use Rattle.machine_model.specs.Runs.{After}
use Rattle.machine_model.specs.Form.{body_at, is_in_body, HasGoodForm}
use Rattle.machine_model.specs.Typable.{Table, IsClosed, MeetsNeeds, IsTypable}
use Rattle.machine_model.specs.Budget.{fixed_at, separator_at, written_at}
use Rattle.machine_model.specs.Budget.{is_of_element, of_element, of_others, where_outside, where_inside, outside, inside, sums_of, bytes_bound}
use Rattle.machine_model.specs.Safe.{IsFileCode, output_of, IsSafe}
use Rattle.machine_model.proofs.Readings.{Reads-reading_at}
use Rattle.machine_laws.proofs.Sums.{total_linear}
use Rattle.machine_laws.proofs.Safety.{never_stuck, reached}
use Rattle.machine_laws.proofs.Small.{small_after}
use Rattle.machine_laws.proofs.AtHand.{at_hand}
use Rattle.machine_laws.proofs.Potential.{spent_at_end}
use Rattle.machine_laws.proofs.StepCosts.{StateSpent, within_weight, spent_step}
use Rattle.machine_laws.proofs.Ends.{ends_in_time}
use Rattle.machine_laws.proofs.UriOutputs.{lead_output, uri_after}
use Rattle.machine_laws.proofs.OutputWeights.{long_move, separated, tight, weight}

out_split : (o : Option Body) (x : Bool) (f s h e : ℕ) → (o ≡ None → x ≡ false)
    → (if is_in_body o then 0 else (((if x then 0 else f) + separated o s) + (if x then 0 else h) * e)) ≡ (if is_in_body o then 0 else f)
    + (if is_in_body o then 0 else h) * e
out_split None x f s h e out = rw (out refl) (omega arith)
out_split (Some b) x f s h e out = omega arith

in_split : (o : Option Body) (f s h e : ℕ) → (if is_in_body o then ((f + separated o s) + h * e) else 0) ≡ (if is_in_body o then (f + s) else 0)
    + (if is_in_body o then h else 0) * e
in_split None f s h e = omega arith
in_split (Some b) f s h e = omega arith

all_sums : (a d b f g h t m e : ℕ) → a ≡ b + g * e → d ≡ f + h * e → a + m * d + e * t ≡ b + f * m + (g + t) * e + h * (m * e)
all_sums a d b f g h t m e x y = rw (x, y) (omega arith)

module _ (c : Code) (form : HasGoodForm c) (some : 0 < length c.instrs) (t : Table) (closed : IsClosed c t) (meets : MeetsNeeds c t) (v : Environment) where
  abbrev All : State → ℕ → Type 0
  All s n = StateSpent c (weight c v) (tight c v) (member_count v) (byte_count v) s n

  none_outside : (p : ℕ) → body_at c p ≡ None → is_of_element c p ≡ false
  none_outside p o = rw o refl

  all_weights : outside c (weight c v) + member_count v * inside c (weight c v) + byte_count v * inside c (tight c v)
      ≡ bytes_bound (sums_of c) (member_count v) (byte_count v)
  all_weights =
      let o = total_linear (where_outside c (weight c v)) (where_outside c (fixed_at c)) (where_outside c (written_at c)) (byte_count v) (length c.instrs)
      (λ p. out_split (body_at c p) (is_of_element c p) (fixed_at c p) (separator_at c p) (written_at c p) (byte_count v) (none_outside p)) in
      let i = total_linear (where_inside c (weight c v)) (where_inside c (λ p. of_others c (fixed_at c) p + separator_at c p))
      (where_inside c (of_others c (written_at c))) (byte_count v) (length c.instrs)
      (λ p. in_split (body_at c p) (of_others c (fixed_at c) p) (separator_at c p) (of_others c (written_at c) p) (byte_count v)) in
      all_sums (outside c (weight c v)) (inside c (weight c v)) (outside c (fixed_at c)) (inside c (λ p. of_others c (fixed_at c) p + separator_at c p))
      (outside c (written_at c)) (inside c (of_others c (written_at c))) (inside c (of_element c (written_at c))) (member_count v) (byte_count v) o i

  long_after : (k : ℕ) (s : State) → After c v k s → All s (length (output_of s))
  unfolding After
  long_after zero s h = subst (λ x. All x (length (output_of x))) (sym h) (omega arith)
  long_after (suc k) s h = by_state h.0 h.1 h.2 (long_after k h.0 h.1)
    where
      by_state : (old : State) → After c v k old → StepsTo c v old s → All old (length (output_of old)) → All s (length (output_of s))
      by_state (Ended e) a st sp = absurd st
      by_state (Running o) a st sp =
          let r = reached c form some t closed meets v k (Running o) a in
          let x = long_move c v o st.0 st.2 (small_after c v k (Running o) a) r.body (Reads-reading_at c o.place st.0 st.1) st.3 in
          let led = lead_output c o.place st.2 s st.4 in
          spent_step c form some t closed meets v (weight c v) (tight c v) k o s (length o.output) (length (output_of s)) a st sp (rw led x)

  pub bounded : (k : ℕ) (s : State) → After c v k s → length (output_of s) ≤ bytes_bound (sums_of c) (member_count v) (byte_count v)
  bounded k s h = by_state s h (long_after k s h)
    where
      by_state : (x : State) → After c v k x → All x (length (output_of x)) → length (output_of x) ≤ bytes_bound (sums_of c) (member_count v) (byte_count v)
      by_state (Running o) a sp =
          let r = reached c form some t closed meets v k (Running o) a in
          omega (
            arith,
            all_weights,
            spent_at_end c (weight c v) (tight c v) (member_count v) (byte_count v) o.place (length o.output) (length o.output)
                (at_hand c o) o.loop r.body r.within sp (within_weight c (weight c v) (tight c v) (member_count v) (byte_count v) o.loop (at_hand c o) o.place
                (length o.output) (length o.output) (omega arith)),
          )
      by_state (Ended (Link printed)) a sp = omega (arith, all_weights, sp)
      by_state (Ended NoLink) a sp = omega arith

-- a typable code of good form is safe
pub safe : (c : Code) → IsFileCode c → HasGoodForm c → IsTypable c → IsSafe c
safe c file form y = record {
  never_stuck = never_stuck c form file.some y;
  ends = λ v. ends_in_time c form file.some y.0 y.1 y.2 v;
  bounded = λ v. bounded c form file.some y.0 y.1 y.2 v;
  uri = λ v. uri_after c v file;
}
