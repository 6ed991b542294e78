-- The laws for one code: it is safe, and what that says about it in numbers; and a code that is not safe.
use Rattle.std.proofs.Common.{◌≡◌, ℕ, zero, suc, ◌+◌, ◌*◌, ◌≤◌, [], ◌∷◌, length, Some, None, true, refl, arith}
use Rattle.std.specs.Prelude.{slice_get}
use Rattle.text_model.specs.Texts.{is_unreserved, is_reserved}
use Rattle.text_model.specs.UriText.{IsUriText}
use Rattle.environment_model.specs.Environment.{Environment, member_count, byte_count}
use Rattle.code_model.specs.Code.{reading}
use Rattle.code_model.specs.declared.code.Instruction.TheVariants as instruction
use Rattle.text_model.proofs.UriTexts.{IsUriText-character}
use Rattle.machine_model.specs.Operands.{has_right_operands, is_link_text, literal_at}
use Rattle.machine_model.specs.States.{End, State, Running, Ended, start}
use Rattle.machine_model.specs.Runs.{After, IsStuck}
use Rattle.machine_model.specs.First.{first_below}
use Rattle.machine_model.specs.Form.{body_at, fault_at, HasGoodForm}
use Rattle.machine_model.specs.Typable.{IsTypable, IsLeast}
use Rattle.machine_model.specs.Mismatch.{mismatch_at}
use Rattle.machine_model.specs.Passes.{listed, row_join, is_within, none_reached, carried, pass, passes, is_closed, table_in}
use Rattle.machine_model.specs.Budget.{longest_compared, is_kept, total}
use Rattle.machine_model.specs.Safe.{IsFileCode, IsSafe, output_of}
use Rattle.machine_model.proofs.Listings.{list_code, sample}
use Rattle.machine_model.proofs.Decides.{StepsTo-next_state}
use Rattle.machine_model.proofs.Faults.{form_decided}
use Rattle.machine_laws.proofs.Least.{least_decides, mismatch_decides}
use Rattle.machine_laws.proofs.PassLemmas.{passes_least}
use Rattle.machine_laws.proofs.OutputBounds.{safe}

list_is_file : IsFileCode list_code
unfolding is_unreserved is_reserved
list_is_file = record { some = omega arith; links = links }
  where
    links : (n : ℕ) → is_link_text (slice_get list_code.literals n) ≡ true → IsUriText (literal_at list_code n)
    links zero h = IsUriText-character 44 refl
    links (suc n) h = absurd (cc)

list_form : HasGoodForm list_code
unfolding first_below fault_at body_at reading
list_form = (form_decided list_code).1 refl

list_least : IsLeast list_code (table_in (passes list_code 2))
unfolding body_at reading listed row_join is_within none_reached carried pass passes is_closed
list_least = passes_least list_code list_form 2 refl

list_typable : IsTypable list_code
unfolding first_below mismatch_at body_at reading listed row_join none_reached carried pass passes
list_typable = (least_decides list_code (table_in (passes list_code 2)) list_least).0 ((mismatch_decides list_code (table_in (passes list_code 2))).1 refl)

list_is_safe : IsSafe list_code
list_is_safe = safe list_code list_is_file list_form list_typable

list_is_never_stuck : (v : Environment) (k : ℕ) (s : State) → After list_code v k s → IsStuck list_code v s → ⊥
list_is_never_stuck v = list_is_safe.never_stuck v

list_ends : (v : Environment) → (k : ℕ) × (e : End) × After list_code v k (Ended e) × (k ≤ 3 + 3 * member_count v)
unfolding total body_at reading
list_ends v = list_is_safe.ends v

list_prints_little : (v : Environment) (k : ℕ) (s : State) → After list_code v k s → length (output_of s) ≤ member_count v + 3 * byte_count v
unfolding total longest_compared is_kept body_at reading
list_prints_little v k s a = grind (arith, list_is_safe)

list_prints_uri_text : (v : Environment) (k : ℕ) (s : State) → After list_code v k s → IsUriText (output_of s)
list_prints_uri_text v = list_is_safe.uri v

-- ---- what must not hold

-- a PUT of a register that holds nothing
put_is_not_safe : IsSafe (sample (instruction.Put 0 0 ∷ instruction.Halt ∷ [])) → ⊥
unfolding After reading has_right_operands
put_is_not_safe h =
    h.never_stuck [] 0 (Running start) refl (λ new st. let none : None ≡ Some new = StepsTo-next_state (sample (instruction.Put 0 0 ∷ instruction.Halt ∷ [])) []
    (Running start) new st in absurd (cc (none)))
