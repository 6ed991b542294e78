-- The first mismatch in the least table, which two passes find in each of these codes.

use Rattle.std.proofs.Common.{◌≡◌, ℕ, List, [], ◌∷◌, Option, Some, None, true, false, refl}
use Rattle.std.specs.Prelude.{map, option_map}
use Rattle.code_model.specs.Code.{Code, reading, upgraded}
use Rattle.code_model.specs.declared.code.Instruction.{Instruction}
use Rattle.code_model.specs.declared.code.Instruction.TheVariants as instruction
use Rattle.machine_model.specs.declared.kind.Kind.{Kind}
use Rattle.machine_model.specs.declared.kind.Kind.TheVariants.{Any, Text, List as ListKind}
use Rattle.machine_model.specs.First.{Located, first_below}
use Rattle.machine_model.specs.Form.{body_at}
use Rattle.machine_model.specs.Kinds.{Kinds}
use Rattle.machine_model.specs.Mismatch.{mismatch_at}
use Rattle.machine_model.specs.Passes.{listed, row_join, is_within, none_reached, carried, pass, passes, is_closed, Found, found, table_in}
use Rattle.machine_model.proofs.Listings.{list_code, issn_code, x_code, sample, second, with_instruction}

record Case : Type 0 where
  code : Code
  mismatch : Option (Located ℕ)

abbrev accepted : List Instruction → Case
accepted is = record { code = sample is; mismatch = None }

abbrev refused : ℕ → ℕ → List Instruction → Case
refused p r is = record { code = sample is; mismatch = Some (record { place = p; what = r }) }

abbrev computed : List Case → List Found
computed cases = map (λ x. found x.code 2) cases

-- the same tables and instructions as code of version 2
abbrev computed_second : List Case → List Found
computed_second cases = map (λ x. found (upgraded x.code) 2) cases

abbrev expected : List Case → List Found
expected cases = map (λ x. record { least = true; mismatch = x.mismatch }) cases

abbrev straight_cases : List Case
straight_cases =
    record { code = x_code; mismatch = None }
    ∷ record { code = list_code; mismatch = None }
    ∷ record { code = issn_code; mismatch = None }
    ∷ refused 1 2 (instruction.Text 2 1 ∷ instruction.Put 2 0 ∷ instruction.Halt ∷ [])
    -- the first of two needs: a before b
    ∷ refused 0 3 (instruction.Differ 3 2 1 ∷ instruction.Halt ∷ [])
    ∷ refused 1 2 (instruction.Const 3 1 ∷ instruction.Differ 3 2 2 ∷ instruction.Halt ∷ [])
    ∷ refused 0 3 (instruction.Less 3 2 1 ∷ instruction.Halt ∷ [])
    -- the first of two places
    ∷ refused 0 5 (instruction.Put 5 0 ∷ instruction.Put 4 0 ∷ instruction.Halt ∷ [])
    -- a place that no edge reaches is not examined
    ∷ accepted (instruction.Halt ∷ instruction.Put 0 0 ∷ instruction.Halt ∷ [])
    ∷ refused 2 0 (instruction.Jump 2 ∷ instruction.Put 1 0 ∷ instruction.Put 0 0 ∷ instruction.Halt ∷ [])
    -- where edges meet: the least kinds above both, whichever comes first
    ∷ refused 2 0 (instruction.Text 0 1 ∷ instruction.Undef 0 2 ∷ instruction.Put 0 0 ∷ instruction.Halt ∷ [])
    ∷ refused 3 0 (instruction.Const 0 1 ∷ instruction.Empty 0 3 ∷ instruction.List 0 0 ∷ instruction.Put 0 0 ∷ instruction.Halt ∷ [])
    ∷ refused 3 0 (instruction.List 0 0 ∷ instruction.NoList 0 3 ∷ instruction.Const 0 1 ∷ instruction.Put 0 0 ∷ instruction.Halt ∷ [])
    ∷ accepted (instruction.Text 0 1 ∷ instruction.Undef 0 2 ∷ instruction.Undef 0 3 ∷ instruction.Halt ∷ [])
    -- only the next edge of NUMBER carries a number
    ∷ refused 2 1 (instruction.Const 0 1 ∷ instruction.Number 1 0 2 ∷ instruction.Less 1 1 3 ∷ instruction.Halt ∷ [])
    ∷ accepted (instruction.Const 0 1 ∷ instruction.Number 1 0 3 ∷ instruction.Less 1 1 3 ∷ instruction.Halt ∷ [])
    -- and if both lead to the same place, the kinds of both count
    ∷ refused 3 1 (instruction.Const 0 1 ∷ instruction.Const 1 1 ∷ instruction.Number 1 0 3 ∷ instruction.Put 1 0 ∷ instruction.Halt ∷ [])
    ∷ refused 3 1 (instruction.Const 0 1 ∷ instruction.Const 1 1 ∷ instruction.Number 1 0 3 ∷ instruction.Less 1 1 4 ∷ instruction.Halt ∷ [])
    -- nothing is known at the start
    ∷ refused 0 0 (instruction.Undef 0 1 ∷ instruction.Halt ∷ [])
    ∷ []

straight_cases_hold : computed straight_cases ≡ expected straight_cases
unfolding first_below mismatch_at body_at reading listed row_join is_within none_reached carried pass passes is_closed
straight_cases_hold = refl

-- the version changes none of these
straight_cases_hold_of_second : computed_second straight_cases ≡ expected straight_cases
unfolding first_below mismatch_at body_at reading listed row_join is_within none_reached carried pass passes is_closed
straight_cases_hold_of_second = refl

abbrev loop_cases : List Case
loop_cases =
    -- a loop that raises a kind: rejected if the kind is needed, and accepted if not
    refused 3 2 (instruction.List 0 0 ∷ instruction.Const 2 1 ∷ instruction.Each 1 0 6 ∷ instruction.Put 2 0 ∷ instruction.List 2
    0 ∷ instruction.Next ∷ instruction.Halt ∷ [])
    ∷ accepted (instruction.List 0 0 ∷ instruction.Const 2 1 ∷ instruction.Each 1 0 5 ∷ instruction.List 2 0 ∷ instruction.Next ∷ instruction.Halt ∷ [])
    ∷ accepted (instruction.List 0 0 ∷ instruction.Const 15 1 ∷ instruction.Each 1 0 5 ∷ instruction.List 15 0 ∷ instruction.Next ∷ instruction.Halt ∷ [])
    -- from a text to a text or Undefined, which UNDEF takes and EMPTY does not
    ∷ accepted (instruction.List 0 0 ∷ instruction.Const 2 1 ∷ instruction.Each 1 0 6 ∷ instruction.Undef 2 5 ∷ instruction.Text 2
    1 ∷ instruction.Next ∷ instruction.Halt ∷ [])
    ∷ refused 3 2 (instruction.List 0 0 ∷ instruction.Const 2 1 ∷ instruction.Each 1 0 6 ∷ instruction.Empty 2 5 ∷ instruction.Text 2
    1 ∷ instruction.Next ∷ instruction.Halt ∷ [])
    -- what was raised is raised after the loop too
    ∷ refused 5 2 (instruction.List 0 0 ∷ instruction.Const 2 1 ∷ instruction.Each 1 0 5 ∷ instruction.List 2 0 ∷ instruction.Next ∷ instruction.Put 2
    0 ∷ instruction.Halt ∷ [])
    ∷ refused 6 2 (instruction.List 0 0 ∷ instruction.Const 2 1 ∷ instruction.Each 1 0 6 ∷ instruction.List 3 0 ∷ instruction.List 2
    0 ∷ instruction.Next ∷ instruction.Each 1 2 8 ∷ instruction.Next ∷ instruction.Halt ∷ [])
    -- a place in the body that was first reached with the lower kinds
    ∷ refused 4 2 (instruction.List 0 0 ∷ instruction.Const 2 1 ∷ instruction.Each 1 0 7 ∷ instruction.Jump 4 ∷ instruction.Put 2 0 ∷ instruction.List 2
    0 ∷ instruction.Next ∷ instruction.Halt ∷ [])
    -- the list of the loop may be lost in it
    ∷ accepted (instruction.List 0 0 ∷ instruction.Each 1 0 4 ∷ instruction.Const 0 1 ∷ instruction.Next ∷ instruction.Halt ∷ [])
    ∷ accepted (instruction.List 0 0 ∷ instruction.Each 0 0 4 ∷ instruction.Put 0 0 ∷ instruction.Next ∷ instruction.Halt ∷ [])
    -- the element is a text in each turn, whatever the body makes of it
    ∷ accepted (instruction.List 0 0 ∷ instruction.Each 1 0 5 ∷ instruction.Put 1 0 ∷ instruction.List 1 0 ∷ instruction.Next ∷ instruction.Halt ∷ [])
    -- a kind may become lower in a loop
    ∷ accepted (instruction.List 0 0 ∷ instruction.Each 1 0 4 ∷ instruction.Const 2 1 ∷ instruction.Next ∷ instruction.Halt ∷ [])
    -- a NEXT that no edge reaches raises nothing
    ∷ accepted (instruction.List 0 0 ∷ instruction.Const 2 1 ∷ instruction.Each 1 0 7 ∷ instruction.Put 2 0 ∷ instruction.List 2
    0 ∷ instruction.Halt ∷ instruction.Next ∷ instruction.Halt ∷ [])
    -- nothing is known about the element after the loop, whether it had turns or not
    ∷ refused 3 1 (instruction.List 0 0 ∷ instruction.Each 1 0 3 ∷ instruction.Next ∷ instruction.Put 1 0 ∷ instruction.Halt ∷ [])
    ∷ refused 4 1 (instruction.List 0 0 ∷ instruction.Each 1 0 4 ∷ instruction.Halt ∷ instruction.Next ∷ instruction.Put 1 0 ∷ instruction.Halt ∷ [])
    ∷ []

loop_cases_hold : computed loop_cases ≡ expected loop_cases
unfolding first_below mismatch_at body_at reading listed row_join is_within none_reached carried pass passes is_closed
loop_cases_hold = refl

-- the version changes none of these
loop_cases_hold_of_second : computed_second loop_cases ≡ expected loop_cases
unfolding first_below mismatch_at body_at reading listed row_join is_within none_reached carried pass passes is_closed
loop_cases_hold_of_second = refl

abbrev accepted_second : List Instruction → Case
accepted_second is = record { code = second is; mismatch = None }

abbrev refused_second : ℕ → ℕ → List Instruction → Case
refused_second p r is = record { code = second is; mismatch = Some (record { place = p; what = r }) }

abbrev second_cases : List Case
second_cases =
    -- the list code of version 2 that loads its list into r16; nothing is known about r0
    record { code = upgraded (with_instruction 0 (instruction.List 16 0) list_code); mismatch = Some (record { place = 1; what = 0 }) }
    -- COUNT takes a list, and gives a number
    ∷ accepted_second (instruction.List 0 0 ∷ instruction.Count 63 0 ∷ instruction.Less 63 63 3 ∷ instruction.Halt ∷ [])
    ∷ refused_second 1 0 (instruction.Text 0 1 ∷ instruction.Count 1 0 ∷ instruction.Halt ∷ [])
    ∷ refused_second 2 1 (instruction.List 0 0 ∷ instruction.Count 1 0 ∷ instruction.Put 1 0 ∷ instruction.Halt ∷ [])
    ∷ refused_second 2 0 (instruction.List 0 0 ∷ instruction.Count 0 0 ∷ instruction.Count 1 0 ∷ instruction.Halt ∷ [])
    -- a loop that makes a number of a text
    ∷ refused_second 3 63 (instruction.List 0 0 ∷ instruction.Const 63 1 ∷ instruction.Each 1 0 6 ∷ instruction.Put 63 0 ∷ instruction.Count 63
    0 ∷ instruction.Next ∷ instruction.Halt ∷ [])
    ∷ []

second_cases_hold : computed second_cases ≡ expected second_cases
unfolding first_below mismatch_at body_at reading listed row_join is_within none_reached carried pass passes is_closed
second_cases_hold = refl

-- one pass does not see that the head of a body rises
one_pass : (found
    (sample (instruction.List 0 0 ∷ instruction.Const 2 1 ∷ instruction.Each 1 0 6 ∷ instruction.Put 2 0 ∷ instruction.List 2
    0 ∷ instruction.Next ∷ instruction.Halt ∷ [])) 1).least ≡ false
unfolding first_below mismatch_at body_at reading listed row_join is_within none_reached carried pass passes is_closed
one_pass = refl

-- the kinds of r0 and r1 at each place of the list code, and past it
abbrev of_two : Kinds → List Kind
of_two ks = map ks (0 ∷ 1 ∷ [])

list_kinds : map (λ p. option_map of_two (table_in (passes list_code 2) p)) (0 ∷ 1 ∷ 2 ∷ 3 ∷ 4 ∷ 5 ∷ 6 ∷ []) ≡
    Some (Any ∷ Any ∷ [])
    ∷ Some (ListKind ∷ Any ∷ [])
    ∷ Some (ListKind ∷ Text ∷ [])
    ∷ Some (ListKind ∷ Text ∷ [])
    ∷ Some (ListKind ∷ Text ∷ [])
    ∷ Some (ListKind ∷ Any ∷ [])
    ∷ None
    ∷ []
unfolding body_at reading listed row_join none_reached carried pass passes
list_kinds = refl
