-- Runs of small codes: how each ends, and after how many steps.

use Rattle.std.proofs.Common.{◌≡◌, ℕ, List, [], ◌∷◌, refl}
use Rattle.std.specs.Prelude.{codes, map}
use Rattle.text_model.specs.Texts.{Text, is_unreserved, is_reserved}
use Rattle.text_model.specs.Writing.{written_u, written_ur}
use Rattle.text_model.specs.Cut.{code_points, with_triplets}
use Rattle.text_model.specs.Number.{leading_number, value_from}
use Rattle.code_model.specs.Code.{Code, row, reading, upgraded}
use Rattle.environment_model.specs.Environment.{Environment, look_up}
use Rattle.code_model.specs.declared.code.Instruction.{Instruction}
use Rattle.code_model.specs.declared.code.Instruction.TheVariants as instruction
use Rattle.machine_model.specs.Operands.{has_right_operands}
use Rattle.machine_model.specs.Runs.{Outcome}
use Rattle.machine_model.specs.Runs as outcome
use Rattle.machine_model.specs.Next.{Course, course, course_from, course_of}
use Rattle.machine_model.proofs.Listings.{code, list_name, link_text, compared_text, list_code, issn_code, authors_code, x_code, sample, second, with_fields}
use Rattle.machine_model.proofs.Listings.{with_instruction, colours, a_text, a_list}

-- a code, an environment, and what the run ends with
pub record Case : Type 0 where
  code : Code
  variables : Environment
  course : Course

abbrev pub case : Code → Environment → ℕ → Outcome → Case
case c v k o = record { code = c; variables = v; course = course k o }

-- an outcome of a sample code with the colours
abbrev pub given : List Instruction → ℕ → Outcome → Case
given is k o = case (sample is) colours k o

abbrev pub linked : Text → Outcome
linked t = outcome.Link t

abbrev pub computed : List Case → List Course
computed cases = map (λ x. course_of x.code x.variables) cases

abbrev pub expected : List Case → List Course
expected cases = map (λ x. x.course) cases

-- ---- whole codes

abbrev whole_codes : List Case
whole_codes =
    case list_code colours 12 (linked (codes "red,green,blue"))
    ∷ case list_code (a_text (codes "list") (codes "red")) 3 (linked [])
    ∷ case list_code [] 3 (linked [])
    ∷ case (with_instruction 0 (instruction.Jump 3) list_code) colours 1 (outcome.Stuck 3)
    ∷ case (with_instruction 0 (instruction.Jump 0) list_code) colours 0 (outcome.Stuck 0)
    ∷ case (with_instruction 0 (instruction.Jump 6) list_code) colours 0 (outcome.Stuck 0)
    ∷ case (with_instruction 5 (instruction.Emit 0) list_code) colours 11 (outcome.Stuck 5)
    ∷ case x_code (a_text (codes "x") (codes "a")) 4 (linked (codes "a"))
    ∷ case x_code [] 3 (linked [])
    ∷ case issn_code (a_text (codes "rft.issn") (codes "1234-5678")) 8 (linked (codes "http://e.org/1234-5678"))
    ∷ case issn_code [] 5 (linked (codes "http://e.org/"))
    ∷ case authors_code (a_list (codes "rft.au") (codes "A" ∷ codes "B" ∷ [])) 19 (linked (codes "http://e.org/A,B"))
    ∷ case authors_code (a_list (codes "rft.au") (codes "A" ∷ [])) 6 outcome.NoLink
    ∷ case (upgraded list_code) colours 12 (linked (codes "red,green,blue"))
    ∷ []

whole_codes_hold : computed whole_codes ≡ expected whole_codes
unfolding course_from reading has_right_operands look_up is_unreserved written_u leading_number value_from
whole_codes_hold = refl

-- ---- what each instruction does

abbrev effects : List Case
effects =
    given (instruction.Emit 0 ∷ instruction.Halt ∷ []) 2 (linked (codes "/"))
    ∷ given (instruction.Emit 0 ∷ instruction.Fail ∷ []) 2 outcome.NoLink
    ∷ given (instruction.Jump 2 ∷ instruction.Emit 0 ∷ instruction.Halt ∷ []) 2 (linked [])
    -- a name of the other kind is Undefined, or a list without members
    ∷ case (sample (instruction.Text 1 1 ∷ instruction.Undef 1 3 ∷ instruction.Emit 0 ∷ instruction.Halt ∷ [])) (a_list (codes "x") (codes "a" ∷ [])) 3
    (linked [])
    ∷ case (sample (instruction.List 1 0 ∷ instruction.NoList 1 3 ∷ instruction.Emit 0 ∷ instruction.Halt ∷ [])) (a_text (codes "list") (codes "a")) 3
    (linked [])
    ∷ case (sample (instruction.Text 1 1 ∷ instruction.Undef 1 3 ∷ instruction.Put 1 0 ∷ instruction.Halt ∷ [])) (a_text (codes "x") (codes "a b")) 4
    (linked (codes "a%20b"))
    ∷ given (instruction.Const 15 1 ∷ instruction.Put 15 0 ∷ instruction.Halt ∷ []) 3 (linked (codes "12"))
    -- NUMBER: at most nine digits; the register is unchanged if there is no number
    ∷ given (instruction.Const 0 4 ∷ instruction.Number 1 0 3 ∷ instruction.Emit 0 ∷ instruction.Halt ∷ []) 3 (linked [])
    ∷ given (instruction.Const 0 5 ∷ instruction.Number 1 0 3 ∷ instruction.Emit 0 ∷ instruction.Halt ∷ []) 4 (linked (codes "/"))
    ∷ given (instruction.Const 0 3 ∷ instruction.Number 0 0 3 ∷ instruction.Fail ∷ instruction.Put 0 0 ∷ instruction.Halt ∷ []) 4 (linked [])
    ∷ given (instruction.Const 0 1 ∷ instruction.Number 0 0 3 ∷ instruction.Less 0 0 3 ∷ instruction.Halt ∷ []) 4 (linked [])
    ∷ given (instruction.Const 0 1 ∷ instruction.Number 1 0 5 ∷ instruction.Less 1 1 5 ∷ instruction.Put 0 0 ∷ instruction.Halt ∷ []) 5 (linked (codes "12"))
    ∷ given (instruction.Const 0 3 ∷ instruction.Empty 0 3 ∷ instruction.Emit 0 ∷ instruction.Halt ∷ []) 3 (linked [])
    ∷ given (instruction.Const 0 1 ∷ instruction.Empty 0 3 ∷ instruction.Emit 0 ∷ instruction.Halt ∷ []) 4 (linked (codes "/"))
    ∷ given (instruction.List 0 0 ∷ instruction.NoList 0 3 ∷ instruction.Emit 0 ∷ instruction.Halt ∷ []) 4 (linked (codes "/"))
    ∷ given (instruction.Const 0 1 ∷ instruction.Const 1 1 ∷ instruction.Differ 0 1 4 ∷ instruction.Emit 0 ∷ instruction.Halt ∷ []) 5 (linked (codes "/"))
    ∷ given (instruction.Const 0 1 ∷ instruction.Const 1 2 ∷ instruction.Differ 0 1 4 ∷ instruction.Emit 0 ∷ instruction.Halt ∷ []) 4 (linked [])
    -- LESS compares numbers: 7 is below 12, but 12 is not below 7, nor 7 below 7
    ∷ given (instruction.Const 0 2 ∷ instruction.Number 0 0 6 ∷ instruction.Const 1 1 ∷ instruction.Number 1 1 6 ∷ instruction.Less 0 1 6 ∷ instruction.Emit
    0 ∷ instruction.Halt ∷ []) 6 (linked [])
    ∷ given (instruction.Const 0 2 ∷ instruction.Number 0 0 6 ∷ instruction.Const 1 1 ∷ instruction.Number 1 1 6 ∷ instruction.Less 1 0 6 ∷ instruction.Emit
    0 ∷ instruction.Halt ∷ []) 7 (linked (codes "/"))
    ∷ given (instruction.Const 0 2 ∷ instruction.Number 0 0 3 ∷ instruction.Less 0 0 4 ∷ instruction.Emit 0 ∷ instruction.Halt ∷ []) 5 (linked (codes "/"))
    -- PUT and CUT by U and by UR; `é` is one item, and by UR so is `%41`
    ∷ given (instruction.Const 0 6 ∷ instruction.Put 0 0 ∷ instruction.Halt ∷ []) 3 (linked (codes "%C3%A9%2541b"))
    ∷ given (instruction.Const 0 6 ∷ instruction.Put 0 1 ∷ instruction.Halt ∷ []) 3 (linked (codes "%C3%A9%41b"))
    ∷ given (instruction.Const 0 6 ∷ instruction.Cut 0 2 0 ∷ instruction.Halt ∷ []) 3 (linked (codes "%C3%A9%25"))
    ∷ given (instruction.Const 0 6 ∷ instruction.Cut 0 2 1 ∷ instruction.Halt ∷ []) 3 (linked (codes "%C3%A9%41"))
    -- the members of a loop are kept by the loop: the register of its list may be overwritten
    ∷ given (instruction.List 0 0 ∷ instruction.Each 0 0 4 ∷ instruction.Put 0 0 ∷ instruction.Next ∷ instruction.Put 0 0 ∷ instruction.Halt ∷ []) 10
    (linked (codes "redgreenblueblue"))
    ∷ given (instruction.List 0 0 ∷ instruction.Each 1 0 4 ∷ instruction.Const 0 1 ∷ instruction.Next ∷ instruction.Put 1 0 ∷ instruction.Put 0
    0 ∷ instruction.Halt ∷ []) 11 (linked (codes "blue12"))
    -- EACH without members leaves the element's register unchanged
    ∷ case (sample (instruction.Const 1 2 ∷ instruction.List 0 0 ∷ instruction.Each 1 0 4 ∷ instruction.Next ∷ instruction.Put 1 0 ∷ instruction.Halt ∷ [])) []
    5 (linked (codes "7"))
    ∷ []

effects_hold : computed effects ≡ expected effects
unfolding course_from reading has_right_operands look_up is_unreserved is_reserved written_u written_ur code_points with_triplets leading_number value_from
effects_hold = refl

-- ---- the second version

-- a code of version 2 with the link text `/` and the comparison text `3`
abbrev counted : List Instruction → Code
counted is = upgraded (code (list_name (codes "list") ∷ []) (link_text (codes "/") ∷ compared_text (codes "3") ∷ []) is)

-- prints `/` if `list` has exactly three members
abbrev exactly_three : List Instruction
exactly_three =
    instruction.List 0 0
    ∷ instruction.Count 1 0
    ∷ instruction.Const 2 1
    ∷ instruction.Number 3 2 7
    ∷ instruction.Less 1 3 7
    ∷ instruction.Less 3 1 7
    ∷ instruction.Emit 0
    ∷ instruction.Halt
    ∷ []

-- ends without a link if `list` has at least one member
abbrev none_there : List Instruction
none_there =
    instruction.List 0 0
    ∷ instruction.Count 1 0
    ∷ instruction.List 2 0
    ∷ instruction.NoList 2 5
    ∷ instruction.Fail
    ∷ instruction.Less 1 1 7
    ∷ instruction.Halt
    ∷ instruction.Fail
    ∷ []

-- only version 2 has the register r63 and the operation COUNT
abbrev counts_twice : List Instruction
counts_twice =
    instruction.List 0 0
    ∷ instruction.Count 1 0
    ∷ instruction.Count 63 0
    ∷ instruction.Less 1 63 5
    ∷ instruction.Halt
    ∷ instruction.Fail
    ∷ []

abbrev second_version : List Case
second_version =
    case (counted exactly_three) colours 8 (linked (codes "/"))
    ∷ case (counted exactly_three) (a_list (codes "list") (codes "a" ∷ codes "b" ∷ [])) 6 (linked [])
    ∷ case (counted exactly_three) (a_list (codes "list") (codes "a" ∷ codes "b" ∷ codes "c" ∷ codes "d" ∷ [])) 7 (linked [])
    -- an undefined list has no members, and neither has a text with the name
    ∷ case (counted none_there) [] 6 (linked [])
    ∷ case (counted none_there) (a_text (codes "list") (codes "a")) 6 (linked [])
    ∷ case (counted counts_twice) colours 5 (linked [])
    ∷ case (sample counts_twice) colours 1 (outcome.Stuck 1)
    -- the list may be the register that is written
    ∷ case (counted (instruction.List 0 0 ∷ instruction.Count 0 0 ∷ instruction.Less 0 0 3 ∷ instruction.Halt ∷ [])) colours 4 (linked [])
    ∷ case (second (instruction.Const 63 1 ∷ instruction.Put 63 0 ∷ instruction.Halt ∷ [])) colours 3 (linked (codes "12"))
    ∷ case (second (instruction.Const 64 1 ∷ instruction.Halt ∷ [])) colours 0 (outcome.Stuck 0)
    ∷ case (second (instruction.List 0 0 ∷ instruction.Count 64 0 ∷ instruction.Halt ∷ [])) colours 1 (outcome.Stuck 1)
    -- a text has no count; an unused field must be 0; COUNT continues inside a loop's body, and not past it
    ∷ case (second (instruction.Const 0 1 ∷ instruction.Count 1 0 ∷ instruction.Halt ∷ [])) colours 1 (outcome.Stuck 1)
    ∷ case (with_fields 0 (row 19 1 0 1 0) (second (instruction.Halt ∷ instruction.Halt ∷ []))) colours 0 (outcome.Stuck 0)
    ∷ case (with_fields 0 (row 19 1 0 0 1) (second (instruction.Halt ∷ instruction.Halt ∷ []))) colours 0 (outcome.Stuck 0)
    ∷ case (second (instruction.List 0 0 ∷ instruction.Each 1 0 3 ∷ instruction.Count 2 0 ∷ instruction.Halt ∷ [])) colours 2 (outcome.Stuck 2)
    ∷ case (second (instruction.List 0 0 ∷ instruction.Each 1 0 5 ∷ instruction.Count 2 0 ∷ instruction.Put 1 0 ∷ instruction.Next ∷ instruction.Halt ∷ []))
    colours 12 (linked (codes "redgreenblue"))
    ∷ []

second_version_holds : computed second_version ≡ expected second_version
unfolding course_from reading has_right_operands look_up is_unreserved written_u leading_number value_from
second_version_holds = refl
