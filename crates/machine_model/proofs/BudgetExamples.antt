-- The budgets of small codes.
use Rattle.std.proofs.Common.{◌≡◌, ℕ, List, [], ◌∷◌, Some, None, Bool, true, false, refl, arith}
use Rattle.std.specs.Prelude.{codes, map, length, ◌+◌, ◌++◌}
use Rattle.text_model.specs.Texts.{Text}
use Rattle.code_model.specs.Code.{Code, row, reading, upgraded}
use Rattle.code_model.specs.declared.code.Instruction.{Instruction}
use Rattle.code_model.specs.declared.code.Instruction.TheVariants as instruction
use Rattle.machine_model.specs.Form.{body_at}
use Rattle.machine_model.specs.Budget.{longest_compared, writes, prints, is_kept, total, Sums, sums_of, steps_bound, bytes_bound}
use Rattle.machine_model.proofs.Listings.{code, text_name, link_text, list_code, issn_code, authors_code, x_code, element_written, sample}
use Rattle.machine_model.proofs.Listings.{with_fields, with_instruction}

abbrev sums : ℕ → ℕ → ℕ → ℕ → ℕ → ℕ → Sums
sums s0 s1 o0 o1 o2 o3 = record { s0 = s0; s1 = s1; o0 = o0; o1 = o1; o2 = o2; o3 = o3 }

record Case : Type 0 where
  code : Code
  sums : Sums

abbrev case : Code → Sums → Case
case c s = record { code = c; sums = s }

-- the longest comparison text of the sample has ten bytes, so each PUT and CUT counts 30
abbrev cases : List Case
cases =
    case list_code (sums 3 3 0 1 3 0)
    ∷ case issn_code (sums 10 0 17 0 3 0)
    ∷ case authors_code (sums 15 3 14 1 3 0)
    ∷ case (upgraded list_code) (sums 3 3 0 1 3 0)
    ∷ case x_code (sums 4 0 0 0 3 0)
    ∷ case (sample (instruction.Emit 0 ∷ instruction.Halt ∷ [])) (sums 2 0 1 0 0 0)
    -- an entry of the other kind counts by its length, and a missing one by 0
    ∷ case (sample (instruction.Emit 1 ∷ instruction.Emit 9 ∷ instruction.Halt ∷ [])) (sums 3 0 2 0 0 0)
    -- a SEP in no body counts for nothing
    ∷ case (sample (instruction.Sep 1 ∷ instruction.Halt ∷ [])) (sums 2 0 0 0 0 0)
    ∷ case (sample (instruction.Put 0 0 ∷ instruction.Cut 0 1 1 ∷ instruction.Halt ∷ [])) (sums 3 0 60 0 6 0)
    -- in a body: EMIT, SEP, and PUT and CUT of the element, or of another register
    ∷ case (sample (instruction.List 0 0 ∷ instruction.Each 1 0 7 ∷ instruction.Emit 0 ∷ instruction.Sep 1 ∷ instruction.Put 1 0 ∷ instruction.Cut 1 1
    0 ∷ instruction.Next ∷ instruction.Halt ∷ [])) (sums 3 5 0 3 6 0)
    ∷ case (sample (instruction.List 0 0 ∷ instruction.Each 1 0 5 ∷ instruction.Put 2 0 ∷ instruction.Cut 0 1 0 ∷ instruction.Next ∷ instruction.Halt ∷ []))
    (sums 3 3 0 60 0 6)
    -- places that no step reaches count, and other errors change nothing
    ∷ case (sample (instruction.Halt ∷ instruction.Emit 0 ∷ instruction.Halt ∷ [])) (sums 3 0 1 0 0 0)
    ∷ case (with_fields 1 (row 16 1 0 7 5) list_code) (sums 3 3 0 1 3 0)
    ∷ case (with_fields 3 (row 14 99 9 9 9) list_code) (sums 3 3 0 1 0 3)
    ∷ case (with_fields 0 (row 19 0 0 0 0) list_code) (sums 3 3 0 1 3 0)
    -- an EACH whose end is past the code, or before it, begins no body
    ∷ case (sample (instruction.List 0 0 ∷ instruction.Each 1 0 3 ∷ instruction.Next ∷ [])) (sums 3 0 0 0 0 0)
    ∷ case (sample (instruction.Next ∷ instruction.Halt ∷ instruction.Each 0 0 1 ∷ instruction.Halt ∷ instruction.Halt ∷ [])) (sums 5 0 0 0 0 0)
    -- without its NEXT the list code has no body
    ∷ case (with_instruction 4 (instruction.Emit 0) list_code) (sums 6 0 1 0 3 0)
    ∷ []

cases_hold : map (λ x. sums_of x.code) cases ≡ map (λ x. x.sums) cases
unfolding total longest_compared is_kept body_at reading
cases_hold = refl

-- ---- which instructions write a register, and which print one

-- whether the instruction writes r1, and r2; and whether it is a PUT or CUT of r1, and of r2
record Row : Type 0 where
  instruction : Instruction
  writes : List Bool
  prints : List Bool

abbrev row_of : Instruction → List Bool → List Bool → Row
row_of i ws ps = record { instruction = i; writes = ws; prints = ps }

abbrev neither : List Bool
neither = false ∷ false ∷ []

abbrev r1_alone : List Bool
r1_alone = true ∷ false ∷ []

abbrev neither_writes_nor_prints : Instruction → Row
neither_writes_nor_prints i = row_of i neither neither

abbrev writes_r1 : Instruction → Row
writes_r1 i = row_of i r1_alone neither

-- five write; EACH, which loads its element, is not one of them
abbrev registers : List Row
registers =
    neither_writes_nor_prints instruction.Halt
    ∷ neither_writes_nor_prints instruction.Fail
    ∷ neither_writes_nor_prints (instruction.Jump 1)
    ∷ writes_r1 (instruction.Text 1 2)
    ∷ writes_r1 (instruction.List 1 2)
    ∷ writes_r1 (instruction.Const 1 2)
    ∷ writes_r1 (instruction.Number 1 2 9)
    ∷ neither_writes_nor_prints (instruction.Undef 1 2)
    ∷ neither_writes_nor_prints (instruction.Empty 1 2)
    ∷ neither_writes_nor_prints (instruction.NoList 1 2)
    ∷ neither_writes_nor_prints (instruction.Differ 1 2 9)
    ∷ neither_writes_nor_prints (instruction.Less 1 2 9)
    ∷ neither_writes_nor_prints (instruction.Emit 1)
    ∷ row_of (instruction.Put 1 2) neither r1_alone
    ∷ row_of (instruction.Cut 1 2 2) neither r1_alone
    ∷ neither_writes_nor_prints (instruction.Each 1 2 9)
    ∷ neither_writes_nor_prints (instruction.Sep 1)
    ∷ neither_writes_nor_prints instruction.Next
    ∷ writes_r1 (instruction.Count 1 2)
    ∷ []

written_registers : map (λ x. map (λ r. writes r (Some x.instruction)) (1 ∷ 2 ∷ [])) registers ≡ map (λ x. x.writes) registers
written_registers = refl

printed_registers : map (λ x. map (λ r. prints r (Some x.instruction)) (1 ∷ 2 ∷ [])) registers ≡ map (λ x. x.prints) registers
printed_registers = refl

-- a number that is no operation does neither
no_operation : writes 1 None ∷ prints 1 None ∷ [] ≡ neither
no_operation = refl

-- ---- PUT of the element: the body writes it, before or after the PUT, or it stays as it is

-- a loop over `list`, with these instructions in the body; r1 is the element
abbrev loop : List Instruction → Code
loop body = sample (instruction.List 0 0 ∷ instruction.Each 1 0 (length body + 2) ∷ (body ++ (instruction.Halt ∷ [])))

-- the sums for one PUT in a body of that many places
abbrev of_the_element : ℕ → Sums
of_the_element n = sums 3 n 0 0 3 0

abbrev of_another : ℕ → Sums
of_another n = sums 3 n 0 30 0 3

abbrev element_cases : List Case
element_cases =
    case (loop (instruction.Put 1 0 ∷ instruction.Next ∷ [])) (of_the_element 2)
    ∷ case (loop (instruction.Text 1 1 ∷ instruction.Put 1 0 ∷ instruction.Next ∷ [])) (of_another 3)
    ∷ case (loop (instruction.Put 1 0 ∷ instruction.Text 1 1 ∷ instruction.Next ∷ [])) (of_another 3)
    ∷ case (loop (instruction.Put 1 0 ∷ instruction.List 1 0 ∷ instruction.Next ∷ [])) (of_another 3)
    ∷ case (loop (instruction.Put 1 0 ∷ instruction.Const 1 1 ∷ instruction.Next ∷ [])) (of_another 3)
    ∷ case (loop (instruction.Put 1 0 ∷ instruction.Number 1 1 4 ∷ instruction.Next ∷ [])) (of_another 3)
    -- writing another register, or reading the element
    ∷ case (loop (instruction.Const 2 1 ∷ instruction.Put 1 0 ∷ instruction.Next ∷ [])) (of_the_element 3)
    ∷ case (loop (instruction.Number 2 1 4 ∷ instruction.Put 1 0 ∷ instruction.Next ∷ [])) (of_the_element 3)
    ∷ case (loop (instruction.Undef 1 3 ∷ instruction.Put 1 0 ∷ instruction.Next ∷ [])) (of_the_element 3)
    ∷ case (loop (instruction.Empty 1 3 ∷ instruction.Put 1 0 ∷ instruction.Next ∷ [])) (of_the_element 3)
    ∷ case (loop (instruction.NoList 1 3 ∷ instruction.Put 1 0 ∷ instruction.Next ∷ [])) (of_the_element 3)
    ∷ case (loop (instruction.Differ 1 2 3 ∷ instruction.Put 1 0 ∷ instruction.Next ∷ [])) (of_the_element 3)
    ∷ case (loop (instruction.Less 1 2 3 ∷ instruction.Put 1 0 ∷ instruction.Next ∷ [])) (of_the_element 3)
    ∷ case (loop (instruction.Cut 1 1 0 ∷ instruction.Sep 0 ∷ instruction.Next ∷ [])) (sums 3 3 0 1 3 0)
    -- before the body and after it the register may be written
    ∷ case (sample (instruction.Const 1 1 ∷ instruction.List 0 0 ∷ instruction.Each 1 0 5 ∷ instruction.Put 1 0 ∷ instruction.Next ∷ instruction.Const 1
    1 ∷ instruction.Halt ∷ [])) (sums 5 2 0 0 3 0)
    -- the element of another body
    ∷ case (sample (instruction.List 0 0 ∷ instruction.Each 1 0 3 ∷ instruction.Next ∷ instruction.Each 2 0 6 ∷ instruction.Put 1
    0 ∷ instruction.Next ∷ instruction.Halt ∷ [])) (sums 4 3 0 30 0 3)
    -- COUNT writes its register in version 2; in version 1 its number is no operation
    ∷ case (upgraded (loop (instruction.Put 1 0 ∷ instruction.Count 1 0 ∷ instruction.Next ∷ []))) (of_another 3)
    ∷ case (upgraded (loop (instruction.Put 1 0 ∷ instruction.Count 2 1 ∷ instruction.Next ∷ []))) (of_the_element 3)
    ∷ case (loop (instruction.Put 1 0 ∷ instruction.Count 1 0 ∷ instruction.Next ∷ [])) (of_the_element 3)
    ∷ []

element_cases_hold : map (λ x. sums_of x.code) element_cases ≡ map (λ x. x.sums) element_cases
unfolding total longest_compared is_kept body_at reading
element_cases_hold = refl

-- ---- the bounds

element_written_sums : sums_of element_written ≡ sums 3 3 0 9 0 3
unfolding total longest_compared is_kept body_at reading
element_written_sums = refl

-- twenty members of a thousand letters
long_members : bytes_bound (sums_of list_code) 20 20000 ≡ 60020
unfolding total longest_compared is_kept body_at reading
long_members = refl

long_text : bytes_bound (sums_of x_code) 0 400000 ≡ 1200000
unfolding total longest_compared is_kept body_at reading
long_text = refl

list_steps : steps_bound (sums_of list_code) 3 ≡ 12
unfolding total body_at reading
list_steps = refl

list_bytes : bytes_bound (sums_of list_code) 3 12 ≡ 39
unfolding total longest_compared is_kept body_at reading
list_bytes = refl

issn_bytes : bytes_bound (sums_of issn_code) 0 9 ≡ 44
unfolding total longest_compared is_kept body_at reading
issn_bytes = refl

-- outside bodies the members do not matter
x_steps : steps_bound (sums_of x_code) 5 ≡ 4
unfolding total body_at reading
x_steps = refl

x_bytes : bytes_bound (sums_of x_code) 5 7 ≡ 21
unfolding total longest_compared is_kept body_at reading
x_bytes = refl

-- a link text, and then the text of `x`
abbrev x_after : Text → Code
x_after t =
    code (text_name (codes "x") ∷ []) (link_text t ∷ [])
    (instruction.Emit 0 ∷ instruction.Text 2 0 ∷ instruction.Undef 2 4 ∷ instruction.Put 2 0 ∷ instruction.Halt ∷ [])

-- 349,525 bytes, after a link text of one byte or of two: the limit of a run is 1,048,576
at_the_limit : bytes_bound (sums_of (x_after (codes ","))) 0 349525 ≡ 1048576
unfolding total longest_compared is_kept body_at reading
at_the_limit = refl

over_the_limit : bytes_bound (sums_of (x_after (codes ",,"))) 0 349525 ≡ 1048577
unfolding total longest_compared is_kept body_at reading
over_the_limit = refl

-- each sum in its place: alone, times M, times E, and times both
all_terms : bytes_bound (sums 9 9 1000 100 10 1) 3 7 ≡ 1391
all_terms = refl

-- ---- what must not hold

-- a body counts once for each turn, and not just once
not_once : (sums_of list_code).s0 ≡ 6 → ⊥
unfolding total body_at reading
not_once e = let once : 3 ≡ 6 = e in absurd (omega (arith, once))
