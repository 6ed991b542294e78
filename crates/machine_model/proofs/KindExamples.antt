-- Kinds of small codes: edges and their kinds, and the first mismatch.

use Rattle.std.proofs.Common.{◌≡◌, ℕ, List, [], ◌∷◌, Option, Some, None, true, false, refl}
use Rattle.std.specs.Prelude.{map, slice_index_or}
use Rattle.code_model.specs.declared.code.Instruction.{Instruction}
use Rattle.code_model.specs.declared.code.Instruction.TheVariants as instruction
use Rattle.machine_model.specs.declared.form.Body.{Body}
use Rattle.machine_model.specs.declared.kind.Kind.{Kind}
use Rattle.machine_model.specs.declared.kind.Kind.TheVariants.{Any, OptText, Text, List as ListKind, Number}
use Rattle.machine_model.specs.Kinds.{kind_le, kind_join, Kinds, Need, need, needs, Edge, edges}

-- ---- the order

abbrev all_kinds : List Kind
all_kinds = Any ∷ OptText ∷ Text ∷ ListKind ∷ Number ∷ []

order : map (λ k. map (kind_le k) all_kinds) all_kinds ≡
    (true ∷ false ∷ false ∷ false ∷ false ∷ [])
    ∷ (true ∷ true ∷ false ∷ false ∷ false ∷ [])
    ∷ (true ∷ true ∷ true ∷ false ∷ false ∷ [])
    ∷ (true ∷ false ∷ false ∷ true ∷ false ∷ [])
    ∷ (true ∷ false ∷ false ∷ false ∷ true ∷ [])
    ∷ []
order = refl

joins : map (λ k. map (kind_join k) all_kinds) all_kinds ≡
    (Any ∷ Any ∷ Any ∷ Any ∷ Any ∷ [])
    ∷ (Any ∷ OptText ∷ OptText ∷ Any ∷ Any ∷ [])
    ∷ (Any ∷ OptText ∷ Text ∷ Any ∷ Any ∷ [])
    ∷ (Any ∷ Any ∷ Any ∷ ListKind ∷ Any ∷ [])
    ∷ (Any ∷ Any ∷ Any ∷ Any ∷ Number ∷ [])
    ∷ []
joins = refl

-- ---- what each instruction needs, and what its edges carry

-- an instruction at place 7, in a body from 5 with element r2
record Row : Type 0 where
  instruction : Instruction
  needs : List Need
  edges : List (ℕ × List Kind)

-- r0 is a text, r1 a list, r2 a number, and nothing is known about the others
abbrev known : Kinds
known r = slice_index_or (Text ∷ ListKind ∷ Number ∷ []) r Any

abbrev same : List Kind
same = Text ∷ ListKind ∷ Number ∷ Any ∷ []

abbrev with_r3 : Kind → List Kind
with_r3 k = Text ∷ ListKind ∷ Number ∷ k ∷ []

abbrev ends : Edge → ℕ × List Kind
ends e = (e.to, map e.kinds (0 ∷ 1 ∷ 2 ∷ 3 ∷ []))

abbrev body : Option Body
body = Some (record { start = 5; end = 8; element = 2 })

abbrev straight : Instruction → List Need → List Kind → Row
straight i ns ks = record { instruction = i; needs = ns; edges = (8, ks) ∷ [] }

abbrev branch : Instruction → List Need → List Kind → List Kind → Row
branch i ns ks jump = record { instruction = i; needs = ns; edges = (8, ks) ∷ (9, jump) ∷ [] }

abbrev table : List Row
table =
    record { instruction = instruction.Halt; needs = []; edges = [] }
    ∷ record { instruction = instruction.Fail; needs = []; edges = [] }
    ∷ record { instruction = instruction.Jump 9; needs = []; edges = (9, same) ∷ [] }
    ∷ straight (instruction.Text 3 0) [] (with_r3 OptText)
    ∷ straight (instruction.List 3 0) [] (with_r3 ListKind)
    ∷ straight (instruction.Const 3 0) [] (with_r3 Text)
    ∷ branch (instruction.Number 3 0 9) (need 0 Text ∷ []) (with_r3 Number) same
    ∷ branch (instruction.Undef 3 9) (need 3 OptText ∷ []) (with_r3 Text) same
    ∷ branch (instruction.Empty 3 9) (need 3 Text ∷ []) same same
    ∷ branch (instruction.NoList 3 9) (need 3 ListKind ∷ []) same same
    ∷ branch (instruction.Differ 3 0 9) (need 3 Text ∷ need 0 Text ∷ []) same same
    ∷ branch (instruction.Less 3 0 9) (need 3 Number ∷ need 0 Number ∷ []) same same
    ∷ straight (instruction.Emit 0) [] same
    ∷ straight (instruction.Put 3 0) (need 3 Text ∷ []) same
    ∷ straight (instruction.Cut 3 1 0) (need 3 Text ∷ []) same
    ∷ branch (instruction.Each 3 1 9) (need 1 ListKind ∷ []) (with_r3 Text) (with_r3 Any)
    ∷ branch (instruction.Each 2 1 9) (need 1 ListKind ∷ []) (Text ∷ ListKind ∷ Text ∷ Any ∷ []) (Text ∷ ListKind ∷ Any ∷ Any ∷ [])
    ∷ straight (instruction.Sep 0) [] same
    ∷ record { instruction = instruction.Next; needs = []; edges = (5, Text ∷ ListKind ∷ Text ∷ Any ∷ []) ∷ (8, Text ∷ ListKind ∷ Any ∷ Any ∷ []) ∷ [] }
    ∷ straight (instruction.Count 3 1) (need 1 ListKind ∷ []) (with_r3 Number)
    ∷ []

table_needs : map (λ x. needs x.instruction) table ≡ map (λ x. x.needs) table
table_needs = refl

table_edges : map (λ x. map ends (edges 7 known body x.instruction)) table ≡ map (λ x. x.edges) table
table_edges = refl

-- a NEXT in no body continues, and does not return
stray_next : map ends (edges 7 known None instruction.Next) ≡ (8, same) ∷ []
stray_next = refl
