-- The instructions that fields encode in both versions, and the bounds of operands, computed from the definitions.
use Rattle.std.proofs.Common.{◌≡◌, refl, true, false, Some, None}
use Rattle.code_model.specs.Code.{row, reading, spelling, is_same_instr}
use Rattle.code_model.specs.Operands.{Items, Mode, is_in_range}
use Rattle.code_model.specs.declared.code.Instruction.TheVariants as instruction

-- ---- operations

counts_in_version_2 : reading 2 (row 19 1 2 3 4) ≡ Some (instruction.Count 1 2)
unfolding reading
counts_in_version_2 = refl

nothing_in_version_1 : reading 1 (row 19 1 2 3 4) ≡ None
unfolding reading
nothing_in_version_1 = refl

next_in_version_1 : reading 1 (row 18 1 2 3 4) ≡ Some instruction.Next
unfolding reading
next_in_version_1 = refl

next_in_version_2 : reading 2 (row 18 1 2 3 4) ≡ Some instruction.Next
unfolding reading
next_in_version_2 = refl

nothing_is_0 : reading 2 (row 0 0 0 0 0) ≡ None
unfolding reading
nothing_is_0 = refl

nothing_is_20 : reading 2 (row 20 0 0 0 0) ≡ None
unfolding reading
nothing_is_20 = refl

unused_fields_are_0 : is_same_instr (spelling (instruction.Count 1 2)) (row 19 1 2 3 4) ≡ false
unused_fields_are_0 = refl

-- ---- bounds

no_items : is_in_range (Items 0) ≡ false
no_items = refl

one_item : is_in_range (Items 1) ≡ true
one_item = refl

most_items : is_in_range (Items 9999) ≡ true
most_items = refl

too_many_items : is_in_range (Items 10000) ≡ false
too_many_items = refl

last_mode : is_in_range (Mode 1) ≡ true
last_mode = refl

no_mode : is_in_range (Mode 2) ≡ false
no_mode = refl
