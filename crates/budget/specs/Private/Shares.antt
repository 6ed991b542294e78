-- The share of an instruction, and how the sums grow by it.
use Rattle.std.specs.Prelude.{◌≡◌, ◌+◌, Option}
use Rattle.code_model.specs.Code.{Code}
use Rattle.code_model.specs.declared.code.Instruction.{Instruction}
use Rattle.machine_model.specs.Budget.{Sums, fixed_bytes, separator_bytes, written_bytes}
use Rattle.budget.specs.declared.share.Share.{Share}

pub record IsShareOf (c : Code) (i : Option Instruction) (s : Share) : Type 0 where
  pub fixed : s.fixed ≡ fixed_bytes c i
  pub separator : s.separator ≡ separator_bytes c i
  pub written : s.written ≡ written_bytes i

-- the sums with an instruction outside all bodies
abbrev pub plus_outside : Sums → Share → Sums
plus_outside b s = record b { s0 = b.s0 + 1; o0 = b.o0 + s.fixed; o2 = b.o2 + s.written }

-- the sums with an instruction in a body
abbrev pub plus_inside : Sums → Share → Sums
plus_inside b s = record b { s1 = b.s1 + 1; o1 = b.o1 + (s.fixed + s.separator); o3 = b.o3 + s.written }

-- the sums with a PUT or CUT that prints the element of its body
abbrev pub plus_element : Sums → Share → Sums
plus_element b s = record b { s1 = b.s1 + 1; o2 = b.o2 + s.written }
