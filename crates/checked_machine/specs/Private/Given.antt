-- What is known about the operands of an instruction that can be read.
use Rattle.std.specs.Prelude.{◌<◌, length}
use Rattle.std.specs.List.{AllByRecursion}
use Rattle.code_model.specs.Code.{Code}
use Rattle.text_model.specs.UriText.{IsUriText}
use Rattle.code_model.specs.declared.code.Instruction.{Instruction}
use Rattle.code_model.specs.Operands.{Operand, Register, TextName, ListName, LinkText, Compared, Items, Mode, operands}
use Rattle.machine_model.specs.Operands.{literal_at}

abbrev pub IsGiven : Code → Operand → Type 0
IsGiven c (Register n) = n < 64
IsGiven c (TextName n) = n < length c.names
IsGiven c (ListName n) = n < length c.names
IsGiven c (LinkText n) = (n < length c.literals) × IsUriText (literal_at c n)
IsGiven c (Compared n) = n < length c.literals
IsGiven c (Items n) = Unit {0}
IsGiven c (Mode n) = Unit {0}

abbrev pub AreGiven : Code → Instruction → Type 0
AreGiven c i = AllByRecursion (IsGiven c) (operands i)
