use Rattle.std.proofs.Common.{◌≡◌, drop}
use Rattle.std.specs.Char.{is_digit}
use Rattle.std.specs.List.{list_all}
use Rattle.title_markup.specs.References.{radix}
use Rattle.title_markup.proofs.references.are_digits.Given as goal

abbrev pub invariant-loop-byte : goal.invariant-loop-byte
invariant-loop-byte l = list_all (λ b. is_digit b (radix l.base)) (drop l.byte-index l.text) ≡ list_all (λ b. is_digit b (radix l.base)) l.text
