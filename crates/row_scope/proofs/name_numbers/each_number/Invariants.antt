use Rattle.std.proofs.Common.{◌≡◌, ℕ, Option, Some, slice_get, length, take, fold}
use Rattle.machine_model.specs.Operands.{name_at}
use Rattle.row_scope.specs.NameNumbers.{IsOwn, with_number}
use Rattle.row_scope.proofs.NumberLemmas.{names_of_code}
use Rattle.row_scope.proofs.name_numbers.each_number.Given as goal

-- the names so far were added, and have their own numbers, or none
abbrev pub invariant-loop-name : goal.invariant-loop-name
invariant-loop-name l = record {
  one_each : length l.numbers.items ≡ l.name-index;
  names : l.numbered.names ≡ fold with_number l.fn.numbered.names (take l.name-index (names_of_code l.code));
  keys : l.numbered.keys ≡ l.fn.numbered.keys;
  own : (i : ℕ) (number : Option ℕ) → slice_get l.numbers.items i ≡ Some number → IsOwn l.numbered.names (name_at l.code i) number;
}
