use Rattle.std.proofs.Common.{◌≡◌, length}
use Rattle.code_file.specs.Grammar.{IsLiteral, literal_field}
use Rattle.code_file.proofs.TableLemmas.{IsBuilding}
use Rattle.code_file.proofs.build.read_literals.Given as goal

abbrev pub invariant-loop : goal.invariant-loop
invariant-loop l =
    IsBuilding IsLiteral literal_field l.count l.bytes l.rest l.literals.items × (length l.literals.items ≡ l.counter)
