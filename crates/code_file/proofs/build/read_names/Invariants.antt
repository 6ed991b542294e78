use Rattle.std.proofs.Common.{◌≡◌, length}
use Rattle.code_file.specs.Grammar.{IsCodeName, name_field}
use Rattle.code_file.proofs.TableLemmas.{IsBuilding}
use Rattle.code_file.proofs.build.read_names.Given as goal

abbrev pub invariant-loop : goal.invariant-loop
invariant-loop l =
    IsBuilding IsCodeName name_field l.count l.bytes l.rest l.names.items × (length l.names.items ≡ l.counter)
