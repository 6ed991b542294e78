use Rattle.std.proofs.Common.{◌≡◌, drop}
use Rattle.journal_references.specs.Parts as spec
use Rattle.journal_references.proofs.matches.match_parts.Given as goal

abbrev pub invariant-loop-part : goal.invariant-loop-part
invariant-loop-part l =
    spec.match_parts (drop l.part-index l.parts) (spec.match_of l.found) ≡ spec.match_parts l.parts (spec.match_of l.initial.found)
