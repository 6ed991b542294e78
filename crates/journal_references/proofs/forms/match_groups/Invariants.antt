use Rattle.std.proofs.Common.{◌≡◌, drop}
use Rattle.journal_references.specs.Forms as spec
use Rattle.journal_references.specs.Parts.{match_of}
use Rattle.journal_references.proofs.forms.match_groups.Given as goal

abbrev pub invariant-loop-group : goal.invariant-loop-group
invariant-loop-group l =
    spec.match_groups (drop l.group-index l.groups) (match_of l.found) ≡ spec.match_groups l.groups (match_of l.initial.found)
