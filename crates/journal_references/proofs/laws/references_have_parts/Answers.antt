use Rattle.journal_references.proofs.ReferenceLaws.{has_a_volume, has_a_place}
use Rattle.journal_references.proofs.laws.references_have_parts.Goals as goal

pub returns-clause-volume : goal.returns-clause-volume
returns-clause-volume c = has_a_volume

pub returns-clause-place : goal.returns-clause-place
returns-clause-place c = has_a_place
