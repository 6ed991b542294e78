use Rattle.journal_references.proofs.ReferenceLaws.{name_begins, pieces_part}
use Rattle.journal_references.proofs.laws.references_are_parts.Goals as goal

pub returns-clause-name : goal.returns-clause-name
returns-clause-name c = name_begins

pub returns-clause-pieces : goal.returns-clause-pieces
returns-clause-pieces c = pieces_part
