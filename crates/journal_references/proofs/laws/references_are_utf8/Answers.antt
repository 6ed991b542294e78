use Rattle.journal_references.proofs.ReferenceLaws.{name_is_utf8, pieces_ascii}
use Rattle.journal_references.proofs.laws.references_are_utf8.Goals as goal

pub returns-clause-name : goal.returns-clause-name
returns-clause-name c = name_is_utf8

pub returns-clause-pieces : goal.returns-clause-pieces
returns-clause-pieces c = pieces_ascii
