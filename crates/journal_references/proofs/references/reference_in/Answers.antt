use Rattle.journal_references.proofs.ReferenceLaws.{place_name, place_pieces}
use Rattle.journal_references.proofs.references.reference_in.Goals as goal

pub reference_of-requires-clause-name : goal.reference_of-requires-clause-name
reference_of-requires-clause-name c =
    place_name c.in-Some.place c.as_bytes-bytes.result.now c.as_bytes-bytes.ensures.utf8 c.in-Some.ensures

pub reference_of-requires-clause-pieces : goal.reference_of-requires-clause-pieces
reference_of-requires-clause-pieces c = place_pieces c.in-Some.place c.as_bytes-bytes.result.now c.in-Some.ensures
