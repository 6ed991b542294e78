use Rattle.work_identifiers.proofs.MentionParts.{mention_part}
use Rattle.work_identifiers.proofs.Parts.{named_part, alone_part}
use Rattle.work_identifiers.proofs.laws.identifiers_are_parts.Goals as goal

pub returns-clause-named : goal.returns-clause-named
returns-clause-named c = named_part

pub returns-clause-alone : goal.returns-clause-alone
returns-clause-alone c = alone_part

pub returns-clause-mentioned : goal.returns-clause-mentioned
returns-clause-mentioned c = mention_part
