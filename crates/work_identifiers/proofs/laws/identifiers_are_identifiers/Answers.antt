use Rattle.work_identifiers.proofs.MentionParts.{mention_is}
use Rattle.work_identifiers.proofs.Parts.{named_is, alone_is}
use Rattle.work_identifiers.proofs.laws.identifiers_are_identifiers.Goals as goal

pub returns-clause-named : goal.returns-clause-named
returns-clause-named c = named_is

pub returns-clause-alone : goal.returns-clause-alone
returns-clause-alone c = alone_is

pub returns-clause-mentioned : goal.returns-clause-mentioned
returns-clause-mentioned c = mention_is
