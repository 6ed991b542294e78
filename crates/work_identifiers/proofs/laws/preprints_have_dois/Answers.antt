use Rattle.work_identifiers.proofs.FoundAgain.{same_uri, no_preprint}
use Rattle.work_identifiers.proofs.PreprintDois.{arxiv_doi_is}
use Rattle.work_identifiers.proofs.laws.preprints_have_dois.Goals as goal

pub returns-clause-doi : goal.returns-clause-doi
returns-clause-doi c = arxiv_doi_is

pub returns-clause-uri : goal.returns-clause-uri
returns-clause-uri c = same_uri

pub returns-clause-others : goal.returns-clause-others
returns-clause-others c = no_preprint
