use Rattle.source_requests.proofs.Fitting.{short, first, all}
use Rattle.source_requests.proofs.laws.fitting_pairs_fit.Goals as goal

pub returns-clause-short : goal.returns-clause-short
returns-clause-short c = short

pub returns-clause-first : goal.returns-clause-first
returns-clause-first c = first

pub returns-clause-all : goal.returns-clause-all
returns-clause-all c = all
