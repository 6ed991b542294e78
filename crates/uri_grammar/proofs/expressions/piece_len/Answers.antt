use Rattle.uri_grammar.proofs.SpecLemmas.{piece_cut}
use Rattle.uri_grammar.proofs.expressions.piece_len.Goals as goal

pub returns-in-Some-clause-cut : goal.returns-in-Some-clause-cut
returns-in-Some-clause-cut c =
    let found = c.in-Some.ensures.found in piece_cut c.args.rest.now c.in-Some.at found.0 found.1
