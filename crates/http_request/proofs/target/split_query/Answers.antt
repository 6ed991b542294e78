use Rattle.std.proofs.Common.{◌+◌, ap, ◌∙◌, drop, take, sym}
use Rattle.std.proofs.lemmas.List.{take_rest}
use Rattle.text_model.proofs.Lists.{position-some}
use Rattle.http_request.specs.Target.{is_question_mark}
use Rattle.http_request.proofs.Places.{after-none, before-none}
use Rattle.http_request.proofs.target.split_query.Goals as goal

pub returns-in-Some-clause-path : goal.returns-in-Some-clause-path
returns-in-Some-clause-path c = ap (λ n. take n c.args.resource.now) (position-some is_question_mark c.args.resource.now c.in-Some.end (sym c.in-Some.ensures))

pub returns-in-Some-clause-query : goal.returns-in-Some-clause-query
returns-in-Some-clause-query c =
    take_rest c.args.resource.now (c.in-Some.end + 1)
    ∙ ap (λ n. drop (n + 1) c.args.resource.now) (position-some is_question_mark c.args.resource.now c.in-Some.end (sym c.in-Some.ensures))

pub returns-in-None-clause-path : goal.returns-in-None-clause-path
returns-in-None-clause-path c = before-none is_question_mark c.args.resource.now (sym c.in-None.ensures)

pub returns-in-None-clause-query : goal.returns-in-None-clause-query
returns-in-None-clause-query c = after-none is_question_mark c.args.resource.now (sym c.in-None.ensures)
