use Rattle.std.proofs.Common.{◌≡◌, ◌+◌, Some, ap, ◌∙◌, drop, take, sym}
use Rattle.std.specs.Prelude.{position}
use Rattle.std.proofs.lemmas.List.{take_rest}
use Rattle.text_model.proofs.Lists.{position-some}
use Rattle.http_request.specs.Numbers.{is_comma}
use Rattle.http_request.proofs.Commas.{comma_within}
use Rattle.http_request.proofs.numbers.split_comma.Goals as goal

pub returns-clause-number : goal.returns-clause-number
returns-clause-number c =
    let text = c.args.text.now in
    let found : position is_comma text ≡ Some c.in_ok-end.end = sym c.comma.ensures ∙ c.in_ok-end.was in
    ap (λ n. take n text) (position-some is_comma text c.in_ok-end.end found)

pub returns-clause-rest : goal.returns-clause-rest
returns-clause-rest c =
    let text = c.args.text.now in
    let found : position is_comma text ≡ Some c.in_ok-end.end = sym c.comma.ensures ∙ c.in_ok-end.was in
    take_rest text (c.in_ok-end.end + 1) ∙ ap (λ n. drop (n + 1) text) (position-some is_comma text c.in_ok-end.end found)

pub returns-clause-comma : goal.returns-clause-comma
returns-clause-comma c = comma_within c.args.text.now c.in_ok-end.end (sym c.comma.ensures ∙ c.in_ok-end.was)
