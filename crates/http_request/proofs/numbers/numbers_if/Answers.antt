use Rattle.std.proofs.Common.{◌∙◌, option_map, sym, ap}
use Rattle.http_request.proofs.Commas.{found}
use Rattle.http_request.proofs.numbers.numbers_if.Goals as goal

pub returns-then-are_numbers : goal.returns-then-are_numbers
returns-then-are_numbers c =
    ap (λ o. option_map (λ s. s.now) o) c.ok.ensures.value
    ∙ found c.args.text.now _ c.from_utf8.result c.from_utf8.ensures.cases (sym c.are_numbers.ensures ∙ c.if-are_numbers.true)
