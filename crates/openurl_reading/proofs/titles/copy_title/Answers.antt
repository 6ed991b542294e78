use Rattle.std.proofs.Common.{ap, sym, ◌∙◌}
use Rattle.openurl_reading.specs.OldKeys.{copy}
use Rattle.openurl_reading.specs.Steps.{taken}
use Rattle.openurl_reading.specs.Titles.{title_key, of_title}
use Rattle.openurl_reading.proofs.Titled.{titlings_copy, titlings_stay}
use Rattle.openurl_reading.proofs.titles.copy_title.Goals as goal

pub returns-then-is_titled : goal.returns-then-is_titled
returns-then-is_titled c = sym (titlings_stay c.args.pairs (sym c.is_titled.ensures ∙ c.if-is_titled.true))

pub returns : goal.returns
returns c =
    c.in_ok-pairs.ensures ∙ ap (λ key. taken c.args.pairs (copy (of_title key))) (c.title_key-key.ensures ∙ ap title_key c.kind_of.ensures)
    ∙ sym (titlings_copy c.args.pairs (sym c.is_titled.ensures ∙ c.if-is_titled.false))
