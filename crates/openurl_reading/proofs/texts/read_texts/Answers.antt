use Rattle.std.proofs.Common.{map, ap, sym, ◌∙◌}
use Rattle.std.proofs.lemmas.List.Sums.{fold-append}
use Rattle.written_texts.specs.declared.readings.Role.TheVariants.{Title, Other}
use Rattle.openurl_reading.specs.Steps.{taken, after}
use Rattle.openurl_reading.specs.Texts.{texting, title_texts, other_texts}
use Rattle.openurl_reading.proofs.texts.read_texts.Goals as goal

pub returns : goal.returns
returns c =
    c.in_ok-pairs-2.ensures
    ∙ ap (λ keys. after (map (texting Other) keys) c.in_ok-pairs.pairs) c.other_texts.ensures
    ∙ ap (after (map (texting Other) other_texts))
    (c.in_ok-pairs.ensures ∙ ap (λ keys. after (map (texting Title) keys) c.args.pairs) c.title_texts.ensures)
    ∙ sym (fold-append taken c.args.pairs (map (texting Title) title_texts) (map (texting Other) other_texts))
