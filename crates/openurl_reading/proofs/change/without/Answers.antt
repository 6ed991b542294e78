use Rattle.std.proofs.Common.{◌∙◌, ap, not, rules, tests}
use Rattle.std.proofs.lemmas.Fn.{filter_same}
use Rattle.kev_read.specs.Pairs.{has_key}
use Rattle.openurl_reading.specs.Steps.{others}
use Rattle.openurl_reading.proofs.change.without.Goals as goal

pub returns : goal.returns
returns c =
    let key = c.args.key.now in
    c.new.ensures
    ∙ filter_same _ (λ pair. not (has_key key pair)) _ (λ x b f' k. search (rules, tests)) _ _ c.retain.ensures.filtered
    ∙ ap (others key) c.into_list-list.ensures
