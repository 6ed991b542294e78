use Rattle.std.proofs.Common.{◌∙◌, ap, filter, rules, tests}
use Rattle.std.proofs.lemmas.Fn.{filter_same}
use Rattle.openurl_reading.specs.IdentifiedNumbers.{is_no_hyphen}
use Rattle.openurl_reading.proofs.identified_numbers.without_hyphens.Goals as goal

pub returns : goal.returns
returns c =
    filter_same _ is_no_hyphen _ (λ x b f' k. search (rules, tests)) _ _ c.retain.ensures.filtered ∙ ap (filter is_no_hyphen) c.in_ok-bytes.ensures.items
