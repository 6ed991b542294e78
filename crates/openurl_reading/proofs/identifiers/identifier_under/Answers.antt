use Rattle.std.proofs.Common.{Some, ap, sym, ◌∙◌}
use Rattle.std.specs.Option.{option_copied}
use Rattle.openurl_reading.specs.Identifiers as spec
use Rattle.openurl_reading.proofs.identifiers.identifier_under.Goals as goal

pub returns-in_ok-ascii_text-in-Some-clause-value : goal.returns-in_ok-ascii_text-in-Some-clause-value
returns-in_ok-ascii_text-in-Some-clause-value c =
    ap Some c.in_ok-ascii_text-in-Some.ensures ∙ sym (ap option_copied c.in-Some.is) ∙ c.in_ok-identifier.ensures.value
    ∙ ap (spec.identifier_under c.args.namespace c.args.key.now) c.as_bytes.ensures.value

pub returns-in-None-clause-value : goal.returns-in-None-clause-value
returns-in-None-clause-value c =
    sym (ap option_copied c.in-None.is) ∙ c.in_ok-identifier.ensures.value
    ∙ ap (spec.identifier_under c.args.namespace c.args.key.now) c.as_bytes.ensures.value
