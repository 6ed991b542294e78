use Rattle.std.proofs.Common.{sym, ◌∙◌}
use Rattle.openurl_reading.proofs.FieldsCopied.{number_of_pubmed, other_identifier}
use Rattle.openurl_reading.proofs.fields.copy_identifier.Goals as goal

pub returns-then-is_of_pubmed : goal.returns-then-is_of_pubmed
returns-then-is_of_pubmed c =
    c.in_ok-pairs.ensures ∙ sym (number_of_pubmed c.args.pairs (sym c.is_of_pubmed.ensures ∙ c.if-is_of_pubmed.true))

pub returns : goal.returns
returns c = c.in_ok-pairs-2.ensures ∙ sym (other_identifier c.args.pairs (sym c.is_of_pubmed.ensures ∙ c.if-is_of_pubmed.false))
