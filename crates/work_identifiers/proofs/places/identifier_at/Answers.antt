use Rattle.std.proofs.Common.{◌∙◌, sym}
use Rattle.work_identifiers.proofs.FormLaws.{at_some, at_none, identifier_ascii}
use Rattle.work_identifiers.proofs.places.identifier_at.Goals as goal

pub returns-then-is_identifier-clause-value : goal.returns-then-is_identifier-clause-value
returns-then-is_identifier-clause-value c =
    at_some c.args.namespace c.args.text.now c.part-part.result.now c.if-text-gt-MOST_BYTES.false c.part-part.ensures
    (sym c.is_identifier.ensures ∙ c.if-is_identifier.true)

pub returns-then-is_identifier-clause-ascii : goal.returns-then-is_identifier-clause-ascii
returns-then-is_identifier-clause-ascii c =
    identifier_ascii c.args.namespace c.part-part.result.now (sym c.is_identifier.ensures ∙ c.if-is_identifier.true)

pub returns-else-is_identifier-clause-value : goal.returns-else-is_identifier-clause-value
returns-else-is_identifier-clause-value c =
    at_none c.args.namespace c.args.text.now c.part-part.result.now c.part-part.ensures
    (sym c.is_identifier.ensures ∙ c.if-is_identifier.false)
