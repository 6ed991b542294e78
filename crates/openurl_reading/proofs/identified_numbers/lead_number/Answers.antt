use Rattle.std.proofs.Common.{ap, sym, ◌∙◌}
use Rattle.std.specs.Option.{is_some}
use Rattle.openurl_reading.proofs.IdentifiedNumbers.{not_identified}
use Rattle.openurl_reading.proofs.identified_numbers.lead_number.Goals as goal

pub returns-then-is_none : goal.returns-then-is_none
returns-then-is_none c = not_identified c.args.number c.args.pairs (ap is_some (sym c.in_ok-found.ensures) ∙ c.if-is_none.ensures)
