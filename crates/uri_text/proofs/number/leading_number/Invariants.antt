use Rattle.uri_text.proofs.LeadingNumbers.{HasRead}
use Rattle.uri_text.proofs.number.leading_number.Given as goal

abbrev pub invariant-loop-count : goal.invariant-loop-count
invariant-loop-count l = HasRead l.text l.count l.number
