use Rattle.registry_file.proofs.lines.text.Goals as goal

pub returns-in_err-get-clause-none : goal.returns-in_err-get-clause-none
returns-in_err-get-clause-none c = rw c.from_residual.ensures (λ cell is. absurd (cc (c.in_err-get.ensures.value, is)))
