use Rattle.std.proofs.Common.{rules}
use Rattle.registry_file.proofs.LineLemmas.{no_first, no_second, no_third, target_of_cells}
use Rattle.registry_file.proofs.lines.target_line.Goals as goal

pub returns-in_err-text-clause-none : goal.returns-in_err-text-clause-none
returns-in_err-text-clause-none c = rw c.from_residual.ensures (no_first _ c.in_err-text.ensures.none)

pub returns-in_err-text-2-clause-none : goal.returns-in_err-text-2-clause-none
returns-in_err-text-2-clause-none c = rw c.from_residual-in_err-text-2.ensures (no_second _ c.in_err-text-2.ensures.none)

pub returns-in_err-text-3-clause-none : goal.returns-in_err-text-3-clause-none
returns-in_err-text-3-clause-none c = rw c.from_residual-in_err-text-3.ensures (no_third _ c.in_err-text-3.ensures.none)

pub returns-clause-line : goal.returns-clause-line
returns-clause-line c = target_of_cells _ _ _ _ (search rules) c.in_ok-text.ensures.there.0 c.in_ok-text-2.ensures.there.0 c.in_ok-text-3.ensures.there.0
    c.in_ok-text.ensures.there.1 c.in_ok-text-2.ensures.there.1 c.in_ok-text-3.ensures.there.1
