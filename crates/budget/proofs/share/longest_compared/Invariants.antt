use Rattle.std.proofs.Common.{◌≡◌, take}
use Rattle.machine_model.specs.Budget.{longest_compared}
use Rattle.budget.proofs.share.longest_compared.Given as goal

abbrev pub invariant-loop-literal : goal.invariant-loop-literal
invariant-loop-literal l = l.longest ≡ longest_compared (take l.literal-index l.literals)
