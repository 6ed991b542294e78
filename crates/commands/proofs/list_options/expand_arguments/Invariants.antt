use Rattle.std.proofs.Common.{length}
use Rattle.commands.proofs.ArgumentLemmas.{AfterOptions}
use Rattle.commands.proofs.list_options.expand_arguments.Given as goal

abbrev pub invariant-loop-rest : goal.invariant-loop-rest
invariant-loop-rest l = AfterOptions l.arguments l.rest

abbrev pub decreases-loop-rest : goal.decreases-loop-rest
decreases-loop-rest l = length l.rest
