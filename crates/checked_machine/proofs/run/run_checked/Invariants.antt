use Rattle.machine_model.specs.States.{Running}
use Rattle.machine_model.specs.Runs.{After}
use Rattle.checked_machine.specs.Private.Frames.{frame_of}
use Rattle.checked_machine.proofs.run.run_checked.Given as goal

-- one step for each turn
abbrev pub invariant-loop-steps : goal.invariant-loop-steps
invariant-loop-steps l = After l.code l.env.entries l._steps (Running (frame_of l.frame))
