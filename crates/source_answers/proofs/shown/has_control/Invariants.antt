use Rattle.std.proofs.Common.{◌≡◌, drop}
use Rattle.source_answers.specs.Shown as spec
use Rattle.source_answers.proofs.shown.has_control.Given as goal

-- what is left decides
abbrev pub invariant-loop-index : goal.invariant-loop-index
invariant-loop-index l = spec.has_control l.text ≡ spec.has_control (drop l.index l.text)
