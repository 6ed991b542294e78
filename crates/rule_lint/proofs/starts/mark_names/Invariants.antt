-- The names so far are marked.
use Rattle.std.proofs.Common.{ℕ, ◌<◌, [], get_or}
use Rattle.text_model.specs.Texts.{texts_of}
use Rattle.rule_lint.specs.Private.Starts.{IsMarked}
use Rattle.rule_lint.proofs.starts.mark_names.Given as goal

abbrev pub invariant-loop-place : goal.invariant-loop-place
invariant-loop-place l = (k : ℕ) → k < l.place → IsMarked l.multiplier l.firsts k (get_or (texts_of l.names) k [])
