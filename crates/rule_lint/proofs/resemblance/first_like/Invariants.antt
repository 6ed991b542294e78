-- None of the names so far resembles the name.
use Rattle.std.proofs.Common.{◌≡◌, None, take}
use Rattle.std.specs.List.{find}
use Rattle.text_model.specs.Texts.{texts_of}
use Rattle.rule_lint.specs.Names.{resembles}
use Rattle.rule_lint.proofs.resemblance.first_like.Given as goal

abbrev pub invariant-loop-other : goal.invariant-loop-other
invariant-loop-other l = find (resembles l.name) (texts_of (take l.other-index l.names)) ≡ None
