-- The names of the specs so far were added.
use Rattle.std.proofs.Common.{◌≡◌, ◌++◌, take}
use Rattle.text_model.specs.Texts.{texts_of}
use Rattle.rule_lint.specs.Host.{names_of}
use Rattle.rule_lint.proofs.template_names.add_names.Given as goal

abbrev pub invariant-loop-spec : goal.invariant-loop-spec
invariant-loop-spec l = texts_of l.names.items ≡ texts_of l.initial.names.items ++ names_of (take l.spec-index l.specs)
