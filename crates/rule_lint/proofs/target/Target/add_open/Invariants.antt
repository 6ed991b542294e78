-- The open names of the specs so far were added.
use Rattle.std.proofs.Common.{◌≡◌, ◌++◌, take}
use Rattle.text_model.specs.Texts.{texts_of}
use Rattle.rule_lint.specs.Host.{open_among}
use Rattle.rule_lint.proofs.target.Target.add_open.Given as goal

abbrev pub invariant-loop-spec : goal.invariant-loop-spec
invariant-loop-spec l =
    texts_of l.names.items ≡ texts_of l.initial.names.items ++ open_among l.self.rules.now l.self.table.now (take l.spec-index l.specs)
