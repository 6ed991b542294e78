use Rattle.std.proofs.Common.{◌≡◌, drop}
use Rattle.text_model.specs.Texts.{texts_of}
use Rattle.written_numbers.specs.Identifiers as spec
use Rattle.written_numbers.proofs.identifiers.begins_with_one_of.Given as goal

abbrev pub invariant-loop-name : goal.invariant-loop-name
invariant-loop-name l =
    spec.begins_with_one_of (texts_of (drop l.name-index l.names)) l.line ≡ spec.begins_with_one_of (texts_of l.names) l.line
