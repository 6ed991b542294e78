-- The names of the parts so far.
use Rattle.std.proofs.Common.{◌≡◌, take}
use Rattle.std.specs.List.{flat_map}
use Rattle.text_model.specs.Texts.{texts_of}
use Rattle.rule_lint.specs.Findings.{names_in_part}
use Rattle.rule_lint.proofs.template_names.names_in.Given as goal

abbrev pub invariant-loop-part : goal.invariant-loop-part
invariant-loop-part l = texts_of l.names.items ≡ flat_map names_in_part (take l.part-index l.parts)
