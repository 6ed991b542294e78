use Rattle.std.proofs.Common.{◌≡◌, drop}
use Rattle.text_model.specs.Texts.{texts_of}
use Rattle.work_identifiers.specs.Mentions as spec
use Rattle.work_identifiers.proofs.mentions.begins_with_one_of.Given as goal

abbrev pub invariant-loop-beginning : goal.invariant-loop-beginning
invariant-loop-beginning l =
    spec.begins_with_one_of (texts_of (drop l.beginning-index l.beginnings)) l.text ≡ spec.begins_with_one_of (texts_of l.beginnings) l.text
