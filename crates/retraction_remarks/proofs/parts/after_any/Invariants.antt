use Rattle.std.proofs.Common.{◌≡◌, drop}
use Rattle.text_model.specs.Texts.{texts_of}
use Rattle.retraction_remarks.specs.Parts as spec
use Rattle.retraction_remarks.proofs.parts.after_any.Given as goal

abbrev pub invariant-loop-beginning : goal.invariant-loop-beginning
invariant-loop-beginning l =
    spec.after_any (texts_of (drop l.beginning-index l.beginnings)) l.text ≡ spec.after_any (texts_of l.beginnings) l.text
