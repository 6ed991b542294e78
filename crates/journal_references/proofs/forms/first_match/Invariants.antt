use Rattle.std.proofs.Common.{◌≡◌, drop}
use Rattle.journal_references.specs.Forms as spec
use Rattle.journal_references.proofs.forms.first_match.Given as goal

abbrev pub invariant-loop-form : goal.invariant-loop-form
invariant-loop-form l =
    spec.first_match (spec.forms_of (drop l.form-index l.forms)) l.text ≡ spec.first_match (spec.forms_of l.forms) l.text
