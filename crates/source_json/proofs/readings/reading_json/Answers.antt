use Rattle.std.proofs.Common.{◌∙◌, Some, ap, subst, sym, ◌≤◌}
use Rattle.std.proofs.lemmas.Result.{IfOk-weaker}
use Rattle.serde_json.specs.Data.{depth}
use Rattle.serde_json.specs.Read.{max_depth}
use Rattle.serde_json.specs.Written.{compact_text, has_float}
use Rattle.source_json.proofs.Plain.{reading_plain, reading_shallow}
use Rattle.source_json.proofs.readings.reading_json.Goals as goal

pub returns-clause-text : goal.returns-clause-text
returns-clause-text c =
    let is = c.in_ok-value.ensures in
    IfOk-weaker c.to_string.result _ _ (λ s h. h (ap has_float is ∙ reading_plain c.args.reading.now) ∙ ap compact_text is) c.to_string.ensures.text

pub returns-clause-read : goal.returns-clause-read
returns-clause-read c =
    let is = c.in_ok-value.ensures in
    IfOk-weaker c.to_string.result _ _ (λ s h. h (subst (λ d. depth d ≤ max_depth) (sym is) (reading_shallow c.args.reading.now)) ∙ ap Some is)
    c.to_string.ensures.reads_back
