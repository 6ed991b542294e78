use Rattle.std.proofs.Common.{◌+◌, ◌*◌, take, ap, ◌∙◌}
use Rattle.std.specs.Prelude.{min}
use Rattle.title_markup.specs.References.{radix, beyond, value}
use Rattle.title_markup.proofs.Numbers.{value_more}
use Rattle.title_markup.proofs.references.value.Goals as goal

pub loop-digit-preserved : goal.loop-digit-preserved
loop-digit-preserved c =
    let base = c.args.base in
    let before = value base (take c.loop-digit.digit-index c.args.digits.now) in
    c.min-number.ensures
    ∙ ap (λ n. min (n * c.radix.result + c.digit_value.result) beyond) c.loop-digit.invariant
    ∙ ap (λ r. min (before * r + c.digit_value.result) beyond) c.radix.ensures.value
    ∙ ap (λ d. min (before * radix base + d) beyond) c.digit_value.ensures.value
    ∙ value_more base c.args.digits.now c.loop-digit.digit-index c.loop-digit-test.true
