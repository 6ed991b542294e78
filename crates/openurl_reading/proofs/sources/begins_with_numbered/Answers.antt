use Rattle.std.proofs.Common.{ap, sym, ◌∙◌}
use Rattle.openurl_reading.specs.Sources.{is_before_number}
use Rattle.openurl_reading.proofs.Walks.{any_later, any_here, any_none}
use Rattle.openurl_reading.proofs.sources.begins_with_numbered.Goals as goal

pub loop-word-preserved : goal.loop-word-preserved
loop-word-preserved c =
    let test = is_before_number c.args.text.now in
    any_later test _ _ _ _ c.loop-word-test.true
    (sym (c.is_before_number.ensures ∙ ap test c.as_bytes.ensures.value) ∙ c.if-is_before_number.false) c.loop-word.invariant

pub returns-then-is_before_number : goal.returns-then-is_before_number
returns-then-is_before_number c =
    let test = is_before_number c.args.text.now in
    any_here test _ _ _ _ c.loop-word-test.true
    (sym (c.is_before_number.ensures ∙ ap test c.as_bytes.ensures.value) ∙ c.if-is_before_number.true) c.loop-word.invariant

pub returns : goal.returns
returns c =
    any_none (is_before_number c.args.text.now) _ _ _ c.loop-word-test.false c.loop-word.invariant
