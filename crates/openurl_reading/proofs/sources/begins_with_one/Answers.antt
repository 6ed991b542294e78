use Rattle.std.proofs.Common.{ap, sym, ◌∙◌}
use Rattle.uri_text.specs.AnyCase.{begins_in_any_case}
use Rattle.openurl_reading.proofs.Walks.{any_later, any_here, any_none}
use Rattle.openurl_reading.proofs.sources.begins_with_one.Goals as goal

pub loop-beginning-preserved : goal.loop-beginning-preserved
loop-beginning-preserved c =
    let test = begins_in_any_case c.args.text.now in
    any_later test _ _ _ _ c.loop-beginning-test.true
    (sym (c.begins_in_any_case.ensures.begins ∙ ap test c.as_bytes.ensures.value) ∙ c.if-begins_in_any_case.false) c.loop-beginning.invariant

pub returns-then-begins_in_any_case : goal.returns-then-begins_in_any_case
returns-then-begins_in_any_case c =
    let test = begins_in_any_case c.args.text.now in
    any_here test _ _ _ _ c.loop-beginning-test.true
    (sym (c.begins_in_any_case.ensures.begins ∙ ap test c.as_bytes.ensures.value) ∙ c.if-begins_in_any_case.true) c.loop-beginning.invariant

pub returns : goal.returns
returns c =
    any_none (begins_in_any_case c.args.text.now) _ _ _ c.loop-beginning-test.false c.loop-beginning.invariant
