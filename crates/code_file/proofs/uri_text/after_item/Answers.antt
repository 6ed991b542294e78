use Rattle.std.proofs.Common.{sym, ap, ◌∙◌, arith}
use Rattle.std.proofs.lemmas.Grind.{common_steps}
use Rattle.code_file.proofs.UriTextLemmas.{after_triplet, after_character, after_neither}
use Rattle.code_file.specs.Private.FromLeft.{is_uri_text}
use Rattle.code_file.proofs.uri_text.after_item.Goals as goal

pub returns-then-begins_with_triplet-clause-some : goal.returns-then-begins_with_triplet-clause-some
returns-then-begins_with_triplet-clause-some c =
    let step = after_triplet c.args.bytes.now (sym c.begins_with_triplet.ensures ∙ c.if-begins_with_triplet.true) in
    step.0 ∙ ap is_uri_text (grind (arith, common_steps))

pub returns-then-is_plain-clause-some : goal.returns-then-is_plain-clause-some
returns-then-is_plain-clause-some c =
    after_character c.args.bytes.now c.requires (sym c.is_plain.ensures ∙ c.if-is_plain.true)
    ∙ ap is_uri_text (grind (arith, common_steps))

pub returns-clause-none : goal.returns-clause-none
returns-clause-none c =
    after_neither c.args.bytes.now c.requires (sym c.begins_with_triplet.ensures ∙ c.if-begins_with_triplet.false)
    (sym c.is_plain.ensures ∙ c.if-is_plain.false)
