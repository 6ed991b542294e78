use Rattle.std.proofs.Common.{Some, None, cond, length, sym, ap, ◌∙◌}
use Rattle.title_markup.specs.Tags.{tag_of, from_bracket}
use Rattle.title_markup.proofs.LastBrackets.{tag_length_is}
use Rattle.title_markup.proofs.tags.tag_len.Goals as goal

pub returns-then-is_tag : goal.returns-then-is_tag
returns-then-is_tag c =
    sym (tag_length_is c.args.text.now (sym c.last_byte.ensures ∙ c.if-last_byte-ne62.false)
    ∙ ap (λ t. tag_of (from_bracket t)) (sym c.last_bytes.ensures) ∙ ap tag_of (sym c.from_bracket-tag.ensures)
    ∙ ap (λ b. cond b (Some (length c.from_bracket-tag.result.now)) None) (sym c.is_tag.ensures ∙ c.if-is_tag.true))

pub returns-else-is_tag : goal.returns-else-is_tag
returns-else-is_tag c =
    sym (tag_length_is c.args.text.now (sym c.last_byte.ensures ∙ c.if-last_byte-ne62.false)
    ∙ ap (λ t. tag_of (from_bracket t)) (sym c.last_bytes.ensures) ∙ ap tag_of (sym c.from_bracket-tag.ensures)
    ∙ ap (λ b. cond b (Some (length c.from_bracket-tag.result.now)) None) (sym c.is_tag.ensures ∙ c.if-is_tag.false))
