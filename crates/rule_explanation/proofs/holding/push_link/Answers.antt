-- The lines of a link that is not a web link.
use Rattle.std.proofs.Common.{◌≡◌, ◌++◌, sym, ◌∙◌, subst, string_bytes}
use Rattle.text_model.specs.Texts.{Text}
use Rattle.rule_explanation.specs.Explanation.{link_lines}
use Rattle.rule_explanation.proofs.LinkLemmas.{other_lines}
use Rattle.rule_explanation.proofs.holding.push_link.Goals as goal

pub returns-clause-bytes : goal.returns-clause-bytes
returns-clause-bytes g c =
    let P : Text → Type 0 = λ link. string_bytes c.push_str.new.self ≡ string_bytes c.args.out.now ++ link_lines c.args.place link in
    subst P (c.as_str-link.ensures.value ∙ c.in_ok-link.ensures.ok)
    (other_lines (string_bytes c.args.out.now) (string_bytes c.write.new.self) (string_bytes c.push_str.new.self) c.args.place c.as_str-link.result.now
    (sym c.is_web_link.ensures ∙ c.if-is_web_link.false) c.in_ok-write.ensures.bytes c.in_ok-push_str.ensures.bytes)
