-- The link is in order, a template, and fits, or the line is faulty.
use Rattle.std.proofs.Common.{sym, ◌∙◌, ap}
use Rattle.rule_parser.specs.Faults.{mismatched_link}
use Rattle.rule_parser.specs.Private.Progress.{so_far_of}
use Rattle.rule_parser.proofs.ReaderLemmas.{line_faulty, link_out_of_order, template_faulty, links}
use Rattle.rule_parser.proofs.reader.Reader.add_link.Goals as goal

pub returns-then-not-is_in_rule-clause-err : goal.returns-then-not-is_in_rule-clause-err
returns-then-not-is_in_rule-clause-err c =
    line_faulty c.args.self.now _ _ _ _ c.new.ensures (link_out_of_order (so_far_of c.args.self.now) _ (sym c.is_in_rule.ensures ∙ c.if-not-is_in_rule.true))

pub returns-in-Err-clause-err : goal.returns-in-Err-clause-err
returns-in-Err-clause-err c =
    template_faulty c.args.self.now _ _ _ _ (sym c.is_in_rule.ensures ∙ c.if-not-is_in_rule.false) c.in-Err.ensures.err c.in_template.ensures.no_memory
    c.in_template.ensures.fault

pub returns-then-not-parts_fit-clause-err : goal.returns-then-not-parts_fit-clause-err
returns-then-not-parts_fit-clause-err c =
    let unfit = rw (c.deref.ensures.value, c.parts.ensures.parts) at (sym c.parts_fit.ensures ∙ c.if-not-parts_fit.true) in
    line_faulty c.args.self.now _ _ _ _ c.new-then-not-parts_fit.ensures
    (mismatched_link (so_far_of c.args.self.now) _ _ (sym c.is_in_rule.ensures ∙ c.if-not-is_in_rule.false) c.in-Ok.ensures.ok unfit)

pub returns-clause-ok : goal.returns-clause-ok
returns-clause-ok c =
    let fits = rw (c.deref.ensures.value, c.parts.ensures.parts) at (sym c.parts_fit.ensures ∙ c.if-not-parts_fit.false) in
    let guards = c.new-3.ensures ∙ ap (λ v. v.items) c.replace-guards.ensures.value in
    rw (c.in_ok-push.ensures.items, guards, ← c.in-Ok.ensures.text)
    (links _ _ c.args.self.now.rule_line (record { guards = c.args.self.now.guards.items; template = c.in-Ok.template })
    (sym c.is_in_rule.ensures ∙ c.if-not-is_in_rule.false) c.parts.ensures.spelled fits c.requires)
