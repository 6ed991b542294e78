-- The tokens are a guard that is in order and fits, or the line is faulty.
use Rattle.std.proofs.Common.{sym, ◌∙◌}
use Rattle.rule_parser.specs.Faults.{no_statement}
use Rattle.rule_parser.specs.Private.Progress.{so_far_of}
use Rattle.rule_parser.proofs.ReaderLemmas.{no_when, line_faulty, when_out_of_order, guard_mismatched, guards_more}
use Rattle.rule_parser.proofs.reader.Reader.add_guard.Goals as goal

pub returns-in_default-clause-err : goal.returns-in_default-clause-err
returns-in_default-clause-err c =
    line_faulty c.args.self.now _ _ _ _ c.new-in_default.ensures (no_statement _ _ (no_when _ (rw c.in_default.is at c.in_ok-guard.ensures)))

pub returns-then-not-is_in_rule-clause-err : goal.returns-then-not-is_in_rule-clause-err
returns-then-not-is_in_rule-clause-err c =
    line_faulty c.args.self.now _ _ _ _ c.new.ensures
    (when_out_of_order (so_far_of c.args.self.now) _ (sym c.is_in_rule.ensures ∙ c.if-not-is_in_rule.true))

pub returns-then-not-guard_fits-clause-err : goal.returns-then-not-guard_fits-clause-err
returns-then-not-guard_fits-clause-err c =
    line_faulty c.args.self.now _ _ _ _ c.new-then-not-guard_fits.ensures
    (guard_mismatched (so_far_of c.args.self.now) _ _ (rw c.in-Some.is at c.in_ok-guard.ensures) (sym c.is_in_rule.ensures ∙ c.if-not-is_in_rule.false)
    (rw c.deref.ensures.value at (sym c.guard_fits.ensures ∙ c.if-not-guard_fits.true)))

pub returns-clause-ok : goal.returns-clause-ok
returns-clause-ok c =
    let reads = rw c.in-Some.is at c.in_ok-guard.ensures in
    let fits = rw c.deref.ensures.value at (sym c.guard_fits.ensures ∙ c.if-not-guard_fits.false) in
    rw (c.in_ok-push.ensures.items, reads.1)
    (guards_more _ _ c.args.self.now.rule_line _ _ (sym c.is_in_rule.ensures ∙ c.if-not-is_in_rule.false) (record { tokens = reads.0; kinds = fits })
    c.requires)
