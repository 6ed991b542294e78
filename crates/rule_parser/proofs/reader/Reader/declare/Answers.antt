-- The name is a name and lists may come, or the line is faulty.
use Rattle.std.proofs.Common.{sym, ◌∙◌}
use Rattle.std.proofs.lemmas.Bool.{iff_false}
use Rattle.rule_parser.specs.Faults.{no_statement}
use Rattle.rule_parser.specs.Private.Progress.{so_far_of}
use Rattle.rule_parser.proofs.ReaderLemmas.{no_list, line_faulty, list_out_of_order, declares}
use Rattle.rule_parser.proofs.reader.Reader.declare.Goals as goal

pub returns-then-not-is_name-clause-err : goal.returns-then-not-is_name-clause-err
returns-then-not-is_name-clause-err c =
    line_faulty c.args.self.now _ _ _ _ c.new.ensures (no_statement _ _ (no_list _ (iff_false c.is_name.ensures c.if-not-is_name.true)))

pub returns-then-not-takes_lists-clause-err : goal.returns-then-not-takes_lists-clause-err
returns-then-not-takes_lists-clause-err c =
    line_faulty c.args.self.now _ _ _ _ c.new-then-not-takes_lists.ensures
    (list_out_of_order (so_far_of c.args.self.now) _ (c.is_name.ensures.0 c.if-not-is_name.false) (sym c.takes_lists.ensures ∙ c.if-not-takes_lists.true))

pub returns-clause-ok : goal.returns-clause-ok
returns-clause-ok c =
    rw (c.in_ok-push.ensures.items, c.in_ok-copy.ensures)
    (declares _ _ c.args.self.now.rule_line c.args.self.now.guards.items _ (sym c.takes_lists.ensures ∙ c.if-not-takes_lists.false)
    (c.is_name.ensures.0 c.if-not-is_name.false) c.requires)
