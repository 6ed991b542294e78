-- The bound's name is appended, unless it came before.
use Rattle.std.proofs.Common.{sym, ◌∙◌}
use Rattle.rule_parser.proofs.MentionLemmas.{bound_added, bound_known}
use Rattle.rule_parser.proofs.mentions.add_bound.Goals as goal

pub returns-in_ok-push : goal.returns-in_ok-push
returns-in_ok-push c = λ before once.
    bound_added c.args.names.now.items c.push.new.self.items c.args.bound.now _ c.as_str-name.result before c.in-Name.is c.as_str-name.ensures once
    (rw c.deref.ensures.value at (sym c.contains.ensures.value ∙ c.if-not-contains.true)) c.in_ok-push.ensures.items

pub returns-else-not-contains : goal.returns-else-not-contains
returns-else-not-contains c = λ before once.
    bound_known c.args.names.now.items c.args.bound.now _ c.as_str-name.result before c.in-Name.is c.as_str-name.ensures once
    (rw c.deref.ensures.value at (sym c.contains.ensures.value ∙ c.if-not-contains.false))
