-- An expression is among the parts that are left, if there is one.
use Rattle.std.proofs.Common.{◌≡◌, drop}
use Rattle.rule_lint.specs.WebLink.{has_expression}
use Rattle.rule_lint.proofs.web_link.has_expression.Given as goal

abbrev pub invariant-loop-part : goal.invariant-loop-part
invariant-loop-part l = has_expression (drop l.part-index l.parts) ≡ has_expression l.parts
