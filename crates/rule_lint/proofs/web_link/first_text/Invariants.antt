-- The text so far, and the first text of the parts that are left.
use Rattle.std.proofs.Common.{◌≡◌, ◌++◌, drop, string_bytes}
use Rattle.rule_lint.specs.WebLink.{first_text}
use Rattle.rule_lint.proofs.web_link.first_text.Given as goal

abbrev pub invariant-loop-part : goal.invariant-loop-part
invariant-loop-part l = string_bytes l.out ++ first_text (drop l.part-index l.parts) ≡ first_text l.parts
