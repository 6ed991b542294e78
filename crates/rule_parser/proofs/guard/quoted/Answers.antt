-- The text between the quotes, escaped.
use Rattle.std.proofs.Common.{None, Some, lit<}
use Rattle.std.proofs.lemmas.Str.Pattern.{strip_prefix_char, strip_suffix_char}
use Rattle.rule_parser.proofs.GuardLemmas.{not_quoted, quoted_result}
use Rattle.rule_parser.proofs.guard.quoted.Goals as goal

pub returns-in_default : goal.returns-in_default
returns-in_default c = not_quoted _ (strip_prefix_char 34 _ None c.in_default.ensures.cases (lit< tt))

pub returns-in-Some-strip_suffix : goal.returns-in-Some-strip_suffix
returns-in-Some-strip_suffix c =
    quoted_result _ _ _ _ (strip_prefix_char 34 _ (Some c.in-Some.rest) c.in-Some.ensures.cases (lit< tt))
    (strip_suffix_char 34 _ (Some c.in-Some-strip_suffix.escaped) c.in-Some-strip_suffix.ensures.cases (lit< tt)) c.unescaped.ensures
