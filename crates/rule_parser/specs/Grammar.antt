-- Which bytes are the text of which rules.
use Rattle.std.specs.Prelude.{◌≡◌, ◌≤◌, List, [], ◌∷◌, Bool, false, not, ◌==◌, filter, map, length, IsUtf8}
use Rattle.std.specs.Str.Lines.{lines}
use Rattle.text_model.specs.Texts.{Text}
use Rattle.rule_parser.specs.declared.rules.TheConstants.{MAX_BYTES}
use Rattle.rule_parser.specs.Characters.{number_sign}
use Rattle.rule_parser.specs.Rules.{RuleSet, IsSound}
use Rattle.rule_parser.specs.Statements.{line_of, statements}

-- neither empty nor a comment
abbrev pub is_significant : Text → Bool
is_significant [] = false
is_significant (b ∷ line) = not (b == number_sign)

abbrev pub significant : List Text → List Text
significant ls = filter is_significant ls

-- The lines of the text, without its comments, are those of the rules. A line ends with LF, and a CR before it is dropped; the last LF may be missing.
pub record IsRuleText (bytes : Text) (rules : RuleSet) : Type 0 where
  pub short : length bytes ≤ MAX_BYTES
  pub utf8 : IsUtf8 bytes
  pub spelled : significant (lines bytes) ≡ map line_of (statements rules)
  pub sound : IsSound rules
