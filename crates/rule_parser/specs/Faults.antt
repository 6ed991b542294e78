-- The first error of bytes that are not a rule text: lines that begin a set of rules, and then a line that cannot continue it.
use Rattle.std.specs.Prelude.{◌≡◌, ℕ, ◌+◌, ◌<◌, ◌≤◌, List, [], ◌∷◌, ◌++◌, Bool, true, false, Option, Some, None, is_some, is_none, ◌&&◌, ◌==◌, map, length, All}
use Rattle.std.specs.Prelude.{IsUtf8, ◌⊎◌}
use Rattle.std.specs.Str.Lines.{lines}
use Rattle.text_model.specs.Texts.{Text}
use Rattle.uri_grammar.specs.declared.parts.Part.{Part}
use Rattle.uri_grammar.specs.declared.error.TemplateErrorKind.{TemplateErrorKind}
use Rattle.uri_grammar.specs.Texts.{IsTemplate, IsRefusedTemplate}
use Rattle.rule_parser.specs.declared.error.RuleErrorKind.{RuleErrorKind}
use Rattle.rule_parser.specs.declared.error.RuleErrorKind.TheVariants as kind
use Rattle.rule_parser.specs.declared.rule.Guard.{Guard}
use Rattle.rule_parser.specs.Rules.{RuleSet, IsGuard, IsSound, IsSoundGuard, guard_fits, parts_fit}
use Rattle.rule_parser.specs.Statements.{Statement, Declare, Begin, When, Link, IsStatement, line_of, statements}
use Rattle.rule_parser.specs.declared.rules.TheConstants.{MAX_BYTES}
use Rattle.rule_parser.specs.Grammar.{is_significant, significant}

-- Complete rules and, if one more rule has begun, its guards; its link has not been read yet.
pub record RulesSoFar : Type 0 where
  pub whole : RuleSet
  pub guards : Option (List Guard)

-- the statements of a rule whose link has not been read yet
abbrev pub statements_of_guards : Option (List Guard) → List Statement
statements_of_guards None = []
statements_of_guards (Some guards) = Begin ∷ map When guards

abbrev pub statements_so_far : RulesSoFar → List Statement
statements_so_far started = statements started.whole ++ statements_of_guards started.guards

abbrev pub AreSoundGuards : List Text → Option (List Guard) → Type 0
AreSoundGuards lists None = Unit {0}
AreSoundGuards lists (Some guards) = All (IsSoundGuard lists) guards

pub record AreSoundSoFar (started : RulesSoFar) : Type 0 where
  pub whole : IsSound started.whole
  pub guards : AreSoundGuards started.whole.lists started.guards

-- ---- a line that cannot continue

-- lists come before all rules
abbrev pub takes_lists : RulesSoFar → Bool
takes_lists started = is_none started.guards && length started.whole.rules == 0

-- guards and a link belong in a rule; a rule line that comes too early means that the rule before it has no link
abbrev pub is_in_order : RulesSoFar → Statement → Bool
is_in_order started (Declare name) = takes_lists started
is_in_order started Begin = true
is_in_order started (When g) = is_some started.guards
is_in_order started (Link text) = is_some started.guards

-- what is wrong with a line
pub data IsLineFault : RulesSoFar → Text → RuleErrorKind → Type 0 where
  no_statement : (started : RulesSoFar) (line : Text) → ((s : Statement) → IsStatement s → line ≡ line_of s → ⊥) → IsLineFault started line kind.BadLine
  out_of_order : (started : RulesSoFar) (s : Statement) → IsStatement s → is_in_order started s ≡ false → IsLineFault started (line_of s) kind.BadLine
  bad_template : (started : RulesSoFar) (text : Text) (k : TemplateErrorKind) (at : ℕ) → is_in_order started (Link text) ≡ true → IsRefusedTemplate text k at
      → IsLineFault started (line_of (Link text)) (kind.Template k)
  mismatched_guard : (started : RulesSoFar) (g : Guard) → is_in_order started (When g) ≡ true → IsGuard g → guard_fits started.whole.lists g ≡ false
      → IsLineFault started (line_of (When g)) kind.KindMismatch
  mismatched_link : (started : RulesSoFar) (text : Text) (parts : List Part) → is_in_order started (Link text) ≡ true → IsTemplate text parts
      → parts_fit started.whole.lists parts ≡ false → IsLineFault started (line_of (Link text)) kind.KindMismatch

-- ---- the first error

-- a line that cannot continue with those before it
pub record StopsAtLine (ls : List Text) (k : RuleErrorKind) (number : ℕ) : Type 0 where
  pub before : List Text
  pub line : Text
  pub following : List Text
  pub started : RulesSoFar
  pub whole : ls ≡ before ++ line ∷ following
  pub counted : number ≡ length before + 1
  pub spelled : significant before ≡ map line_of (statements_so_far started)
  pub sound : AreSoundSoFar started
  pub is_no_comment : is_significant line ≡ true
  pub faulty : IsLineFault started line k

-- the next rule begins, or no more lines follow
abbrev pub EndsRule : List Text → Type 0
EndsRule [] = Unit {0}
EndsRule (line ∷ ls) = line ≡ line_of Begin

-- a rule that ends without a link; the number is that of the line of the rule
pub record LacksLink (ls : List Text) (k : RuleErrorKind) (number : ℕ) : Type 0 where
  pub before : List Text
  pub following : List Text
  pub rules : RuleSet
  pub guards : List Guard
  pub rest : List Text
  pub whole : ls ≡ before ++ line_of Begin ∷ following
  pub counted : number ≡ length before + 1
  pub spelled : significant before ≡ map line_of (statements rules)
  pub guarded : significant following ≡ map line_of (map When guards) ++ rest
  pub ends : EndsRule rest
  pub sound : AreSoundSoFar (record { whole = rules; guards = Some guards })
  pub no_link : k ≡ kind.NoLink

abbrev pub IsFirstRuleError : List Text → RuleErrorKind → ℕ → Type 0
IsFirstRuleError ls k number = StopsAtLine ls k number ⊎ LacksLink ls k number

-- the bytes are not a rule text: what is wrong with them, and the number of the line, from 1; 0 if the error belongs to no line
abbrev pub IsRefused : Text → RuleErrorKind → ℕ → Type 0
IsRefused bytes k number =
    ((MAX_BYTES < length bytes) × (k ≡ kind.TooLong) × (number ≡ 0))
    ⊎ ((length bytes ≤ MAX_BYTES) × (IsUtf8 bytes → ⊥) × (k ≡ kind.NotUtf8) × (number ≡ 0))
    ⊎ ((length bytes ≤ MAX_BYTES) × IsUtf8 bytes × IsFirstRuleError (lines bytes) k number)
