-- What the readers of a line return: the value that a text has, or that it has none. For private contracts.
use Rattle.std.specs.Prelude.{◌≡◌, ◌≢◌, Option, Some, None}
use Rattle.std.specs.List.{AllByRecursion}
use Rattle.text_model.specs.Texts.{Text}
use Rattle.rule_parser.specs.declared.rule.Bound.{Bound}
use Rattle.rule_parser.specs.declared.rule.Guard.{Guard}
use Rattle.rule_parser.specs.Characters.{space}
use Rattle.rule_parser.specs.Rules.{IsBound, AreBounds, IsGuard}
use Rattle.rule_parser.specs.Statements.{quoted, escaped, bound_text, bounds_text, guard_text}

abbrev pub ReadsEscaped : Text → Option Text → Type 0
ReadsEscaped text None = (t : Text) → text ≡ escaped t → ⊥
ReadsEscaped text (Some t) = text ≡ escaped t

abbrev pub ReadsQuoted : Text → Option Text → Type 0
ReadsQuoted text None = (t : Text) → text ≡ quoted t → ⊥
ReadsQuoted text (Some t) = text ≡ quoted t

abbrev pub ReadsBound : Text → Option Bound → Type 0
ReadsBound text None = (b : Bound) → IsBound b → text ≡ bound_text b → ⊥
ReadsBound text (Some b) = IsBound b × (text ≡ bound_text b)

abbrev pub ReadsBounds : Text → Option (Bound × Bound) → Type 0
ReadsBounds text None = (low high : Bound) → AreBounds low high → text ≡ bounds_text low high → ⊥
ReadsBounds text (Some bounds) = AreBounds bounds.0 bounds.1 × (text ≡ bounds_text bounds.0 bounds.1)

abbrev pub ReadsGuard : Text → Option Guard → Type 0
ReadsGuard text None = (g : Guard) → IsGuard g → text ≡ guard_text g → ⊥
ReadsGuard text (Some g) = IsGuard g × (text ≡ guard_text g)

-- the text has no space
abbrev pub IsToken : Text → Type 0
IsToken text = AllByRecursion (λ b. b ≢ space) text
