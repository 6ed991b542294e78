-- How far the lines of a rule text have been read. For private contracts.
use Rattle.std.specs.Prelude.{◌≡◌, ℕ, [], ◌∷◌, ◌++◌, Some, None, IfSome, length, ◌⊎◌}
use Rattle.std.specs.Option.{option_map}
use Rattle.text_model.specs.Texts.{Text}
use Rattle.rule_parser.specs.declared.error.RuleError.{RuleError}
use Rattle.rule_parser.specs.declared.error.RuleErrorKind.TheVariants.{NoLink}
use Rattle.rule_parser.specs.declared.error.TheConstants.{NO_MEMORY}
use Rattle.rule_parser.specs.declared.reader.Reader.{Reader}
use Rattle.rule_parser.specs.Statements.{Statement, Begin, line_of, statements}
use Rattle.rule_parser.specs.Faults.{RulesSoFar, AreSoundSoFar, IsLineFault, statements_so_far}

abbrev pub no_rules : RulesSoFar
no_rules = record { whole = record { lists = []; rules = [] }; guards = None }

abbrev pub so_far_of : Reader → RulesSoFar
so_far_of r = record { whole = record { lists = r.lists.items; rules = r.rules.items }; guards = option_map (λ line. r.guards.items) r.rule_line }

-- one more line has been read, with one more statement
pub record Continues (old new : RulesSoFar) (line : Text) : Type 0 where
  pub statement : Statement
  pub spelled : line ≡ line_of statement
  pub longer : statements_so_far new ≡ statements_so_far old ++ statement ∷ []
  pub sound : AreSoundSoFar new

-- the rule whose link has not been read yet has the number of its line, if statements are numbered by this function
abbrev pub IsNumbered : (ℕ → ℕ) → Reader → Type 0
IsNumbered number_of r = IfSome r.rule_line (λ line. line ≡ number_of (length (statements (so_far_of r).whole)))

-- Whatever the numbering of statements, if the next one has this number, the rule keeps the number of its line.
abbrev pub KeepsLine : Reader → Reader → ℕ → Type 0
KeepsLine old new number =
    (number_of : ℕ → ℕ) → number_of (length (statements_so_far (so_far_of old))) ≡ number → IsNumbered number_of old → IsNumbered number_of new

-- the line with this number cannot continue
abbrev pub IsStepFault : Reader → ℕ → Text → RuleError → Type 0
IsStepFault reader number line e =
    (e ≡ NO_MEMORY) ⊎ (IsLineFault (so_far_of reader) line e.kind × (e.line ≡ number))
    ⊎ ((e.kind ≡ NoLink) × (line ≡ line_of Begin) × (reader.rule_line ≡ Some e.line))
