-- What the reader's functions return. For private contracts.
use Rattle.std.specs.Prelude.{◌≡◌, ℕ, Bool, true, false, not, ◌&&◌, ◌==◌, nat_eq, List, [], ◌∷◌, length, Option, Some, None, ◌⊎◌, if◌then◌else◌}
use Rattle.uri_grammar.specs.declared.error.TemplateError.{TemplateError}
use Rattle.uri_grammar.specs.declared.error.TemplateErrorKind.{TemplateErrorKind}
use Rattle.uri_grammar.specs.declared.error.TheConstants.{NO_MEMORY}
use Rattle.uri_grammar.specs.declared.parts.Op.{Op}
use Rattle.uri_grammar.specs.declared.parts.Op.TheVariants as operator
use Rattle.uri_grammar.specs.declared.parts.Part.{Part}
use Rattle.uri_grammar.specs.declared.parts.Part.TheVariants.{Literal, Expression}
use Rattle.text_model.specs.Number.{digit_zero, value_from}
use Rattle.uri_grammar.specs.Characters.{open_brace, colon, asterisk}
use Rattle.uri_grammar.specs.Specs.{is_max_length}
use Rattle.uri_grammar.specs.Templates.{BeginsWithExpression}

-- the error is out of memory, or one of the text
abbrev pub IsFault : TemplateError → (TemplateErrorKind → ℕ → Type 0) → Type 0
IsFault e Fault = (e ≡ NO_MEMORY) ⊎ Fault e.kind e.at

-- one expression and nothing else
abbrev pub IsExpression : List ℕ → Part → Type 0
IsExpression cs (Literal text) = ⊥
IsExpression cs (Expression op specs) = BeginsWithExpression cs op specs []

-- an expression begins here, closed or not
abbrev pub begins_with_brace : List ℕ → Bool
begins_with_brace [] = false
begins_with_brace (c ∷ cs) = c == open_brace

-- the last part so far is not a literal
abbrev pub EndsWithNoLiteral : List Part → Type 0
EndsWithNoLiteral [] = Unit {0}
EndsWithNoLiteral (Literal text ∷ []) = ⊥
EndsWithNoLiteral (Expression op specs ∷ []) = Unit {0}
EndsWithNoLiteral (first ∷ second ∷ parts) = EndsWithNoLiteral (second ∷ parts)

-- the text begins with a digit other than 0
abbrev pub begins_above_zero : List ℕ → Bool
begins_above_zero [] = false
begins_above_zero (c ∷ cs) = not (c == digit_zero)

-- the number of a max-length
abbrev pub number_of : List ℕ → Option ℕ
number_of digits = if is_max_length digits then Some (value_from 0 digits) else None

-- the prefix of a modifier (0 for none), and whether it explodes
abbrev pub modifier_of : List ℕ → Option (ℕ × Bool)
modifier_of [] = Some (0, false)
modifier_of (c ∷ cs) =
    if c == asterisk && nat_eq (length cs) 0 then Some (0, true)
    else (if c == colon && is_max_length cs then Some (value_from 0 cs, false) else None)

-- the operator that a body begins with
abbrev pub operator_of : List ℕ → Op
operator_of [] = operator.Simple
operator_of (c ∷ cs) =
    if c == 43 then operator.Plus else (if c == 35 then operator.Hash else (if c == 46 then operator.Dot else (if c == 47 then operator.Slash
    else (if c == 59 then operator.Semicolon else (if c == 63 then operator.Question else (if c == 38 then operator.Ampersand
    else operator.Simple))))))
