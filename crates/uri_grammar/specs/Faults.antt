-- The first error of a text that is not a template: parts that can be read, and then a text that no part begins with. All characters of an expression before
-- its error are ASCII, so places within it count bytes.
use Rattle.std.specs.Prelude.{◌≡◌, ◌≢◌, ℕ, ◌+◌, ◌<◌, Bool, true, false, ◌||◌, ◌==◌, List, [], ◌∷◌, ◌++◌, length, encode_utf8_all, ◌⊎◌, ◌≤◌}
use Rattle.uri_grammar.specs.declared.error.TemplateErrorKind.{TemplateErrorKind}
use Rattle.uri_grammar.specs.declared.error.TemplateErrorKind.TheVariants as kind
use Rattle.uri_grammar.specs.declared.parts.Op.{Op}
use Rattle.uri_grammar.specs.declared.parts.Part.{Part}
use Rattle.uri_grammar.specs.declared.parts.Spec.{Spec}
use Rattle.uri_grammar.specs.declared.names.TheConstants.{MAX_NAME_BYTES}
use Rattle.uri_grammar.specs.Characters.{open_brace, close_brace, comma, colon, asterisk}
use Rattle.uri_grammar.specs.Literals.{begins_with_literal}
use Rattle.uri_grammar.specs.Names.{BeginsWithVarname}
use Rattle.uri_grammar.specs.Specs.{IsModifier, Lacks, SpellsSpecs}
use Rattle.uri_grammar.specs.Expressions.{operator_text, begins_with_reserved, HasOperator}
use Rattle.uri_grammar.specs.Templates.{Spells}

-- ---- specs

-- a prefix or an explode begins here, well formed or not
abbrev pub begins_with_modifier : List ℕ → Bool
begins_with_modifier [] = false
begins_with_modifier (c ∷ cs) = c == colon || c == asterisk

-- the longest varname at the beginning is a name, and is followed by nothing or by the beginning of a modifier
pub record IsNamed (cs name after : List ℕ) : Type 0 where
  pub begins : BeginsWithVarname cs name after
  pub short : length name ≤ MAX_NAME_BYTES
  pub follows : (after ≡ []) ⊎ (begins_with_modifier after ≡ true)

-- what is wrong with a text that is not a spec, and where in it
pub data IsSpecFault : List ℕ → TemplateErrorKind → ℕ → Type 0 where
  bad_name : (cs : List ℕ) → ((name after : List ℕ) → IsNamed cs name after → ⊥) → IsSpecFault cs kind.BadName 0
  bad_modifier : (cs name after : List ℕ) → IsNamed cs name after → ((n : ℕ) (explode : Bool) → IsModifier after n explode → ⊥)
      → IsSpecFault cs kind.BadModifier (length name)

-- specs, and then a text up to a comma that is not a spec: what is wrong with it, and where in the list
pub record IsListFault (list : List ℕ) (k : TemplateErrorKind) (at : ℕ) : Type 0 where
  pub front : List ℕ
  pub specs : List Spec
  pub piece : List ℕ
  pub after : List ℕ
  pub distance : ℕ
  pub whole : list ++ comma ∷ [] ≡ front ++ (piece ++ comma ∷ after)
  pub spelled : SpellsSpecs front specs
  pub lacks : Lacks comma piece
  pub fault : IsSpecFault piece k distance
  pub place : at ≡ length front + distance

-- ---- expressions

-- what is wrong with a body that is not empty, and where in it
pub data IsBodyFault : List ℕ → TemplateErrorKind → ℕ → Type 0 where
  reserved_operator : (body : List ℕ) → begins_with_reserved body ≡ true → IsBodyFault body kind.ReservedOperator 0
  bad_list : (body : List ℕ) (op : Op) (list : List ℕ) (k : TemplateErrorKind) (d : ℕ) → HasOperator body op list → IsListFault list k d
      → IsBodyFault body k (length (operator_text op) + d)

-- ---- templates

-- a text that no part begins with: what is wrong, and how far from the beginning
pub data IsPartFault : List ℕ → TemplateErrorKind → ℕ → Type 0 where
  bad_literal : (c : ℕ) (rest : List ℕ) → begins_with_literal (c ∷ rest) ≡ false → c ≢ open_brace → IsPartFault (c ∷ rest) kind.BadLiteral 0
  unclosed : (rest : List ℕ) → Lacks close_brace rest → IsPartFault (open_brace ∷ rest) kind.Unclosed 0
  empty_expression : (rest : List ℕ) → IsPartFault (open_brace ∷ close_brace ∷ rest) kind.EmptyExpression 0
  bad_expression : (body rest : List ℕ) (k : TemplateErrorKind) (d : ℕ) → 0 < length body → Lacks close_brace body → IsBodyFault body k d
      → IsPartFault (open_brace ∷ body ++ close_brace ∷ rest) k (1 + d)

-- parts, and then a text that no part begins with: what is wrong with it, and at which byte of the whole text
pub record IsFirstFault (cs : List ℕ) (k : TemplateErrorKind) (at : ℕ) : Type 0 where
  pub front : List ℕ
  pub parts : List Part
  pub rest : List ℕ
  pub distance : ℕ
  pub whole : cs ≡ front ++ rest
  pub spelled : Spells front parts
  pub fault : IsPartFault rest k distance
  pub place : at ≡ length (encode_utf8_all front) + distance
