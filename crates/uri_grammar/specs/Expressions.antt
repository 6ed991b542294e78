-- What is written between braces (RFC 6570, sections 2.2 and 2.3).
use Rattle.std.specs.Prelude.{◌≡◌, ℕ, Bool, false, nat_eq, List, [], ◌∷◌, ◌++◌, codes}
use Rattle.std.specs.List.{list_any}
use Rattle.uri_grammar.specs.declared.parts.Op.{Op}
use Rattle.uri_grammar.specs.declared.parts.Op.TheVariants as operator
use Rattle.uri_grammar.specs.declared.parts.Spec.{Spec}
use Rattle.uri_grammar.specs.Characters.{comma}
use Rattle.uri_grammar.specs.Specs.{SpellsSpecs}

-- operator = op-level2 / op-level3, or none
abbrev pub operator_text : Op → List ℕ
operator_text operator.Simple = []
operator_text operator.Plus = codes "+"
operator_text operator.Hash = codes "#"
operator_text operator.Dot = codes "."
operator_text operator.Slash = codes "/"
operator_text operator.Semicolon = codes ";"
operator_text operator.Question = codes "?"
operator_text operator.Ampersand = codes "&"

abbrev pub begins_with_operator : List ℕ → Bool
begins_with_operator [] = false
begins_with_operator (c ∷ cs) = list_any (nat_eq c) (codes "+#./;?&")

-- op-reserve = "=" / "," / "!" / "@" / "|"
abbrev pub begins_with_reserved : List ℕ → Bool
begins_with_reserved [] = false
begins_with_reserved (c ∷ cs) = list_any (nat_eq c) (codes "=,!@|")

-- [ operator ] and the list of specs after it
pub record HasOperator (body : List ℕ) (op : Op) (list : List ℕ) : Type 0 where
  pub whole : body ≡ operator_text op ++ list
  pub not_reserved : begins_with_reserved body ≡ false
  pub chosen : op ≡ operator.Simple → begins_with_operator body ≡ false

-- [ operator ] variable-list, with variable-list = varspec *( "," varspec )
abbrev pub IsBody : List ℕ → Op → List Spec → Type 0
IsBody body op specs = (list : List ℕ) × HasOperator body op list × SpellsSpecs (list ++ comma ∷ []) specs
