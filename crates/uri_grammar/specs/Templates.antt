-- Templates (RFC 6570, section 2): which characters are the text of which parts.
use Rattle.std.specs.Prelude.{◌≡◌, ℕ, ◌<◌, List, [], ◌∷◌, ◌++◌, length, encode_utf8_all}
use Rattle.text_model.specs.Texts.{Text}
use Rattle.text_model.specs.Writing.{written_ur}
use Rattle.uri_grammar.specs.declared.parts.Op.{Op}
use Rattle.uri_grammar.specs.declared.parts.Spec.{Spec}
use Rattle.uri_grammar.specs.declared.parts.Part.{Part}
use Rattle.uri_grammar.specs.declared.parts.Part.TheVariants.{Literal, Expression}
use Rattle.uri_grammar.specs.Characters.{open_brace, close_brace}
use Rattle.uri_grammar.specs.Literals.{AreLiterals}
use Rattle.uri_grammar.specs.Specs.{Lacks}
use Rattle.uri_grammar.specs.Expressions.{IsBody}

-- the next part is not a literal
abbrev pub BeginsNoLiteral : List Part → Type 0
BeginsNoLiteral [] = Unit {0}
BeginsNoLiteral (Literal text ∷ parts) = ⊥
BeginsNoLiteral (Expression op specs ∷ parts) = Unit {0}

-- literals at the beginning, as they are written in a link, and the rest after them
pub record BeginsWithLiterals (cs : List ℕ) (text : Text) (rest : List ℕ) : Type 0 where
  pub raw : List ℕ
  pub whole : cs ≡ raw ++ rest
  pub some : 0 < length raw
  pub are_literals : AreLiterals raw
  pub is_written : text ≡ written_ur (encode_utf8_all raw)

-- expression = "{" [ operator ] variable-list "}", up to the first closing brace, and the rest after it
pub record BeginsWithExpression (cs : List ℕ) (op : Op) (specs : List Spec) (rest : List ℕ) : Type 0 where
  pub body : List ℕ
  pub whole : cs ≡ open_brace ∷ body ++ close_brace ∷ rest
  pub lacks : Lacks close_brace body
  pub is_body : IsBody body op specs

-- URI-Template = *( literals / expression ). No literal is next to another, so each is as long as possible.
abbrev pub Spells : List ℕ → List Part → Type 0
Spells cs [] = cs ≡ []
Spells cs (Literal text ∷ parts) = (rest : List ℕ) × BeginsWithLiterals cs text rest × BeginsNoLiteral parts × Spells rest parts
Spells cs (Expression op specs ∷ parts) = (rest : List ℕ) × BeginsWithExpression cs op specs rest × Spells rest parts
