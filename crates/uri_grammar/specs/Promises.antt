-- What holds for every tree of the grammar.
use Rattle.std.specs.Prelude.{◌≡◌, ◌<◌, ◌≤◌, true, length, All}
use Rattle.text_model.specs.UriText.{IsUriText}
use Rattle.uri_grammar.specs.declared.parts.Part.{Part}
use Rattle.uri_grammar.specs.declared.parts.Part.TheVariants.{Literal, Expression}
use Rattle.uri_grammar.specs.declared.parts.Spec.{Spec}
use Rattle.uri_grammar.specs.declared.variables.TheConstants.{MAX_PREFIX}
use Rattle.uri_grammar.specs.Names.{IsName}

-- a name of the grammar, at most one modifier, and a cut up to the largest prefix (0 for none)
pub record IsSoundSpec (spec : Spec) : Type 0 where
  pub is_name : IsName spec.name
  pub uri_text : IsUriText spec.name
  pub cut : spec.cut ≤ MAX_PREFIX
  pub uncut : spec.explode ≡ true → spec.cut ≡ 0

-- a literal is a URI text; an expression has a spec, and each is sound
abbrev pub IsSoundPart : Part → Type 0
IsSoundPart (Literal text) = IsUriText text
IsSoundPart (Expression op specs) = (0 < length specs) × All IsSoundSpec specs
