-- The expansion of a template (RFC 6570, section 3), as a function of its tree and a look-up.
use Rattle.std.specs.Prelude.{ℕ, zero, suc, List, [], ◌∷◌, ◌++◌, Option, Some, None, Bool, true, false, if◌then◌else◌, codes, map}
use Rattle.std.specs.List.{flat_map, filter_map}
use Rattle.text_model.specs.Texts.{Text}
use Rattle.text_model.specs.Writing.{written}
use Rattle.text_model.specs.Cut.{cut}
use Rattle.environment_model.specs.Environment.{Meaning, Single, Several, LookUp}
use Rattle.text_model.specs.declared.writing.Writing.{Writing}
use Rattle.text_model.specs.declared.writing.Writing.TheVariants.{U, UR}
use Rattle.uri_grammar.specs.declared.parts.Op.{Op}
use Rattle.uri_grammar.specs.declared.parts.Op.TheVariants as operator
use Rattle.uri_grammar.specs.declared.parts.Spec.{Spec}
use Rattle.uri_grammar.specs.declared.parts.Part.{Part}
use Rattle.uri_grammar.specs.declared.parts.Part.TheVariants.{Literal, Expression}

-- ---- the operators' table (RFC 6570, appendix A)

-- what comes before the first piece and before each later one, whether a value is written after its name, what comes after the name if the value is empty, and
-- how values are percent-encoded
pub record Style : Type 0 where
  pub first : Text
  pub sep : Text
  pub named : Bool
  pub ifemp : Text
  pub writing : Writing

abbrev pub style_of : Op → Style
style_of operator.Simple = record { first = []; sep = codes ","; named = false; ifemp = []; writing = U }
style_of operator.Plus = record { first = []; sep = codes ","; named = false; ifemp = []; writing = UR }
style_of operator.Hash = record { first = codes "#"; sep = codes ","; named = false; ifemp = []; writing = UR }
style_of operator.Dot = record { first = codes "."; sep = codes "."; named = false; ifemp = []; writing = U }
style_of operator.Slash = record { first = codes "/"; sep = codes "/"; named = false; ifemp = []; writing = U }
style_of operator.Semicolon = record { first = codes ";"; sep = codes ";"; named = true; ifemp = []; writing = U }
style_of operator.Question = record { first = codes "?"; sep = codes "&"; named = true; ifemp = codes "="; writing = U }
style_of operator.Ampersand = record { first = codes "&"; sep = codes "&"; named = true; ifemp = codes "="; writing = U }

-- ---- the piece of a variable (RFC 6570, section 3.2.1)

-- texts with a separator between them
abbrev pub joined_by : Text → List Text → Text
joined_by sep [] = []
joined_by sep (t ∷ texts) = t ++ flat_map (λ next. sep ++ next) texts

-- the equals sign and an encoded value, or what replaces both if the value is empty
abbrev pub equated : Style → Text → Text
equated style [] = style.ifemp
equated style (b ∷ t) = codes "=" ++ written style.writing (b ∷ t)

-- an encoded value, with its name if the operator writes names
abbrev pub item : Style → Text → Text → Text
item style name t = if style.named then (name ++ equated style t) else written style.writing t

-- the members joined by commas, after one name; or, exploded, each as an item of its own
abbrev pub list_piece : Style → Text → Bool → List Text → Text
list_piece style name false members = (if style.named then (name ++ codes "=") else []) ++ joined_by (codes ",") (map (written style.writing) members)
list_piece style name true members = joined_by style.sep (map (item style name) members)

-- the first n items of a value; 0 means no prefix
abbrev pub prefix : Writing → ℕ → Text → Text
prefix writing zero t = t
prefix writing (suc n) t = cut writing t (suc n)

-- a list without members is undefined, and so is a list if the variable has a prefix
abbrev pub several_piece : Style → Spec → ℕ → List Text → Option Text
several_piece style spec n [] = None
several_piece style spec zero (t ∷ members) = Some (list_piece style spec.name spec.explode (t ∷ members))
several_piece style spec (suc n) (t ∷ members) = None

-- the piece of a variable, from what its name denotes; none if it is undefined
abbrev pub piece : Style → Spec → Option Meaning → Option Text
piece style spec None = None
piece style spec (Some (Single t)) = Some (item style spec.name (prefix style.writing spec.cut t))
piece style spec (Some (Several members)) = several_piece style spec spec.cut members

-- ---- expressions and templates

-- the pieces of the variables that are defined
abbrev pub pieces : LookUp → Style → List Spec → List Text
pieces look style specs = filter_map (λ spec. piece style spec (look spec.name)) specs

-- the pieces after `first`, or nothing if there are no pieces
abbrev pub led : Style → List Text → Text
led style [] = []
led style (p ∷ ps) = style.first ++ joined_by style.sep (p ∷ ps)

abbrev pub part_text : LookUp → Part → Text
part_text look (Literal text) = text
part_text look (Expression op specs) = led (style_of op) (pieces look (style_of op) specs)

abbrev pub expansion : LookUp → List Part → Text
expansion look parts = flat_map (part_text look) parts
