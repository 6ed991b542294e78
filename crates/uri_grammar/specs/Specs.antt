-- Specs: a variable's name and its modifier (RFC 6570, sections 2.3 and 2.4).
use Rattle.std.specs.Prelude.{◌≡◌, ◌≢◌, ℕ, Bool, true, false, not, ◌&&◌, ◌==◌, nat_le, List, [], ◌∷◌, ◌++◌, All}
use Rattle.std.specs.List.{list_all}
use Rattle.std.specs.Char.{is_ascii_digit}
use Rattle.text_model.specs.Number.{digit_zero, value_from}
use Rattle.uri_grammar.specs.declared.parts.Spec.{Spec}
use Rattle.uri_grammar.specs.declared.variables.TheConstants.{MAX_PREFIX}
use Rattle.uri_grammar.specs.Characters.{comma, colon, asterisk}
use Rattle.uri_grammar.specs.Names.{IsName}

-- max-length = %x31-39 0*3DIGIT: decimal digits, the first not 0, of a number up to the largest prefix
abbrev pub is_max_length : List ℕ → Bool
is_max_length [] = false
is_max_length (c ∷ digits) =
    not (c == digit_zero) && (list_all is_ascii_digit (c ∷ digits) && nat_le (value_from 0 (c ∷ digits)) MAX_PREFIX)

-- [ prefix / explode ], with prefix = ":" max-length and explode = "*": the text, the cut (0 for none), and whether it explodes
pub data IsModifier : List ℕ → ℕ → Bool → Type 0 where
  no_modifier : IsModifier [] 0 false
  explode_modifier : IsModifier (asterisk ∷ []) 0 true
  prefix_modifier : (digits : List ℕ) → is_max_length digits ≡ true → IsModifier (colon ∷ digits) (value_from 0 digits) false

-- varspec = varname [ modifier-level4 ]
pub record IsSpec (cs : List ℕ) (spec : Spec) : Type 0 where
  pub after : List ℕ
  pub whole : cs ≡ spec.name ++ after
  pub is_name : IsName spec.name
  pub modified : IsModifier after spec.cut spec.explode

-- the character is not in the text
abbrev pub Lacks : ℕ → List ℕ → Type 0
Lacks c cs = All (λ x. x ≢ c) cs

-- a spec up to the first comma, and the rest after the comma
pub record BeginsWithSpec (cs : List ℕ) (spec : Spec) (rest : List ℕ) : Type 0 where
  pub piece : List ℕ
  pub whole : cs ≡ piece ++ comma ∷ rest
  pub lacks : Lacks comma piece
  pub is_spec : IsSpec piece spec

-- specs, each with a comma after it
abbrev pub SpellsSpecs : List ℕ → List Spec → Type 0
SpellsSpecs cs [] = cs ≡ []
SpellsSpecs cs (spec ∷ specs) = (rest : List ℕ) × BeginsWithSpec cs spec rest × SpellsSpecs rest specs
