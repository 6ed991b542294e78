-- Names of variables (RFC 6570, section 2.3). Their characters are ASCII, so they are also their bytes.
use Rattle.std.specs.Prelude.{◌≡◌, ℕ, ◌≤◌, Bool, true, ◌||◌, ◌==◌, List, [], ◌∷◌, ◌++◌, length}
use Rattle.std.specs.Char.{is_ascii_alphanumeric}
use Rattle.text_model.specs.Texts.{Text, is_triplet}
use Rattle.uri_grammar.specs.declared.names.TheConstants.{MAX_NAME_BYTES}
use Rattle.uri_grammar.specs.Characters.{dot, underscore}

-- ALPHA / DIGIT / "_"
abbrev pub is_name_character : ℕ → Bool
is_name_character c = is_ascii_alphanumeric c || c == underscore

-- varchar = ALPHA / DIGIT / "_" / pct-encoded
pub data IsVarchar : List ℕ → Type 0 where
  character_varchar : (c : ℕ) → is_name_character c ≡ true → IsVarchar (c ∷ [])
  triplet_varchar : (c high low : ℕ) → is_triplet c high low ≡ true → IsVarchar (c ∷ high ∷ low ∷ [])

-- varname = varchar *( ["."] varchar )
pub data IsVarname : List ℕ → Type 0 where
  first_varchar : (v : List ℕ) → IsVarchar v → IsVarname v
  next_varchar : (name v : List ℕ) → IsVarname name → IsVarchar v → IsVarname (name ++ v)
  dotted_varchar : (name v : List ℕ) → IsVarname name → IsVarchar v → IsVarname (name ++ dot ∷ v)

-- a varname that is short enough
abbrev pub IsName : Text → Type 0
IsName text = IsVarname text × (length text ≤ MAX_NAME_BYTES)

-- the longest varname at the beginning, and what follows it
pub record BeginsWithVarname (cs name after : List ℕ) : Type 0 where
  pub whole : cs ≡ name ++ after
  pub is_varname : IsVarname name
  pub longest : (other following : List ℕ) → cs ≡ other ++ following → IsVarname other → length other ≤ length name
