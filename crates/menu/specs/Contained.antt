-- When a text cannot break out of its place in HTML, whatever is around it (HTML Living Standard, sections 13.1.2 and 13.1.4).
use Rattle.std.specs.Prelude.{◌≡◌, ℕ, ◌≤◌, ◌==◌, Bool, true, false, ◌||◌, nat_eq, codes, ◌∷◌, ◌++◌, length, All, ◌⊎◌}
use Rattle.std.specs.List.{list_any}
use Rattle.std.specs.Char.{is_ascii_alphanumeric}
use Rattle.text_model.specs.Texts.{Text}
use Rattle.menu.specs.Escaping.{ampersand, ampersand_reference, apostrophe_reference}

-- a character that can end the value of an attribute, or begin or end a tag
abbrev pub is_delimiter : ℕ → Bool
is_delimiter b = list_any (nat_eq b) (codes "\"'<>")

-- the text begins with these bytes
abbrev pub BeginsWith : Text → Text → Type 0
BeginsWith front text = (rest : Text) × (text ≡ front ++ rest)

-- no delimiter, and no ampersand except at the beginning of one of the two references
pub record IsContained (text : Text) : Type 0 where
  pub no_delimiter : All (λ b. is_delimiter b ≡ false) text
  pub references : (before following : Text) → text ≡ before ++ (ampersand ∷ following) → BeginsWith ampersand_reference (ampersand ∷ following)
      ⊎ BeginsWith apostrophe_reference (ampersand ∷ following)

-- ---- names of targets

-- a delimiter, or the ampersand
abbrev pub is_markup : ℕ → Bool
is_markup b = is_delimiter b || b == ampersand

-- a letter, a digit, or one of `-_.`
abbrev pub is_target_name_character : ℕ → Bool
is_target_name_character b = is_ascii_alphanumeric b || list_any (nat_eq b) (codes "-_.")

-- 1 to 64 of these characters
pub record IsTargetName (name : Text) : Type 0 where
  pub some : 1 ≤ length name
  pub few : length name ≤ 64
  pub characters : All (λ b. is_target_name_character b ≡ true) name
