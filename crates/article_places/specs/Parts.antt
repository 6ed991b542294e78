-- Parts of a text.
use Rattle.std.specs.Prelude.{◌≡◌, ℕ, ◌==◌, ◌||◌, ◌++◌, Bool, take, drop}
use Rattle.std.specs.Char.{is_ascii_alphanumeric}
use Rattle.text_model.specs.Texts.{Text}

-- some bytes of a text, from one of them on
abbrev pub IsPartOf : Text → Text → Type 0
IsPartOf text part = (start count : ℕ) × (part ≡ take count (drop start text))

-- the first bytes of a first page, and then a part of the text
pub record IsFromFirst (text first last : Text) : Type 0 where
  pub count : ℕ
  pub rest : Text
  pub is : IsPartOf text rest
  pub whole : last ≡ take count first ++ rest

-- a letter, a digit, or one of `-./`
abbrev pub is_place_byte : ℕ → Bool
is_place_byte b = is_ascii_alphanumeric b || b == 0x2d || b == 0x2e || b == 0x2f
