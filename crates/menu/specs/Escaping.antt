-- How a link is written into the value of an attribute between quotation marks, and what is read there
-- (HTML Living Standard, sections 13.1.2.3 and 13.1.4).
use Rattle.std.specs.Prelude.{◌≢◌, ℕ, ◌<◌, ◌==◌, [], ◌∷◌, ◌++◌, codes, if◌then◌else◌, length, get_or}
use Rattle.std.specs.List.{flat_map}
use Rattle.text_model.specs.Texts.{Text}

-- `&`, which begins a character reference
abbrev pub ampersand : ℕ
ampersand = 0x26

-- `'`
abbrev pub apostrophe : ℕ
apostrophe = 0x27

abbrev pub ampersand_reference : Text
ampersand_reference = codes "&amp;"

abbrev pub apostrophe_reference : Text
apostrophe_reference = codes "&#39;"

-- the ampersand and the apostrophe as references, and any other byte unchanged
abbrev pub escaped_byte : ℕ → Text
escaped_byte b = if b == ampersand then ampersand_reference else (if b == apostrophe then apostrophe_reference else (b ∷ []))

abbrev pub escaped : Text → Text
escaped link = flat_map escaped_byte link

-- the byte does not occur in the text
abbrev pub HasNone : ℕ → Text → Type 0
HasNone byte t = (i : ℕ) → i < length t → get_or t i 0 ≢ byte

-- how a reader of HTML reads a text with these two references: each reference is one character
pub data IsReadAs : Text → Text → Type 0 where
  read_nothing : IsReadAs [] []
  read_ampersand : (t u : Text) → IsReadAs t u → IsReadAs (ampersand_reference ++ t) (ampersand ∷ u)
  read_apostrophe : (t u : Text) → IsReadAs t u → IsReadAs (apostrophe_reference ++ t) (apostrophe ∷ u)
  read_character : (b : ℕ) (t u : Text) → b ≢ ampersand → IsReadAs t u → IsReadAs (b ∷ t) (b ∷ u)
