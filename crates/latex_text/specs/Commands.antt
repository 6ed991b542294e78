-- Commands for letters, fonts and signs (LaTeX2e: An unofficial reference manual, sections "Accents", "Additional Latin
-- letters", "Font styles" and "Reserved characters").
use Rattle.std.specs.Prelude.{ℕ, ◌+◌, ◌==◌, ◌||◌, ◌&&◌, not, Bool, true, false, List, [], ◌∷◌, take, drop, codes, encode_utf8}
use Rattle.std.specs.Prelude.{Option, Some, None, if◌then◌else◌}
use Rattle.std.specs.Char.{is_ascii_uppercase}
use Rattle.std.specs.List.{list_all, list_any, prefix_len, slice_get}
use Rattle.std.specs.Option.{option_and_then, option_map}
use Rattle.std.specs.Str.{bytes_eq}
use Rattle.text_model.specs.Texts.{Text}
use Rattle.latex_text.specs.declared.commands.Command.{Command}
use Rattle.latex_text.specs.declared.bases.Base.{Base}
use Rattle.latex_text.specs.Places.{backslash, opening, closing, dollar, is_letter}
use Rattle.latex_text.specs.Letters as letters

-- ---- tables

abbrev pub is_name : Text → Text → Bool
is_name listed name = bytes_eq listed name

-- of a list of names and one of characters, in the same order
abbrev pub listed : List Text → List ℕ → Text → Option ℕ
listed [] characters name = None
listed (other ∷ names) characters name = if bytes_eq other name then slice_get characters 0 else listed names (drop 1 characters) name

-- a letter with an accent, as one character
unfoldable pub composed : ℕ → ℕ → Option ℕ
composed accent letter =
    if is_letter accent then listed letters.letter_accents_names letters.letter_accents_characters (accent ∷ letter ∷ [])
    else listed letters.sign_accents_names letters.sign_accents_characters (accent ∷ letter ∷ [])

unfoldable pub letter_named : Text → Option ℕ
letter_named name = listed letters.letters_names letters.letters_characters name

-- ---- the letter of an accent

-- `ı` and `ȷ` have accents as `i` and `j` have them
abbrev pub dotless : Text → Option Base
dotless [] = None
dotless (b ∷ []) = None
dotless (b ∷ c ∷ t) =
    if b == 0xc4 && c == 0xb1 then Some (record { len = 2; letter = 0x69 }) else
    if b == 0xc8 && c == 0xb7 then Some (record { len = 2; letter = 0x6a }) else None

-- the letter with which a text begins
abbrev pub base_of : Text → Option Base
base_of [] = None
base_of (b ∷ t) = if is_letter b then Some (record { len = 1; letter = b }) else dotless (b ∷ t)

abbrev pub begins : ℕ → Text → Bool
begins mark [] = false
begins mark (b ∷ t) = b == mark

-- ---- accents: `\"o`, `\" o`, `\"{o}`, `\c{c}` and `\c c`; the texts here are those after `\`

abbrev pub of_letter : ℕ → ℕ → Base → Option Command
of_letter accent others base = option_map (λ c. record { len = base.len + others; character = Some c }) (composed accent base.letter)

abbrev pub braced_letter : ℕ → Text → Base → Option Command
braced_letter accent t base = if begins closing (drop base.len t) then of_letter accent 3 base else None

abbrev pub argument : ℕ → Text → Option Command
argument accent [] = None
argument accent (b ∷ t) =
    if b == opening then option_and_then (braced_letter accent t) (base_of t) else
    if b == 0x20 then option_and_then (of_letter accent 2) (base_of t) else
    if is_letter accent then None else option_and_then (of_letter accent 1) (base_of (b ∷ t))

abbrev pub accent : Text → Option Command
accent [] = None
accent (b ∷ t) = argument b t

-- ---- names: letters, as `\ss` and `\o`, and fonts, as `\it` and `\emph{`

abbrev pub name_length : Text → ℕ
name_length t = prefix_len is_letter t

-- the space that ends a name
abbrev pub space_length : Text → ℕ
space_length t = if begins 0x20 t then 1 else 0

abbrev pub is_one_of : List Text → Text → Bool
is_one_of names name = list_any (λ other. bytes_eq other name) names

-- commands that change the font of the rest of their group
unfoldable pub is_font_change : Text → Bool
is_font_change name = is_one_of (codes "it" ∷ codes "bf" ∷ codes "em" ∷ codes "sc" ∷ codes "rm" ∷ codes "sl" ∷ []) name

-- commands for the font of their argument
unfoldable pub is_font : Text → Bool
is_font name =
    is_one_of (codes "emph" ∷ codes "textit" ∷ codes "textbf" ∷ codes "textsc" ∷ codes "textrm" ∷ codes "textsl" ∷ codes "texttt" ∷
    codes "textsf" ∷ codes "textup" ∷ codes "textmd" ∷ codes "textsubscript" ∷ codes "textsuperscript" ∷ []) name

-- a letter, if it is one, or nothing
abbrev pub named_with : Text → Text → ℕ → Option ℕ → Option Command
named_with name rest n (Some c) = Some (record { len = n + space_length rest; character = Some c })
named_with name rest n None =
    if is_font_change name then Some (record { len = n + space_length rest; character = None }) else
    if is_font name && begins opening rest then Some (record { len = n; character = None }) else None

abbrev pub named_by : Text → ℕ → Option Command
named_by t n = named_with (take n t) (drop n t) n (letter_named (take n t))

abbrev pub named : Text → Option Command
named t = named_by t (name_length t)

-- ---- signs

-- `&`, `%`, `#` and `_`
abbrev pub is_reserved : ℕ → Bool
is_reserved b = b == 0x26 || b == 0x25 || b == 0x23 || b == 0x5f

-- neither commands nor groups
abbrev pub is_plain : Text → Bool
is_plain t = list_all (λ b. not (b == backslash) && not (b == opening)) t

-- a reserved character; `$`, which might begin a formula, only before plain text
abbrev pub reserved : Text → Option Command
reserved [] = None
reserved (b ∷ t) = if is_reserved b || b == dollar && is_plain t then Some (record { len = 1; character = Some b }) else None

-- `'` and a capital letter
abbrev pub is_quoted : Text → Bool
is_quoted [] = false
is_quoted (b ∷ []) = false
is_quoted (b ∷ c ∷ t) = b == 0x27 && is_ascii_uppercase c

abbrev pub apostrophe : Bool → Option Command
apostrophe true = Some (record { len = 1; character = Some 0x27 })
apostrophe false = None

abbrev pub or_else : Option Command → Option Command → Option Command
or_else None other = other
or_else (Some c) other = Some c

-- ---- commands

-- the command of which a text is what is after `\`; `O\'Neill` has an apostrophe, and so has a letter without that accent
unfoldable pub command_of : Bool → Text → Option Command
command_of initial t =
    or_else (apostrophe (initial && is_quoted t)) (or_else (accent t) (or_else (named t) (or_else (reserved t) (apostrophe (is_quoted t)))))

-- what is written for a command
abbrev pub written : Option ℕ → Text
written None = []
written (Some c) = encode_utf8 c
