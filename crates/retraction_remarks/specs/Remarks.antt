-- The forms of remarks before and after titles.
use Rattle.std.specs.Prelude.{ℕ, ◌==◌, ◌||◌, ◌&&◌, not, nat_le, Bool, false, List, [], ◌∷◌, length, take, drop, Option, Some, None, if◌then◌else◌}
use Rattle.std.specs.Char.{is_ascii_digit, is_ascii_lowercase}
use Rattle.std.specs.List.{list_all}
use Rattle.std.specs.Option.{option_map, unwrap_or}
use Rattle.text_model.specs.Texts.{Text}
use Rattle.retraction_remarks.specs.declared.parts.Part.{Part}
use Rattle.retraction_remarks.specs.declared.parts.Part.TheVariants.{Spaces, Space, Gap, Opening, Bracket, Sentence, Word, Work}
use Rattle.retraction_remarks.specs.declared.parts.Part.TheVariants.{Closing, Stop, Mark, Separator, Preposition, Label}
use Rattle.retraction_remarks.specs.declared.ends.End.{End}
use Rattle.retraction_remarks.specs.declared.ends.End.TheVariants.{AtRemark, AtBracket}
use Rattle.retraction_remarks.specs.Parts.{after_parts}

-- ---- before a title

-- `[Retracted]`, `*RETRACTED*`, `[This paper has been retracted]:`
unfoldable pub in_brackets : List Part
in_brackets = Spaces ∷ Opening ∷ Space ∷ Sentence ∷ Word ∷ Work ∷ Space ∷ Closing ∷ Stop ∷ Spaces ∷ []

-- `[RETRACTED:`, before a translated title, which ends with `]`
unfoldable pub translated : List Part
translated = Spaces ∷ Bracket ∷ Word ∷ Work ∷ Space ∷ Mark ∷ Spaces ∷ []

-- `RETRACTED:`, `Retracted article -`
unfoldable pub plain : List Part
plain = Spaces ∷ Word ∷ Work ∷ Space ∷ Mark ∷ Spaces ∷ []

-- ---- after a title

-- a space or a full stop
abbrev pub is_loose : ℕ → Bool
is_loose b = b == 0x20 || b == 0x2e

-- at most three of these
abbrev pub is_over : Text → Bool
is_over t = nat_le (length t) 3 && list_all is_loose t

-- `]`, `)` or `*`
abbrev pub is_closing : ℕ → Bool
is_closing b = b == 0x5d || b == 0x29 || b == 0x2a

-- one of these, at the end
abbrev pub closes : Text → Bool
closes [] = false
closes (b ∷ t) = is_closing b && is_over t

-- neither `[` nor `]`
abbrev pub is_inner : ℕ → Bool
is_inner b = not (b == 0x5b || b == 0x5d)

-- bytes without these, and then the end
abbrev pub closes_later : Text → Bool
closes_later [] = false
closes_later (b ∷ t) = closes (b ∷ t) || is_inner b && closes_later t

-- a note of at most 150 bytes
abbrev pub is_note : Text → Bool
is_note t = nat_le (length t) 150 && closes_later t

-- a year
abbrev pub is_year : Text → Bool
is_year t = list_all is_ascii_digit (take 4 t) && closes (drop 4 t)

abbrev pub passes : (Text → Bool) → Option Text → Bool
passes test None = false
passes test (Some t) = test t

-- ` (Retracted article`, ` [This article has been retracted`
unfoldable pub opened : List Part
opened = Spaces ∷ Opening ∷ Space ∷ Sentence ∷ Word ∷ Work ∷ []

-- after a space
abbrev pub has_year : Text → Bool
has_year t = passes is_year (after_parts (Gap ∷ []) t)

-- after these words a remark ends, or has a note (`. See vol. 18`, ` in 2015`) or a year
unfoldable pub ends_remark : Text → Bool
ends_remark t =
    closes t || passes is_note (after_parts (Space ∷ Separator ∷ []) t) || passes is_note (after_parts (Preposition ∷ []) t) ||
    has_year t

-- a remark in brackets
unfoldable pub is_bracketed : Text → Bool
is_bracketed t = passes ends_remark (after_parts opened t)

-- ` - RETRACTED`, `. RETRACTED PAPER`
unfoldable pub separated : List Part
separated = Spaces ∷ Separator ∷ Spaces ∷ Word ∷ Label ∷ []

-- without small letters
abbrev pub is_capital : Text → Bool
is_capital t = list_all (λ b. not (is_ascii_lowercase b)) t

-- a remark in capitals
unfoldable pub is_separated : Text → Bool
is_separated t = passes is_over (after_parts separated t) && is_capital t

-- one of these, of at most 200 bytes
unfoldable pub is_remark : Text → Bool
is_remark t = nat_le (length t) 200 && (is_bracketed t || is_separated t)

-- the text is the end of a translated title
abbrev pub is_bracket : Text → Bool
is_bracket [] = false
is_bracket (b ∷ t) = b == 0x5d && is_over t

abbrev pub is_at : End → Text → Bool
is_at AtRemark = is_remark
is_at AtBracket = is_bracket

-- what is before the first place from which on a text passes the test
abbrev pub before_place : (Text → Bool) → Text → Option Text
before_place test [] = None
before_place test (b ∷ t) = if test (b ∷ t) then Some [] else option_map (λ front. b ∷ front) (before_place test t)

-- without the bracket at the end, if it has one
abbrev pub without_bracket : Text → Text
without_bracket t = unwrap_or (before_place is_bracket t) t
