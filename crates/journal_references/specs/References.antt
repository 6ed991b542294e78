-- The reference in a text.
use Rattle.std.specs.Prelude.{◌≡◌, ℕ, zero, suc, ◌+◌, ◌-◌, ◌==◌, ◌||◌, ◌&&◌, nat_le, Bool}
use Rattle.std.specs.Prelude.{length, take, drop, Option, Some, None, IfSome, if◌then◌else◌}
use Rattle.std.specs.Char.{is_ascii_alphanumeric, is_ascii_digit}
use Rattle.std.specs.List.{list_any, suffix_len}
use Rattle.std.specs.Option.{option_map}
use Rattle.text_model.specs.Texts.{Text}
use Rattle.journal_references.specs.declared.places.Place as code
use Rattle.journal_references.specs.Pieces.{last}
use Rattle.journal_references.specs.Parts.{Match, match_of}
use Rattle.journal_references.specs.Forms.{match_form}

pub record Reference : Type 0 where
  pub name : Text
  pub volume : Option Text
  pub issue : Option Text
  pub pages : Option Text
  pub year : Option Text

-- ---- places

-- a letter, a digit, or one of `.:/-`, after which no reference begins
abbrev pub is_inside : ℕ → Bool
is_inside b = is_ascii_alphanumeric b || b == 0x2e || b == 0x3a || b == 0x2f || b == 0x2d

-- what matches from that many bytes on
abbrev pub match_at : Text → ℕ → Option Match
match_at text n = if is_inside (last (take n text)) then None else match_form (drop n text)

-- a space, or one of `.,;:([-`
abbrev pub is_loose : ℕ → Bool
is_loose b = b == 0x20 || b == 0x2e || b == 0x2c || b == 0x3b || b == 0x3a || b == 0x28 || b == 0x5b || b == 0x2d

-- without these at its end
abbrev pub tight : Text → Text
tight t = take (length t - suffix_len is_loose t) t

-- ---- the reference

abbrev pub reference_of : Text → Match → Reference
reference_of name found = record {
  name = name;
  volume = found.volume;
  issue = found.issue;
  pages = found.pages;
  year = found.year;
}

abbrev pub place_of : code.Place → Reference
place_of place = reference_of place.name.now (match_of place.found)

abbrev pub reference_at : Text → ℕ → Option Reference
reference_at text n = option_map (reference_of (tight (take n text))) (match_at text n)

abbrev pub or_other : Option Reference → Option Reference → Option Reference
or_other None other = other
or_other (Some found) other = Some found

-- the first one, at one of that many places from one on
abbrev pub first_reference : Text → ℕ → ℕ → Option Reference
first_reference text n zero = None
first_reference text n (suc left) = or_other (reference_at text n) (first_reference text (n + 1) left)

-- at most 500 bytes, and one of them a digit
abbrev pub may_have_one : Text → Bool
may_have_one text = nat_le (length text) 500 && list_any is_ascii_digit text

abbrev pub reference_in : Text → Option Reference
reference_in text = if may_have_one text then first_reference text 0 (length text) else None

-- ---- for laws

-- some bytes of a text in one piece, from one of them on
abbrev pub IsPartOf : Text → Text → Type 0
IsPartOf text part = (start count : ℕ) × (part ≡ take count (drop start text))

-- the property holds of each part but the name
pub record EachPiece (P : Text → Type 0) (found : Reference) : Type 0 where
  pub volume : IfSome found.volume P
  pub issue : IfSome found.issue P
  pub pages : IfSome found.pages P
  pub year : IfSome found.year P
