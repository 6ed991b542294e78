-- The parts of forms, and what of a text matches them. As in parsing expression grammars, each part takes what it can,
-- and a part that may be missing is taken if the text has it.
use Rattle.std.specs.Prelude.{ℕ, ◌+◌, ◌==◌, ◌||◌, Bool, not, List, [], ◌∷◌}
use Rattle.std.specs.Prelude.{take, drop, Option, Some, None, unwrap_or, if◌then◌else◌}
use Rattle.std.specs.List.{prefix_len}
use Rattle.std.specs.Option.{option_and_then, option_copied, option_map}
use Rattle.text_model.specs.Texts.{Text}
use Rattle.journal_references.specs.declared.pieces.Piece.{Piece}
use Rattle.journal_references.specs.declared.pieces.Piece.TheVariants.{Volume, Plain, Issue, PlainIssue, Inner, Pages, Year, Days}
use Rattle.journal_references.specs.declared.parts.Part.{Part}
use Rattle.journal_references.specs.declared.parts.Part.TheVariants.{Sign, Mark, Closing, Title, Month, Date, NoDay, Needed, Maybe, Read}
use Rattle.journal_references.specs.declared.matches.Match as code
use Rattle.journal_references.specs.Words.{word_length}
use Rattle.journal_references.specs.Dates.{date_length, begins_with_day, month_length}
use Rattle.journal_references.specs.Pieces.{piece_length}

-- ---- how many bytes of a text a part takes

abbrev pub is_space : ℕ → Bool
is_space b = b == 0x20

abbrev pub spaces : Text → ℕ
spaces t = prefix_len is_space t

-- a sign after that many spaces, and the spaces after it
abbrev pub sign_after : ℕ → ℕ → Text → Option ℕ
sign_after n sign [] = None
sign_after n sign (b ∷ t) = if b == sign then Some (n + 1 + spaces t) else None

abbrev pub sign_length : ℕ → Text → Option ℕ
sign_length sign t = sign_after (spaces t) sign (drop (spaces t) t)

-- one of `:,;.`
abbrev pub is_mark : ℕ → Bool
is_mark b = b == 0x3a || b == 0x2c || b == 0x3b || b == 0x2e

-- one of these after that many spaces, if there is one, and the spaces after it
abbrev pub mark_after : ℕ → Text → ℕ
mark_after n [] = n
mark_after n (b ∷ t) = if is_mark b then n + 1 + spaces t else n

abbrev pub mark_length : Text → ℕ
mark_length t = mark_after (spaces t) (drop (spaces t) t)

-- a closing bracket, if there is one
abbrev pub closing_length : Text → ℕ
closing_length [] = 0
closing_length (b ∷ t) = if b == 0x29 then 1 else 0

-- a byte of the title of an issue, which ends before `;`
abbrev pub is_title_byte : ℕ → Bool
is_title_byte b = not (b == 0x3b)

abbrev pub title_length : Text → ℕ
title_length t = prefix_len is_title_byte t

abbrev pub part_length : Part → Text → Option ℕ
part_length (Sign sign) t = sign_length sign t
part_length Mark t = Some (mark_length t)
part_length Closing t = Some (closing_length t)
part_length Title t = Some (title_length t)
part_length Month t = Some (month_length t)
part_length Date t = Some (date_length t)
part_length NoDay t = if begins_with_day t then None else Some 0
part_length (Needed word) t = word_length word t
part_length (Maybe word) t = Some (unwrap_or (word_length word t) 0)
part_length (Read piece) t = piece_length piece t

-- ---- what matches

-- the pieces that are read, and what is left of the text
pub record Match : Type 0 where
  pub volume : Option Text
  pub issue : Option Text
  pub pages : Option Text
  pub year : Option Text
  pub rest : Text

abbrev pub match_of : code.Match → Match
match_of found = record {
  volume = option_copied found.volume;
  issue = option_copied found.issue;
  pages = option_copied found.pages;
  year = option_copied found.year;
  rest = found.rest.now;
}

-- nothing is read yet
abbrev pub unread : Text → Match
unread t = record { volume = None; issue = None; pages = None; year = None; rest = t }

-- with a piece, and this rest; days are not kept
abbrev pub with_piece : Piece → Text → Text → Match → Match
with_piece Volume piece rest found = record found { volume = Some piece; rest = rest }
with_piece Plain piece rest found = record found { volume = Some piece; rest = rest }
with_piece Issue piece rest found = record found { issue = Some piece; rest = rest }
with_piece PlainIssue piece rest found = record found { issue = Some piece; rest = rest }
with_piece Inner piece rest found = record found { issue = Some piece; rest = rest }
with_piece Pages piece rest found = record found { pages = Some piece; rest = rest }
with_piece Year piece rest found = record found { year = Some piece; rest = rest }
with_piece Days piece rest found = record found { rest = rest }

abbrev pub with_part : Part → Text → Text → Match → Match
with_part (Read piece) taken rest found = with_piece piece taken rest found
with_part part taken rest found = record found { rest = rest }

abbrev pub match_part : Part → Match → Option Match
match_part part found = option_map (λ n. with_part part (take n found.rest) (drop n found.rest) found) (part_length part found.rest)

abbrev pub match_parts : List Part → Match → Option Match
match_parts [] found = Some found
match_parts (part ∷ parts) found = option_and_then (match_parts parts) (match_part part found)
