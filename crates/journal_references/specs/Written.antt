-- References as they are written, for a law.
use Rattle.std.specs.Prelude.{◌≡◌, ◌++◌, ◌≤◌, true, false, codes, length, slice_index, Some, None}
use Rattle.std.specs.Char.{is_ascii_digit}
use Rattle.std.specs.List.{list_all, list_any}
use Rattle.text_model.specs.Texts.{Text}
use Rattle.journal_references.specs.declared.pieces.Piece.{Piece}
use Rattle.journal_references.specs.declared.pieces.Piece.TheVariants.{Volume, Inner, Pages}
use Rattle.journal_references.specs.Pieces.{is_byte, is_piece, is_year}
use Rattle.journal_references.specs.References.{Reference, tight}

-- `Annals of Tidal Studies, 12(3), 45-67`
abbrev pub written : Text → Text → Text → Text → Text
written name volume issue pages = name ++ (codes ", " ++ (volume ++ (codes "(" ++ (issue ++ (codes "), " ++ pages)))))

abbrev pub written_parts : Text → Text → Text → Text → Reference
written_parts name volume issue pages = record { name = name; volume = Some volume; issue = Some issue; pages = Some pages; year = None }

-- all bytes are of the piece's class, and they pass its test
abbrev pub IsWhole : Piece → Text → Type 0
IsWhole piece t = (list_all (is_byte piece) t ≡ true) × (is_piece piece t ≡ true)

-- the name has no digit and no loose end, the others are such pieces and begin with a digit, and the pages are no year
pub record ArePlain (name volume issue pages : Text) : Type 0 where
  pub digitless : list_any is_ascii_digit name ≡ false
  pub ends_tightly : tight name ≡ name
  pub of_volume : IsWhole Volume volume
  pub of_issue : IsWhole Inner issue
  pub issue_begins : is_ascii_digit (slice_index issue 0) ≡ true
  pub of_pages : IsWhole Pages pages
  pub pages_begin : is_ascii_digit (slice_index pages 0) ≡ true
  pub no_year : is_year pages ≡ false
  pub short : length (written name volume issue pages) ≤ 500
