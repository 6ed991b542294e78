-- Lines that are one after another in a text.
use Rattle.std.proofs.Common.{◌≡◌, ℕ, ◌+◌, ◌≤◌, ◌<◌, zero, suc, List, [], ◌∷◌, ◌++◌, length, map, get_or, slice_range, All, IsUtf8}
use Rattle.std.proofs.lemmas.Grind.{common_steps}
use Rattle.std.proofs.Common.{IsCharBoundary, Some, refl, sym, ap, ◌∙◌, arith, length-append, drop_at}
use Rattle.std.proofs.lemmas.List.{length-map, map-append}
use Rattle.std.proofs.lemmas.List.Elements.{All-get_or, All-push, All-weaker}
use Rattle.std.proofs.lemmas.Option.{none-some, same_Some}
use Rattle.std.proofs.lemmas.Str.{IsCharBoundary-end, IsCharBoundary-start}
use Rattle.csv.specs.Records.{cut_from, field_at, last_end, prev, Rising}
use Rattle.csv.proofs.RecordFacts.{cut-end, cut-length, cut-more, field-bounds, field-cut, last-append, prev-first, prev-next, rising-end, rising-more}
use Rattle.text_model.specs.Texts.{Text}
use Rattle.target_vars.proofs.Growth.{boundary_stays}
use Rattle.kbart_rows.specs.Lines.{cells_in}
use Rattle.kbart_rows.specs.Private.Kept.{AreKept, lines_in}
use Rattle.kbart_rows.specs.Private.Line.{IsClosed}
use Rattle.kbart_rows.specs.declared.read.TheConstants.{MAX_ROW_BYTES}

pub no_lines : lines_in [] [] ≡ []
unfolding cut_from
no_lines = refl

pub nothing_kept : AreKept [] []
unfolding Rising last_end cut_from
nothing_kept = grind (arith, common_steps)

-- ---- one more line

pub lines_more : (ends : List ℕ) (text line : Text) → AreKept ends text
    → lines_in (ends ++ length (text ++ line) ∷ []) (text ++ line) ≡ lines_in ends text ++ line ∷ []
lines_more ends text line kept = grind (arith, rising-more, length-append, cut-end, cut-more, drop_at)

pub one_more_kept : (ends : List ℕ) (text line : Text) → IsUtf8 text → IsUtf8 (text ++ line) → length line ≤ MAX_ROW_BYTES + 1 → IsClosed line
    → AreKept ends text → AreKept (ends ++ length (text ++ line) ∷ []) (text ++ line)
one_more_kept ends text line utf8 both short closed kept =
    let size = length (text ++ line) in
    let rising = rising-more 0 ends (length text) size kept.rising (omega (arith, length-append text line)) in
    record {
      rising = rising-end 0 ends size rising;
      whole = last-append 0 ends size;
      apart = All-push (IsCharBoundary (text ++ line)) ends size
          (All-weaker (IsCharBoundary text) (IsCharBoundary (text ++ line)) (λ i at. boundary_stays text line i utf8 both at) ends kept.apart)
          (IsCharBoundary-end (text ++ line));
      short = rw (lines_more ends text line kept)
          (All-push (λ (one : Text). length one ≤ MAX_ROW_BYTES + 1) (lines_in ends text) line kept.short short);
      closed = rw (lines_more ends text line kept) (All-push IsClosed (lines_in ends text) line kept.closed closed);
    }

-- the cells of the lines
pub cells_more : (ends : List ℕ) (text line : Text) → AreKept ends text
    → map cells_in (lines_in (ends ++ length (text ++ line) ∷ []) (text ++ line)) ≡ map cells_in (lines_in ends text) ++ cells_in line ∷ []
cells_more ends text line kept = ap (map cells_in) (lines_more ends text line kept) ∙ map-append cells_in (lines_in ends text) (line ∷ [])

-- a line for each end
pub lines_count : (ends : List ℕ) (text : Text) → length (map cells_in (lines_in ends text)) ≡ length ends
lines_count ends text = length-map (lines_in ends text) cells_in ∙ cut-length 0 ends text

-- ---- the line at a place

-- where it begins and ends
pub record IsLineAt (ends : List ℕ) (text : Text) (at start end : ℕ) : Type 0 where
  pub starts : start ≡ prev 0 ends at
  pub stops : end ≡ get_or ends at 0
  pub forwards : start ≤ end
  pub within : end ≤ length text
  pub start_apart : IsCharBoundary text start
  pub end_apart : IsCharBoundary text end

prev_apart : (ends : List ℕ) (text : Text) (at : ℕ) → IsUtf8 text → All (IsCharBoundary text) ends → at < length ends
    → IsCharBoundary text (prev 0 ends at)
prev_apart ends text zero utf8 apart inside = rw (prev-first ends) (IsCharBoundary-start text utf8)
prev_apart ends text (suc at) utf8 apart inside =
    let step : suc at ≡ at + 1 = omega arith in
    rw (step, prev-next 0 ends at 0 (omega (arith, inside))) (All-get_or (IsCharBoundary text) ends at 0 (omega (arith, inside)) apart)

pub line_is_at : (ends : List ℕ) (text : Text) (at start end : ℕ) → IsUtf8 text → AreKept ends text → at < length ends → start ≡ prev 0 ends at
    → end ≡ get_or ends at 0 → IsLineAt ends text at start end
line_is_at ends text at start end utf8 kept inside starts stops =
    let bounds = field-bounds 0 ends (length text) at kept.rising inside in
    record {
      starts = starts;
      stops = stops;
      forwards = rw (starts, stops) bounds.0;
      within = rw stops bounds.1;
      start_apart = rw starts (prev_apart ends text at utf8 kept.apart inside);
      end_apart = rw stops (All-get_or (IsCharBoundary text) ends at 0 inside kept.apart);
    }

field_is : (fields : List Text) (at : ℕ) (field : Text) → field_at fields at ≡ Some field → get_or fields at [] ≡ field
unfolding field_at
field_is [] at field is = absurd (none-some field is)
field_is (cell ∷ fields) zero field is = same_Some cell field is
field_is (cell ∷ fields) (suc at) field is = field_is fields at field is

-- its bytes
pub line_is : (ends : List ℕ) (text : Text) (at start end : ℕ) → at < length ends → IsLineAt ends text at start end
    → slice_range text start end ≡ get_or (lines_in ends text) at []
line_is ends text at start end inside is =
    rw (is.starts, is.stops) (sym (field_is (lines_in ends text) at (slice_range text (prev 0 ends at) (get_or ends at 0)) (field-cut 0 ends text at inside)))
