-- Reading a table by whole lines.
use Rattle.std.proofs.Common.{Bor, ◌≡◌, ◌≢◌, ℕ, ◌<◌, true, false, cond, List, [], ◌∷◌, ◌++◌, Option, Some, None}
use Rattle.std.proofs.lemmas.Grind.{common_steps}
use Rattle.std.proofs.Common.{get_or, IsUtf8, refl, sym, ap, subst, ◌∙◌, inl, inr, arith}
use Rattle.std.proofs.lemmas.Bool.{and_parts}
use Rattle.std.proofs.lemmas.List.Elements.{All-append, All-nil, All-tail}
use lib.Utf8.{encode, encodes, scalar, scalar_cases, scalars}
use Rattle.csv.specs.Machine.{Read, next_record}
use Rattle.csv.specs.Reading.{Reached, Ready, ReadRecord, is_bom, source_of, strip_bom}
use Rattle.csv.specs.declared.parser.State.{State}
use Rattle.csv.specs.declared.parser.State.TheVariants as state
use Rattle.csv.specs.declared.reader.Reader.{Reader}
use Rattle.csv.specs.declared.reader.Trim.TheVariants as trim
use Rattle.csv.proofs.ReadFacts.{reached-more, rows-end, rows-more}
use Rattle.text_model.specs.Texts.{Text}
use Rattle.kbart_rows.specs.Cells.{Row}
use Rattle.kbart_rows.specs.Private.Kept.{rest_of}
use Rattle.kbart_rows.specs.Private.Line.{cells_of}
use Rattle.kbart_rows.specs.Private.WholeLines.{no_byte, IsReaderBy}
use Rattle.kbart_rows.specs.Reading.{tab_separated, AreLines, AreFirstLines}
use Rattle.kbart_rows.proofs.WholeLines.{AreAlike, IsBetween, IsUnseparated, lines_alike, whole_lines}

-- ---- no byte of UTF-8 text separates fields of whole lines

none : IsUnseparated []
none = All-nil (λ b. b ≢ no_byte)

character : (c : ℕ) → c < 1114112 → IsUnseparated (encode c)
unfolding encode
character c small = grind (arith, common_steps)

is_character : (c : ℕ) → scalar c ≡ true → c < 1114112
is_character c is = elim (scalar_cases c is) [ inl low ↦ omega (arith, low) | inr high ↦ high.1 ]

characters : (cs : List ℕ) → scalars cs ≡ true → IsUnseparated (encodes cs)
characters [] are = none
characters (c ∷ cs) are =
    let parts = and_parts _ _ are in
    All-append (λ b. b ≢ no_byte) (encode c) (encodes cs) (character c (is_character c parts.0)) (characters cs parts.1)

text_unseparated : (bytes : Text) → IsUtf8 bytes → IsUnseparated bytes
text_unseparated bytes utf8 = subst IsUnseparated utf8.1.1 (characters utf8.0 utf8.1.0)

stripped : (bytes : Text) → IsUnseparated bytes → IsUnseparated (strip_bom bytes)
unfolding strip_bom
stripped [] free = free
stripped (a ∷ []) free = free
stripped (a ∷ b ∷ []) free = free
stripped (a ∷ b ∷ c ∷ rest) free =
    elim (is_bom a b c) as (λ is. IsUnseparated (cond is rest (a ∷ b ∷ c ∷ rest))) [
      | true ↦ All-tail (λ b. b ≢ no_byte) c rest (All-tail (λ b. b ≢ no_byte) b (c ∷ rest) (All-tail (λ b. b ≢ no_byte) a (b ∷ c ∷ rest) free))
      | false ↦ free
    ]

-- ---- reading

-- the reader has read these lines of the bytes, each as one field
pub record IsReadingWhole (bytes : Text) (lines : List Row) (reader : Reader (Bor (List ℕ))) : Type 0 where
  pub trim : reader.trim ≡ trim.None
  pub ready : Ready reader
  pub config : reader.config ≡ whole_lines
  pub between : IsBetween reader.state
  pub rest : Text
  pub unseparated : IsUnseparated rest
  pub source : source_of rest_of reader ≡ Some rest
  pub reached : Reached tab_separated state.StartRecord (strip_bom bytes) lines reader.state rest

pub whole_starts : (bytes : Text) (reader : Reader (Bor (List ℕ))) → IsUtf8 bytes → IsReaderBy no_byte bytes reader → IsReadingWhole bytes [] reader
unfolding Reached
whole_starts bytes reader utf8 fresh = record {
  trim = fresh.trim;
  ready = fresh.ready;
  config = fresh.config;
  between = subst IsBetween (sym fresh.state) tt;
  rest = strip_bom bytes;
  unseparated = stripped bytes (text_unseparated bytes utf8);
  source = fresh.source;
  reached = (sym fresh.state, refl);
}

-- a line that was read whole, cell by cell
cell_by_cell : (cells whole : Option Read) (read : Read) → AreAlike cells whole → whole ≡ Some read
    → (other : Read) × (cells ≡ Some other) × (other.0 ≡ cells_of (get_or read.0 0 [])) × (other.1 ≡ read.1) × (other.2 ≡ read.2) × IsBetween read.1
    × IsUnseparated read.2
cell_by_cell cells whole read alike is = grind (arith, common_steps)

nothing_more : (cells whole : Option Read) → AreAlike cells whole → whole ≡ None → cells ≡ None
nothing_more cells whole alike is = grind (arith, common_steps)

same_reached : (xs : Text) (lines others : List Row) (s t : State) (ys zs : Text) → lines ≡ others → s ≡ t → ys ≡ zs
    → Reached tab_separated state.StartRecord xs lines s ys → Reached tab_separated state.StartRecord xs others t zs
same_reached xs lines others s t ys zs a b c reached = rw (← a, ← b, ← c) reached

one_record : (s t : State) (xs ys : Text) (fields : Row) → Reached whole_lines s xs (fields ∷ []) t ys
    → (read : Read) × (next_record whole_lines s [] [] xs ≡ Some read) × (fields ≡ read.0) × (read.1 ≡ t) × (read.2 ≡ ys)
unfolding Reached
one_record s t xs ys fields reached = (reached.0, reached.1, reached.2, reached.3.0, reached.3.1)

nothing_reached : (s : State) (xs : Text) → Reached whole_lines s xs [] s xs
unfolding Reached
nothing_reached s xs = (refl, refl)

pub whole_continues : (bytes : Text) (lines : List Row) (old new : Reader (Bor (List ℕ))) (fields : Row) → IsReadingWhole bytes lines old
    → ReadRecord rest_of old new true fields → new.first ≡ true → IsReadingWhole bytes (lines ++ cells_of (get_or fields 0 []) ∷ []) new
whole_continues bytes lines old new fields reading read first =
    let more = rows-more rest_of old new fields whole_lines old.state reading.rest reading.rest [] reading.config reading.source
    (nothing_reached old.state reading.rest) read in
    let whole = one_record old.state new.state reading.rest more.0 fields more.2 in
    let cells = cell_by_cell (next_record tab_separated old.state [] [] reading.rest) (next_record whole_lines old.state [] [] reading.rest) whole.0
    (lines_alike reading.rest old.state reading.between reading.unseparated) whole.1 in
    let line = cells.2 ∙ ap (λ (fields : Row). cells_of (get_or fields 0 [])) (sym whole.2) in
    record {
      trim = read.3 ∙ reading.trim;
      ready = inl first;
      config = read.2 ∙ reading.config;
      between = subst IsBetween whole.3 cells.5;
      rest = more.0;
      unseparated = subst IsUnseparated whole.4 cells.6;
      source = more.1;
      reached = same_reached (strip_bom bytes) (lines ++ cells.0.0 ∷ []) _ cells.0.1 new.state cells.0.2 more.0 (ap (λ (cells : Row). lines ++ cells ∷ []) line)
          (cells.3 ∙ whole.3) (cells.4 ∙ whole.4)
          (reached-more tab_separated state.StartRecord old.state (strip_bom bytes) reading.rest lines cells.0 reading.reached cells.1);
    }

pub first_lines : (bytes : Text) (lines : List Row) (reader : Reader (Bor (List ℕ))) → IsReadingWhole bytes lines reader → AreFirstLines bytes lines
first_lines bytes lines reader reading = record { after = reader.state; rest = reading.rest; reached = reading.reached }

pub whole_ends : (bytes : Text) (lines : List Row) (old new : Reader (Bor (List ℕ))) (fields : Row) → IsReadingWhole bytes lines old
    → ReadRecord rest_of old new false fields → AreLines bytes lines
whole_ends bytes lines old new fields reading read = (
  old.state,
  reading.rest,
  reading.reached,
  nothing_more _ _ (lines_alike reading.rest old.state reading.between reading.unseparated)
      (rows-end rest_of old new fields whole_lines reading.rest reading.config reading.source read),
)
