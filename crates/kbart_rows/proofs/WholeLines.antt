-- A line that is read whole has the cells that reading it cell by cell gives.
use Rattle.std.proofs.Common.{◌≡◌, ◌≢◌, ℕ, ◌==◌, Bool, true, false, [], ◌∷◌, ◌++◌, All, Option, Some, None, get_or}
use Rattle.std.proofs.lemmas.Grind.{common_steps}
use Rattle.std.proofs.Common.{refl, sym, ap, subst, ◌∙◌, arith, append_assoc, append-nil, if◌then◌else◌}
use Rattle.std.proofs.lemmas.Bool.{eqb-true}
use Rattle.std.proofs.lemmas.List.{flat_map_more}
use Rattle.std.proofs.lemmas.List.Elements.{All-head, All-nil, All-push, All-tail}
use Rattle.std.specs.Bool.{⊤}
use Rattle.csv.specs.Machine.{Read, after_end, ends_with, next_record, step}
use Rattle.csv.specs.declared.parser.Action.TheVariants as action
use Rattle.csv.specs.declared.parser.State.{State}
use Rattle.csv.specs.declared.parser.State.TheVariants as state
use Rattle.csv.specs.declared.parser.Terminator.TheVariants as terminator
use Rattle.csv.specs.declared.parser.Config.{Config}
use Rattle.text_model.specs.Texts.{Text}
use Rattle.kbart_rows.specs.Cells.{Row, tab}
use Rattle.kbart_rows.specs.Lines.{cells_in}
use Rattle.kbart_rows.specs.Private.Line.{HasNoTab, cell_and_tab, cells_of, line_of}
use Rattle.kbart_rows.specs.Private.WholeLines.{no_byte, separated_by}
use Rattle.kbart_rows.specs.Reading.{tab_separated}
use Rattle.kbart_rows.proofs.LineCells.{cells_of_line}

abbrev pub whole_lines : Config
whole_lines = separated_by no_byte

-- no byte separates fields of whole lines
abbrev pub IsUnseparated : Text → Type 0
IsUnseparated text = All (λ b. b ≢ no_byte) text

-- between two lines
abbrev pub IsBetween : State → Type 0
IsBetween state.StartRecord = ⊤
IsBetween state.AfterCr = ⊤
IsBetween state.StartField = ⊥
IsBetween state.InField = ⊥
IsBetween state.InQuoted = ⊥
IsBetween state.InEscape = ⊥
IsBetween state.AfterQuote = ⊥
IsBetween state.InComment = ⊥

-- the cells of a line, and the line as one field
abbrev pub AreAlike : Option Read → Option Read → Type 0
AreAlike None None = ⊤
AreAlike None (Some whole) = ⊥
AreAlike (Some cells) None = ⊥
AreAlike (Some cells) (Some whole) =
    (cells.0 ≡ cells_of (get_or whole.0 0 [])) × (cells.1 ≡ whole.1) × (cells.2 ≡ whole.2) × IsBetween whole.1 × IsUnseparated whole.2

-- ---- one byte

-- what a byte in a line does
data Byte (c : ℕ) : Type 0 where
  separates : c ≡ tab → step tab_separated state.InField c ≡ (state.StartField, action.EndField)
      → step whole_lines state.InField c ≡ (state.InField, action.Copy) → Byte c
  ends : (s : State) → IsBetween s → step tab_separated state.InField c ≡ (s, action.EndRecord) → step whole_lines state.InField c ≡ (s, action.EndRecord)
      → Byte c
  joins : c ≢ tab → step tab_separated state.InField c ≡ (state.InField, action.Copy) → step whole_lines state.InField c ≡ (state.InField, action.Copy)
      → Byte c

between_after : (c : ℕ) → IsBetween (after_end terminator.CRLF c)
between_after c = elim (c == 13) as (λ b. IsBetween (if b then state.AfterCr else state.StartRecord)) [ true ↦ tt | false ↦ tt ]

no_separator : (c : ℕ) → c ≢ no_byte → (c == no_byte) ≡ false
no_separator c plain = grind arith

no_tab : (c : ℕ) → (c == tab) ≡ false → c ≢ tab
no_tab c other same = grind arith

byte : (c : ℕ) → c ≢ no_byte → Byte c
byte c plain = by_tab (c == tab) refl
  where
    by_end : (b : Bool) → (c == tab) ≡ false → ends_with terminator.CRLF c ≡ b → Byte c
    by_end true other is = ends (after_end terminator.CRLF c) (between_after c) (rw (other, is) refl) (rw (no_separator c plain, is) refl)
    by_end false other is = joins (no_tab c other) (rw (other, is) refl) (rw (no_separator c plain, is) refl)

    by_tab : (b : Bool) → (c == tab) ≡ b → Byte c
    by_tab true is = subst Byte (sym (eqb-true c tab is)) (separates refl refl refl)
    by_tab false is = by_end (ends_with terminator.CRLF c) is refl

-- ---- within a line

line_more : (cells : Row) (cell : Text) → line_of (cells ++ cell ∷ []) ≡ (line_of cells ++ cell) ++ tab ∷ []
line_more cells cell = sym (flat_map_more cell_and_tab [] cells cell) ∙ sym (append_assoc (line_of cells) cell (tab ∷ []))

cells_are : (cells : Row) (cell line : Text) → line ≡ line_of cells ++ cell → All HasNoTab cells → HasNoTab cell → cells ++ cell ∷ [] ≡ cells_of line
cells_are cells cell line is plain last =
    sym (cells_of_line (cells ++ cell ∷ []) (All-push HasNoTab cells cell plain last)) ∙ ap cells_in (line_more cells cell) ∙ ap cells_of (sym is)

in_next : (cells : Row) (xs : Text) → next_record tab_separated state.StartField cells [] xs ≡ next_record tab_separated state.InField cells [] xs
unfolding next_record
in_next cells [] = refl
in_next cells (c ∷ xs) = refl

in_field_alike : (xs : Text) (cells : Row) (cell line : Text) → line ≡ line_of cells ++ cell → All HasNoTab cells → HasNoTab cell → IsUnseparated xs
    → AreAlike (next_record tab_separated state.InField cells cell xs) (next_record whole_lines state.InField [] line xs)
unfolding next_record
in_field_alike [] cells cell line is plain last free = (cells_are cells cell line is plain last, refl, refl, tt, All-nil (λ b. b ≢ no_byte))
in_field_alike (c ∷ xs) cells cell line is plain last free = by (byte c (All-head (λ b. b ≢ no_byte) c xs free))
    (in_field_alike xs (cells ++ cell ∷ []) [] (line ++ c ∷ [])) (in_field_alike xs cells (cell ++ c ∷ []) (line ++ c ∷ []))
  where
    rest : IsUnseparated xs
    rest = All-tail (λ b. b ≢ no_byte) c xs free

    by : Byte c
        → (line ++ c ∷ [] ≡ line_of (cells ++ cell ∷ []) ++ [] → All HasNoTab (cells ++ cell ∷ []) → HasNoTab [] → IsUnseparated xs
        → AreAlike (next_record tab_separated state.InField (cells ++ cell ∷ []) [] xs) (next_record whole_lines state.InField [] (line ++ c ∷ []) xs))
        → (line ++ c ∷ [] ≡ line_of cells ++ (cell ++ c ∷ []) → All HasNoTab cells → HasNoTab (cell ++ c ∷ []) → IsUnseparated xs
        → AreAlike (next_record tab_separated state.InField cells (cell ++ c ∷ []) xs) (next_record whole_lines state.InField [] (line ++ c ∷ []) xs))
        → AreAlike (next_record tab_separated state.InField cells cell (c ∷ xs)) (next_record whole_lines state.InField [] line (c ∷ xs))
    by (separates same cut whole) next more = rw (cut, whole, in_next (cells ++ cell ∷ []) xs)
        (next (ap (λ text. text ++ c ∷ []) is ∙ ap (λ b. (line_of cells ++ cell) ++ b ∷ []) same ∙ sym (line_more cells cell)
        ∙ sym (append-nil (line_of (cells ++ cell ∷ []))))
        (All-push HasNoTab cells cell plain last) (All-nil (λ b. b ≢ tab)) rest)
    by (ends s between cut whole) next more = rw (cut, whole) (cells_are cells cell line is plain last, refl, refl, between, rest)
    by (joins other cut whole) next more = rw (cut, whole)
        (more (ap (λ text. text ++ c ∷ []) is ∙ append_assoc (line_of cells) cell (c ∷ [])) plain (All-push (λ b. b ≢ tab) cell c last other) rest)

-- ---- from the beginning of a line

-- what a byte between two lines does: it belongs to the end of a line, or it begins one
data Start (s : State) (c : ℕ) : Type 0 where
  skips : step tab_separated s c ≡ (state.StartRecord, action.Skip) → step whole_lines s c ≡ (state.StartRecord, action.Skip) → Start s c
  begins : step tab_separated s c ≡ step tab_separated state.InField c → step whole_lines s c ≡ step whole_lines state.InField c → Start s c

start : (s : State) (c : ℕ) → IsBetween s → Start s c
start s c between = grind (arith, common_steps)

same_start : (cfg : Config) (s : State) (c : ℕ) (xs : Text) → step cfg s c ≡ step cfg state.InField c
    → next_record cfg s [] [] (c ∷ xs) ≡ next_record cfg state.InField [] [] (c ∷ xs)
unfolding next_record
same_start cfg s c xs same = rw same refl

none_alike : (s : State) → IsBetween s → AreAlike (next_record tab_separated s [] [] []) (next_record whole_lines s [] [] [])
unfolding next_record
none_alike state.StartRecord between = tt
none_alike state.AfterCr between = tt
none_alike state.StartField between = absurd between
none_alike state.InField between = absurd between
none_alike state.InQuoted between = absurd between
none_alike state.InEscape between = absurd between
none_alike state.AfterQuote between = absurd between
none_alike state.InComment between = absurd between

skipped : (s : State) (c : ℕ) (xs : Text) → step tab_separated s c ≡ (state.StartRecord, action.Skip)
    → step whole_lines s c ≡ (state.StartRecord, action.Skip)
    → AreAlike (next_record tab_separated state.StartRecord [] [] xs) (next_record whole_lines state.StartRecord [] [] xs)
    → AreAlike (next_record tab_separated s [] [] (c ∷ xs)) (next_record whole_lines s [] [] (c ∷ xs))
unfolding next_record
skipped s c xs cut whole more = rw (cut, whole) more

begun : (s : State) (c : ℕ) (xs : Text) → Start s c → IsUnseparated (c ∷ xs)
    → AreAlike (next_record tab_separated state.StartRecord [] [] xs) (next_record whole_lines state.StartRecord [] [] xs)
    → AreAlike (next_record tab_separated s [] [] (c ∷ xs)) (next_record whole_lines s [] [] (c ∷ xs))
begun s c xs h free more = grind (arith, skipped, same_start, in_field_alike)

pub lines_alike : (xs : Text) (s : State) → IsBetween s → IsUnseparated xs
    → AreAlike (next_record tab_separated s [] [] xs) (next_record whole_lines s [] [] xs)
lines_alike [] s between free = none_alike s between
lines_alike (c ∷ xs) s between free =
    begun s c xs (start s c between) free (lines_alike xs state.StartRecord tt (All-tail (λ b. b ≢ no_byte) c xs free))
