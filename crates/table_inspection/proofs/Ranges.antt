-- Results that are gathered from rows or columns one after another.
use Rattle.std.proofs.Common.{◌≡◌, ℕ, ◌+◌, ◌&&◌, ◌==◌, ◌≤◌, suc, Bool, true, false, List, [], ◌∷◌, ◌++◌, length, get_or, filter}
use Rattle.std.proofs.lemmas.Grind.{common_steps}
use Rattle.std.proofs.Common.{refl, sym, ap, ◌∙◌, arith}
use Rattle.std.proofs.Common.{if◌then◌else◌, append-nil, length-append}
use Rattle.std.proofs.lemmas.Grind.{flat_map-append}
use Rattle.std.proofs.lemmas.List.Elements.{filter-append}
use Rattle.std.specs.List.{flat_map, range_with_len}
use Rattle.text_model.proofs.Lists.{range_more}
use Rattle.table_inspection.specs.Private.CountedCells.{AreRows, AreCells}
use Rattle.table_inspection.specs.Cells.{CellAt, of_cells, of_rows}
use Rattle.table_inspection.specs.Findings.{TableFinding}

-- one more row
pub filter_more : (test : ℕ → Bool) (n : ℕ) → filter test (range_with_len 0 (n + 1)) ≡ filter test (range_with_len 0 n) ++ (if test n then n ∷ [] else [])
filter_more test n =
    ap (filter test) (range_more 0 n) ∙ filter-append test (range_with_len 0 n) ((0 + n) ∷ [])
    ∙ ap (λ last. filter test (range_with_len 0 n) ++ (if test last then last ∷ [] else [])) (omega arith)

pub flat_more : {X : Type 0} (f : ℕ → List X) (n : ℕ) → flat_map f (range_with_len 0 (n + 1)) ≡ flat_map f (range_with_len 0 n) ++ f n
flat_more f n =
    ap (flat_map f) (range_more 0 n) ∙ flat_map-append f (range_with_len 0 n) ((0 + n) ∷ [])
    ∙ ap (λ last. flat_map f (range_with_len 0 n) ++ last) (append-nil (f (0 + n)) ∙ ap f (omega arith))

pub not_none : (n : ℕ) → (suc n == 0) ≡ false
not_none n = grind arith

-- the first of a list to which an item was added
pub first_more : {X : Type 0} (xs : List X) (x d : X) → get_or (xs ++ x ∷ []) 0 d ≡ (if length xs == 0 then x else get_or xs 0 d)
first_more [] x d = refl
first_more (y ∷ xs) x d =
    let some = not_none (length xs) in
    rw some refl

-- ---- rows

pub row_step : (test : ℕ → Bool) (n count first new_count new_first : ℕ) (has : Bool) → has ≡ test n → AreRows (filter test (range_with_len 0 n)) count first
    → new_count ≡ (if has then count + 1 else count) → new_first ≡ (if has && count == 0 then n else first)
    → AreRows (filter test (range_with_len 0 (n + 1))) new_count new_first
row_step test n count first new_count new_first true is old count_is first_is =
    let rows = filter test (range_with_len 0 n) in
    let more : filter test (range_with_len 0 (n + 1)) ≡ rows ++ n ∷ [] = filter_more test n ∙ ap (λ b. rows ++ (if b then n ∷ [] else [])) (sym is) in
    record {
      counts = omega (arith, count_is, old.counts, ap length more, length-append rows (n ∷ []));
      starts = first_is ∙ ap (λ c. if c == 0 then n else first) old.counts ∙ ap (λ f. if length rows == 0 then n else f) old.starts
          ∙ sym (first_more rows n 0) ∙ sym (ap (λ rows. get_or rows 0 0) more);
    }
row_step test n count first new_count new_first false is old count_is first_is = grind (arith, filter_more, append-nil)

-- ---- cells

abbrev pub cell_if : Bool → CellAt → List CellAt
cell_if has cell = if has then cell ∷ [] else []

pub cell_step : (cells : List CellAt) (cell : CellAt) (count first new_count new_first : ℕ) (text new_text : List ℕ) (has : Bool)
    → AreCells cells count first text → new_count ≡ (if has then count + 1 else count) → new_first ≡ (if has && count == 0 then cell.row else first)
    → new_text ≡ (if has && count == 0 then cell.text else text) → AreCells (cells ++ cell_if has cell) new_count new_first new_text
cell_step [] cell count first new_count new_first text new_text true old count_is first_is text_is = grind (arith, common_steps)
cell_step (other ∷ cells) cell count first new_count new_first text new_text true old count_is first_is text_is =
    let some : (count == 0) ≡ false = ap (λ c. c == 0) old.counts ∙ not_none (length cells) in
    record {
      counts = omega (arith, count_is, old.counts, length-append cells (cell ∷ []));
      starts = first_is ∙ ap (λ b. if b then cell.row else first) some ∙ old.starts;
      shows = text_is ∙ ap (λ b. if b then cell.text else text) some ∙ old.shows;
    }
cell_step cells cell count first new_count new_first text new_text false old count_is first_is text_is =
    let same = append-nil cells in
    rw same record { counts = count_is ∙ old.counts; starts = first_is ∙ old.starts; shows = text_is ∙ old.shows }

pub at_most_one_more : (has : Bool) (count new_count : ℕ) → new_count ≡ (if has then count + 1 else count) → new_count ≤ count + 1
at_most_one_more true count new_count is = omega (arith, is)
at_most_one_more false count new_count is = omega (arith, is)

-- ---- findings about them

pub nothing_of_rows : (finding : ℕ → ℕ → TableFinding) (rows : List ℕ) (count first : ℕ) → AreRows rows count first → count ≡ 0 → of_rows finding rows ≡ []
nothing_of_rows finding [] count first are none = refl
nothing_of_rows finding (row ∷ rows) count first are none = absurd (omega (arith, are.counts, none))

pub finding_of_rows : (finding : ℕ → ℕ → TableFinding) (rows : List ℕ) (count first : ℕ) → AreRows rows count first → (count ≡ 0 → ⊥)
    → of_rows finding rows ≡ finding count first ∷ []
finding_of_rows finding [] count first are some = absurd (some are.counts)
finding_of_rows finding (row ∷ rows) count first are some = sym
    (ap (λ n. finding n first ∷ []) are.counts ∙ ap (λ r. finding (length (row ∷ rows)) r ∷ []) are.starts)

pub nothing_of_cells : (finding : ℕ → ℕ → List ℕ → TableFinding) (cells : List CellAt) (count first : ℕ) (text : List ℕ) → AreCells cells count first text
    → count ≡ 0 → of_cells finding cells ≡ []
nothing_of_cells finding [] count first text are none = refl
nothing_of_cells finding (cell ∷ cells) count first text are none = absurd (omega (arith, are.counts, none))
