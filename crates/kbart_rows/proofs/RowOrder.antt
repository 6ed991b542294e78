-- Matching rows one after another.
use Rattle.std.proofs.Common.{◌≡◌, ℕ, ◌+◌, ◌≤◌, ◌<◌, Bool, true, false, cond, zero, suc, List, [], ◌∷◌, All, Some, None, filter, refl, sym, ap, ◌∙◌, arith}
use Rattle.std.proofs.Common.{nat_le, get_or, length}
use Rattle.std.proofs.lemmas.List.FromFn.{length-range_with_len, get_or-range_with_len}
use Rattle.std.proofs.lemmas.List.Kept.{AllPairs-filter}
use Rattle.std.proofs.lemmas.List.Elements.{All-cons, All-head, All-nil, All-tail, All-weaker}
use Rattle.std.proofs.lemmas.Option.{none-some, same_Some}
use Rattle.std.specs.List.{AllPairs, range_with_len}
use Rattle.std.proofs.lemmas.Grind.{common_steps}
use Rattle.text_model.specs.Texts.{Text}
use Rattle.kbart_rows.specs.Cells.{Holdings}
use Rattle.kbart_rows.specs.Identifiers.{first_from, identifier_columns, is_match, matching_rows}

-- each row is below the later ones
abbrev pub Rise : List ℕ → Type 0
Rise rows = AllPairs (λ x y. x < y) rows

range_rises : (first n : ℕ) → Rise (range_with_len first n)
range_rises first n i j d before within = grind (arith, length-range_with_len, get_or-range_with_len)

filtered_rise : (test : ℕ → Bool) (first n : ℕ) → Rise (filter test (range_with_len first n))
filtered_rise test first n = AllPairs-filter (λ x y. x < y) test (range_with_len first n) (range_rises first n)

pub matching_rows_rise : (table : Holdings) (ids : List Text) → Rise (matching_rows table ids)
matching_rows_rise table ids = filtered_rise (λ row. is_match (identifier_columns table.header) ids (get_or table.rows row [])) 0 (length table.rows)

-- each is one of the rows
below_end : (test : ℕ → Bool) (first n : ℕ) → All (λ row. row < first + n) (filter test (range_with_len first n))
below_end test first zero = All-nil (λ row. row < first + 0)
below_end test first (suc n) =
    let rest = filter test (range_with_len (first + 1) n) in
    let later = All-weaker (λ row. row < first + 1 + n) (λ row. row < first + suc n) (λ row high. omega (arith, high)) rest (below_end test (first + 1) n) in
    elim (test first) as (λ b. All (λ row. row < first + suc n) (cond b (first ∷ rest) rest)) [
      | true ↦ All-cons (λ row. row < first + suc n) first rest (omega arith) later
      | false ↦ later
    ]

pub matching_rows_within : (table : Holdings) (ids : List Text) → All (λ row. row < length table.rows) (matching_rows table ids)
matching_rows_within table ids = grind (arith, below_end)

pub rest_rises : (row : ℕ) (rows : List ℕ) → Rise (row ∷ rows) → Rise rows
rest_rises row rows rise i j d before within = rise (suc i) (suc j) d (omega (arith, before)) (omega (arith, within))

-- ---- the rows at or after one

all_from : (from : ℕ) (rows : List ℕ) → All (λ row. from ≤ row) rows → filter (nat_le from) rows ≡ rows
all_from from [] low = refl
all_from from (row ∷ rows) low =
    let here : from ≤ row = All-head (λ row. from ≤ row) row rows low in
    let passes : nat_le from row ≡ true = grind arith in
    rw passes (ap (λ rest. row ∷ rest) (all_from from rows (All-tail (λ row. from ≤ row) row rows low)))

pub all_from_start : (rows : List ℕ) → filter (nat_le 0) rows ≡ rows
all_from_start rows = all_from 0 rows (λ k d within. omega arith)

-- if there is no first one, there is none
pub none_from : (from : ℕ) (rows : List ℕ) → first_from from rows ≡ None → filter (nat_le from) rows ≡ []
none_from from [] none = refl
none_from from (row ∷ rows) none = by_test (nat_le from row) (none_from from rows) none
  where
    by_test : (b : Bool) → (first_from from rows ≡ None → filter (nat_le from) rows ≡ []) → cond b (Some row) (first_from from rows) ≡ None
        → cond b (row ∷ filter (nat_le from) rows) (filter (nat_le from) rows) ≡ []
    by_test b rest found = grind (arith, common_steps)

pub first_is_from : (from row : ℕ) (rows : List ℕ) → first_from from rows ≡ Some row → from ≤ row
first_is_from from row [] found = absurd (none-some row found)
first_is_from from row (next ∷ rows) found = by_test (nat_le from next) refl (first_is_from from row rows) found
  where
    by_test : (b : Bool) → nat_le from next ≡ b → (first_from from rows ≡ Some row → from ≤ row) → cond b (Some next) (first_from from rows) ≡ Some row
        → from ≤ row
    by_test b passes rest here = grind (arith, common_steps)

-- the first one, and those after it
pub first_and_rest : (from row : ℕ) (rows : List ℕ) → Rise rows → first_from from rows ≡ Some row
    → filter (nat_le from) rows ≡ row ∷ filter (nat_le (row + 1)) rows
first_and_rest from row [] rise found = absurd (none-some row found)
first_and_rest from row (next ∷ rows) rise found = by_test (nat_le from next) refl (first_and_rest from row rows (rest_rises next rows rise)) found
  where
    by_test : (b : Bool) → nat_le from next ≡ b → (first_from from rows ≡ Some row → filter (nat_le from) rows ≡ row ∷ filter (nat_le (row + 1)) rows)
        → cond b (Some next) (first_from from rows) ≡ Some row
        → cond b (next ∷ filter (nat_le from) rows) (filter (nat_le from) rows) ≡ row ∷ filter (nat_le (row + 1)) (next ∷ rows)
    by_test true passes rest here =
        let same : next ≡ row = same_Some next row here in
        let low : from ≤ next = grind arith in
        let past : nat_le (row + 1) next ≡ false = grind arith in
        let above : (bound : ℕ) → bound ≤ next + 1 → All (λ other. bound ≤ other) rows =
        λ bound small k d within. let more = rise 0 (suc k) d (omega arith) (omega (arith, within)) in omega (arith, more, small) in
        let kept = all_from from rows (above from (omega (arith, low))) in
        let kept_on = all_from (row + 1) rows (above (row + 1) (omega (arith, same))) in
        rw past (ap (λ others. next ∷ others) kept ∙ ap (λ first. first ∷ rows) same ∙ ap (λ others. row ∷ others) (sym kept_on))
    by_test false fails rest later = grind (arith, first_is_from)
