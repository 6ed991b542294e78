-- The resolutions of a target's matching rows, from the rows themselves.
use Rattle.std.proofs.Common.{◌≡◌, ℕ, ◌+◌, Bool, true, false, cond, List, [], ◌∷◌, ◌++◌, length, get_or, map, refl, sym, ap, ◌∙◌}
use Rattle.std.proofs.Common.{arith}
use Rattle.std.proofs.Common.{append_assoc}
use Rattle.std.specs.Prelude.{filter}
use Rattle.std.specs.List.{range_with_len}
use Rattle.std.proofs.lemmas.List.{length_push}
use Rattle.code_model.specs.Code.{Code}
use Rattle.kev_read.specs.Pairs.{KeyValue}
use Rattle.kev_read.specs.Filling.{filled}
use Rattle.kbart_rows.specs.Cells.{Row, named_cells}
use Rattle.row_laws.specs.Shadowing.{row_of}
use Rattle.row_scope.specs.RowEnvironments.{lists_of}
use Rattle.verified_runs.specs.Fates.{FateValue, fate_in}
use Rattle.menu.specs.declared.entry.Resolution.{Resolution}
use Rattle.registry.specs.Targets.{TargetValue}
use Rattle.registry.specs.Entries.{matching_rows_of, resolution_by, resolution_of_row}
use Rattle.menu_laws.specs.Updates.{is_cited}

-- the fate of a code on the cells of a row
abbrev pub fate_of_cells : Code → Row → List KeyValue → Row → FateValue
fate_of_cells code header pairs cells = fate_in code (filled (lists_of code) (row_of (named_cells header cells)) pairs)

module _ (test : Row → Bool) (fate : Row → FateValue) where
  -- the resolutions of the rows that pass the test, whose numbers begin with k
  abbrev pub resolutions_from : ℕ → List Row → List Resolution
  resolutions_from k [] = []
  resolutions_from k (cells ∷ rows) =
      cond (test cells) (resolution_by k (fate cells) ∷ resolutions_from (k + 1) rows) (resolutions_from (k + 1) rows)

  pub resolutions_joined : (k : ℕ) (rows more : List Row)
      → resolutions_from k (rows ++ more) ≡ resolutions_from k rows ++ resolutions_from (k + length rows) more
  resolutions_joined k [] more = ap (λ (n : ℕ). resolutions_from n more) (omega arith)
  resolutions_joined k (cells ∷ rows) more =
      let end : (k + 1) + length rows ≡ k + length (cells ∷ rows) = omega arith in
      by_test (test cells) (resolutions_joined (k + 1) rows more ∙ ap (λ (n : ℕ). resolutions_from (k + 1) rows ++ resolutions_from n more) end)
    where
      by_test : (b : Bool)
          → resolutions_from (k + 1) (rows ++ more) ≡ resolutions_from (k + 1) rows ++ resolutions_from (k + length (cells ∷ rows)) more
          → cond b (resolution_by k (fate cells) ∷ resolutions_from (k + 1) (rows ++ more)) (resolutions_from (k + 1) (rows ++ more))
          ≡ cond b (resolution_by k (fate cells) ∷ resolutions_from (k + 1) rows) (resolutions_from (k + 1) rows)
          ++ resolutions_from (k + length (cells ∷ rows)) more
      by_test true same = ap (λ (rs : List Resolution). resolution_by k (fate cells) ∷ rs) same
      by_test false same = same

  get_or_there : (before : List Row) (cells : Row) (rows : List Row) → get_or (before ++ (cells ∷ rows)) (length before) [] ≡ cells
  get_or_there [] cells rows = refl
  get_or_there (other ∷ before) cells rows = get_or_there before cells rows

  -- ---- the same by the numbers of rows

  abbrev by_number : List Row → ℕ → Resolution
  by_number all row = resolution_by row (fate (get_or all row []))

  abbrev passing : List Row → ℕ → ℕ → List ℕ
  passing all k n = filter (λ row. test (get_or all row [])) (range_with_len k n)

  regroup : (before : List Row) (cells : Row) (rows : List Row) → before ++ (cells ∷ rows) ≡ (before ++ (cells ∷ [])) ++ rows
  regroup before cells rows = simp append_assoc

  numbered : (before rows all : List Row) (k : ℕ) → all ≡ before ++ rows → k ≡ length before
      → map (by_number all) (passing all k (length rows)) ≡ resolutions_from k rows
  numbered before [] all k whole place = refl
  numbered before (cells ∷ rows) all k whole place =
      let here : get_or all k [] ≡ cells = ap (λ (rows : List Row). get_or rows k []) whole
      ∙ ap (λ (n : ℕ). get_or (before ++ (cells ∷ rows)) n []) place ∙ get_or_there before cells rows in
      let next : k + 1 ≡ length (before ++ (cells ∷ [])) = ap (λ (n : ℕ). n + 1) place ∙ sym (length_push before cells) in
      let rest = numbered (before ++ (cells ∷ [])) rows all (k + 1) (whole ∙ regroup before cells rows) next in
      ap (λ (c : Row). map (by_number all) (cond (test c) (k ∷ passing all (k + 1) (length rows)) (passing all (k + 1) (length rows)))) here
      ∙ by_test (test cells) here rest
    where
      by_test : (b : Bool) → get_or all k [] ≡ cells → map (by_number all) (passing all (k + 1) (length rows)) ≡ resolutions_from (k + 1) rows
          → map (by_number all) (cond b (k ∷ passing all (k + 1) (length rows)) (passing all (k + 1) (length rows)))
          ≡ cond b (resolution_by k (fate cells) ∷ resolutions_from (k + 1) rows) (resolutions_from (k + 1) rows)
      by_test true here same =
          ap (λ (c : Row). resolution_by k (fate c) ∷ map (by_number all) (passing all (k + 1) (length rows))) here
          ∙ ap (λ (rs : List Resolution). resolution_by k (fate cells) ∷ rs) same
      by_test false here same = same

-- the resolutions of the matching rows of a target
pub row_resolutions : (target : TargetValue) (pairs : List KeyValue)
    → map (resolution_of_row target pairs) (matching_rows_of target pairs)
    ≡ resolutions_from (is_cited target.table.header pairs) (fate_of_cells target.code target.table.header pairs) 0 target.table.rows
row_resolutions target pairs =
    numbered (is_cited target.table.header pairs) (fate_of_cells target.code target.table.header pairs) [] target.table.rows target.table.rows 0 refl refl
