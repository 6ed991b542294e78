-- The columns of a code's names.
use Rattle.std.proofs.Common.{◌≡◌, ℕ, ◌+◌, ◌<◌, List, [], ◌∷◌, ◌++◌, Some, None, arith}
use Rattle.std.specs.List.{Contains}
use Rattle.std.proofs.lemmas.Grind.{common_steps}
use Rattle.std.proofs.Math.Logic.{⊎_elim}
use Rattle.std.proofs.lemmas.Bool.{cases_lt}
use Rattle.std.proofs.lemmas.List.Elements.{Contains-append_left, Contains-push}
use Rattle.code_model.specs.Code.{Code}
use Rattle.machine_model.specs.Operands.{name_at}
use Rattle.kbart_rows.specs.Cells.{Row, column_of}
use Rattle.row_scope.specs.declared.name_columns.NameColumn.{NameColumn}

-- the list has all columns of the first names
abbrev pub HasColumns : Code → Row → List NameColumn → ℕ → Type 0
HasColumns code header places n =
    (number column : ℕ) → number < n → column_of header (name_at code number) ≡ Some column → Contains places (record { column = column; number = number })

module _ (code : Code) (header : Row) (places : List NameColumn) (n : ℕ) (has : HasColumns code header places n) where
  pub one_without : column_of header (name_at code n) ≡ None → HasColumns code header places (n + 1)
  one_without none number column below some = grind (arith, common_steps)

  pub one_with : (at : ℕ) → column_of header (name_at code n) ≡ Some at → HasColumns code header (places ++ record { column = at; number = n } ∷ []) (n + 1)
  one_with at there number column below some =
      ⊎_elim
      (λ before. Contains-append_left places _ _ (has number column before some))
      (λ last.
      let same : number ≡ n = omega (arith, below, last) in
      let here : column ≡ at = cc in
      rw (here, same) (Contains-push places (record { column = at; number = n })))
      (cases_lt number n)
