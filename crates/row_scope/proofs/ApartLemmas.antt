-- A request without a key that is the name of a column.
use Rattle.std.proofs.Common.{◌≡◌, ℕ, true, List, [], ◌∷◌, length, is_some, refl, arith}
use Rattle.std.specs.Prelude.{sum_by}
use Rattle.std.specs.List.{range_with_len}
use Rattle.std.proofs.lemmas.Grind.{common_steps}
use Rattle.std.proofs.lemmas.List.Sums.{sum_by-cons}
use Rattle.text_model.specs.Texts.{Text}
use Rattle.kev_read.specs.Pairs.{KeyValue, all_of}
use Rattle.kbart_rows.specs.Cells.{Row, column_of}
use Rattle.row_laws.specs.Shadowing.{hidden_bytes_at, hidden_members_at}

sum_of_none : (f : ℕ → ℕ) → ((n : ℕ) → f n ≡ 0) → (ns : List ℕ) → sum_by f ns ≡ 0
sum_of_none f none [] = refl
sum_of_none f none (n ∷ ns) = omega (arith, sum_by-cons f n ns, none n, sum_of_none f none ns)

module _ (header cells : Row) (lists : List Text) (pairs : List KeyValue)
    (apart : (name : Text) → is_some (column_of header name) ≡ true → all_of pairs name ≡ []) where
  no_bytes_at : (column : ℕ) → hidden_bytes_at header cells lists pairs column ≡ 0
  no_bytes_at column = grind (arith, common_steps)

  no_members_at : (column : ℕ) → hidden_members_at header cells lists pairs column ≡ 0
  no_members_at column = grind (arith, common_steps)

  pub no_bytes : sum_by (hidden_bytes_at header cells lists pairs) (range_with_len 0 (length header)) ≡ 0
  no_bytes = sum_of_none (hidden_bytes_at header cells lists pairs) no_bytes_at (range_with_len 0 (length header))

  pub no_members : sum_by (hidden_members_at header cells lists pairs) (range_with_len 0 (length header)) ≡ 0
  no_members = sum_of_none (hidden_members_at header cells lists pairs) no_members_at (range_with_len 0 (length header))
