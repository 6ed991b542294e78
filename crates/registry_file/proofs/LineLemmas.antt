-- Lines of targets, from their cells.
use Rattle.std.proofs.Common.{◌≡◌, ◌∷◌, [], IsUtf8, Some, length, refl, sym, subst, arith}
use Rattle.csv.specs.Records.{field_at}
use Rattle.text_model.specs.Texts.{Text}
use Rattle.kbart_rows.specs.Cells.{Row}
use Rattle.registry_file.specs.Lines.{IsTargetLine, IsNoTargetLine}

pub target_of_cells : (row : Row) (name code table : Text) → length row ≡ 3 → field_at row 0 ≡ Some name → field_at row 1 ≡ Some code
    → field_at row 2 ≡ Some table
    → IsUtf8 name → IsUtf8 code → IsUtf8 table → IsTargetLine row name code table
unfolding field_at
target_of_cells (a ∷ b ∷ c ∷ []) name code table three first second third is_name is_code is_table =
    record { three = cc (first, second, third); utf8 = (is_name, is_code, is_table) }
target_of_cells [] name code table three first second third is_name is_code is_table = absurd (omega (arith, three))
target_of_cells (a ∷ []) name code table three first second third is_name is_code is_table = absurd (omega (arith, three))
target_of_cells (a ∷ b ∷ []) name code table three first second third is_name is_code is_table = absurd (omega (arith, three))
target_of_cells (a ∷ b ∷ c ∷ d ∷ row) name code table three first second third is_name is_code is_table = absurd (omega (arith, three))

-- each cell of a target's line is UTF-8
pub no_first : (row : Row) → ((cell : Text) → field_at row 0 ≡ Some cell → ¬ (IsUtf8 cell)) → IsNoTargetLine row
unfolding field_at
no_first row bad name code table line = bad name (subst (λ row. field_at row 0 ≡ Some name) (sym line.three) refl) line.utf8.0

pub no_second : (row : Row) → ((cell : Text) → field_at row 1 ≡ Some cell → ¬ (IsUtf8 cell)) → IsNoTargetLine row
unfolding field_at
no_second row bad name code table line = bad code (subst (λ row. field_at row 1 ≡ Some code) (sym line.three) refl) line.utf8.1

pub no_third : (row : Row) → ((cell : Text) → field_at row 2 ≡ Some cell → ¬ (IsUtf8 cell)) → IsNoTargetLine row
unfolding field_at
no_third row bad name code table line = bad table (subst (λ row. field_at row 2 ≡ Some table) (sym line.three) refl) line.utf8.2
