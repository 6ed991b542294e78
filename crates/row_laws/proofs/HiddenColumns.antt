-- What a row hides of a request, column by column.
use Rattle.std.proofs.Common.{◌≡◌, ℕ, List, [], length, get_or, ◌∙◌, arith}
use Rattle.std.specs.Prelude.{sum_by, if◌then◌else◌}
use Rattle.std.specs.List.{range_with_len}
use Rattle.std.proofs.lemmas.Grind.{common_steps}
use Rattle.text_model.specs.Texts.{Text}
use Rattle.text_model.proofs.Lists.{sum_by-same}
use Rattle.environment_model.specs.Environment.{Environment, Entry, Meaning, look_up, byte_count, member_count, meaning_bytes, meaning_members}
use Rattle.target_vars.specs.EnvValue.{EachNameOnce}
use Rattle.kev_read.specs.Pairs.{KeyValue}
use Rattle.kbart_rows.specs.Cells.{Row, named_cell, named_cells}
use Rattle.row_laws.specs.Shadowing.{requested, row_of, hidden, found_in, has_cell, requested_bytes, requested_members, hidden_bytes_at, hidden_members_at}
use Rattle.row_laws.proofs.RequestedEntries.{bytes_requested, members_counted}
use Rattle.row_laws.proofs.HiddenSums.{hidden_sum}
use Rattle.row_laws.proofs.NamesOnce.{row_once, requested_once}
use Rattle.row_laws.proofs.RowSums.{of_cell, by_columns}

-- the number that is under each key
abbrev IsUnder : (Meaning → ℕ) → Environment → (Text → ℕ) → Type 0
IsUnder f env under = (key : Text) → found_in f (look_up env key) ≡ under key

module _ (f : Meaning → ℕ) (env : Environment) (once : EachNameOnce env) (under : Text → ℕ) (is_under : IsUnder f env under) where
  abbrev weigh : Entry → ℕ
  weigh e = found_in f (look_up env e.name)

  of_column : (header cells : Row) (n : ℕ)
      → of_cell weigh header cells (named_cell header cells n) ≡ (if has_cell header cells n then under (get_or header n []) else 0)
  of_column header cells n = grind (arith, common_steps)

  pub hidden_columns : (header cells : Row) → sum_by (λ (e : Entry). f e.meaning) (hidden (row_of (named_cells header cells)) env)
      ≡ sum_by (λ n. if has_cell header cells n then under (get_or header n []) else 0) (range_with_len 0 (length header))
  hidden_columns header cells =
      hidden_sum f (row_of (named_cells header cells)) env (row_once (named_cells header cells)) once
      ∙ by_columns weigh header cells
      ∙ sum_by-same (λ n. of_cell weigh header cells (named_cell header cells n)) (λ n. if has_cell header cells n then under (get_or header n []) else 0)
      (of_column header cells) (range_with_len 0 (length header))

pub bytes_by_columns : (header cells : Row) (lists : List Text) (pairs : List KeyValue)
    → byte_count (hidden (row_of (named_cells header cells)) (requested lists pairs))
    ≡ sum_by (hidden_bytes_at header cells lists pairs) (range_with_len 0 (length header))
bytes_by_columns header cells lists pairs =
    hidden_columns meaning_bytes (requested lists pairs) (requested_once lists pairs) (requested_bytes lists pairs) (bytes_requested lists pairs) header cells

pub members_by_columns : (header cells : Row) (lists : List Text) (pairs : List KeyValue)
    → member_count (hidden (row_of (named_cells header cells)) (requested lists pairs))
    ≡ sum_by (hidden_members_at header cells lists pairs) (range_with_len 0 (length header))
members_by_columns header cells lists pairs =
    hidden_columns meaning_members (requested lists pairs) (requested_once lists pairs) (requested_members lists pairs) (members_counted lists pairs)
    header cells
