-- Searches of targets for their links, row after row.
use Rattle.std.specs.Prelude.{◌≡◌, ℕ, ◌+◌, ◌<◌, All, Bool, List, Option, Some, None, IfSome, option_and_then, option_map, is_some}
use Rattle.std.specs.Prelude.{filter, if◌then◌else◌, length, map, nat_le, slice_get}
use Rattle.std.specs.List.{filter_map, zip}
use Rattle.environment_model.specs.Environment.{Environment}
use Rattle.code_model.specs.Code.{Code}
use Rattle.kbart_rows.specs.Identifiers.{first_from}
use Rattle.menu.specs.Links.{is_link}
use Rattle.menu.specs.Entries.{MenuEntry}
use Rattle.menu.specs.declared.entry.Resolution.{Resolution}
use Rattle.menu.specs.declared.entry.Resolution.TheVariants.{NoRow}
use Rattle.row_scope.specs.RequestValues.{RequestValue}
use Rattle.row_scope.specs.RowValue.{RowValue, TargetRequestValue}
use Rattle.verified_runs.specs.Names.{AreNumbered}
use Rattle.registry.specs.Targets.{TargetValue}
use Rattle.registry.specs.RowEnvironments.{row_environment}
use Rattle.verified_runs.specs.Fates.{FateValue}
use Rattle.registry.specs.Entries.{fate_of_row, matching_rows_of, resolution_by}
use Rattle.link_menu.specs.declared.batch.Batch.{Batch}
use Rattle.interleaved_runs.specs.Fates.{fate_of, runs_of}
use Rattle.interleaved_runs.specs.StepLists.{ends_of}
use Rattle.link_menu.specs.RowsByRound.{steps_of_row}

-- a request, a target, the matching row that is tried next, and the resolution so far
pub record SearchValue : Type 0 where
  pub requested : RequestValue
  pub target : TargetValue
  pub next : Option ℕ
  pub resolution : Resolution

-- the request has been prepared for the target, and if there is a next row, the table has it, and these are the matching rows after it
pub record IsReady (target : TargetValue) (request : TargetRequestValue) (next : Option ℕ) (rows : List ℕ) : Type 0 where
  pub code : request.code ≡ target.code
  pub table : request.table ≡ target.table
  pub within : IfSome next (λ row. row < length target.table.rows)
  pub after : IfSome next (λ row. rows ≡ filter (nat_le (row + 1)) (matching_rows_of target request.request.pairs))

-- no row has been tried
abbrev pub started : RequestValue → TargetValue → SearchValue
started requested target =
    record {
      requested = requested;
      target = target;
      next = first_from 0 (matching_rows_of target requested.pairs);
      resolution = NoRow;
    }

abbrev pub is_open : SearchValue → Bool
is_open s = is_some s.next

abbrev pub entry_so_far : SearchValue → MenuEntry
entry_so_far s = record { name = s.target.name; resolution = s.resolution }

-- ---- the next rows

abbrev pub code_next : SearchValue → Option Code
code_next s = option_map (λ row. s.target.code) s.next

abbrev pub env_next : SearchValue → Option Environment
env_next s = option_map (λ row. row_environment s.target s.requested.pairs row) s.next

abbrev pub fate_next : SearchValue → Option FateValue
fate_next s = option_map (λ row. fate_of_row s.target s.requested.pairs row) s.next

abbrev pub fates_next : List SearchValue → List FateValue
fates_next searches = filter_map fate_next searches

-- the steps of the codes that are run
abbrev pub ends_next : List SearchValue → List ℕ
ends_next searches = filter_map (λ s. option_and_then (steps_of_row s.target s.requested.pairs) s.next) searches

-- the row has each name of the code at the name's number
abbrev pub IsNumbered : Code × RowValue → Type 0
IsNumbered p = AreNumbered (λ number name. slice_get p.1.names number ≡ Some name) p.0

-- codes on rows, with the fates and the steps of the next rows
pub record IsBatchOf (searches : List SearchValue) (batch : Batch) : Type 0 where
  pub many : length batch.codes.items ≡ length batch.rows.items
  pub numbered : All IsNumbered (zip (map (λ code. code.now) batch.codes.items) batch.rows.items)
  pub fates : map fate_of (zip (map (λ code. code.now) batch.codes.items) (map (λ row. row.env) batch.rows.items)) ≡ fates_next searches
  pub ends : ends_of (runs_of (zip (map (λ code. code.now) batch.codes.items) (map (λ row. row.env) batch.rows.items))) ≡ ends_next searches

-- ---- one row after another

-- the row has given the resolution; after a link there is no next row
abbrev pub after_row : SearchValue → ℕ → Resolution → SearchValue
after_row s row resolution =
    record s {
      next = if is_link resolution then None else first_from (row + 1) (matching_rows_of s.target s.requested.pairs);
      resolution = resolution;
    }

abbrev pub after_fate_at : SearchValue → FateValue → Option ℕ → SearchValue
after_fate_at s fate None = s
after_fate_at s fate (Some row) = after_row s row (resolution_by row fate)

abbrev pub after_fate : SearchValue → FateValue → SearchValue
after_fate s fate = after_fate_at s fate s.next

abbrev pub after_row_at : SearchValue → Option ℕ → SearchValue
after_row_at s None = s
after_row_at s (Some row) = after_row s row (resolution_by row (fate_of_row s.target s.requested.pairs row))

-- the next row has been tried
abbrev pub after_next_row : SearchValue → SearchValue
after_next_row s = after_row_at s s.next
