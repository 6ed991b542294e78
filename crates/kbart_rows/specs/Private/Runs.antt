-- The rows that match the identifiers of a request, read from an index.
use Rattle.std.specs.Prelude.{ℕ, ◌≤◌, ◌<◌, zero, suc, List, [], length, get_or, Option, Bool}
use Rattle.text_model.specs.Texts.{Text}
use Rattle.kbart_rows.specs.Cells.{Holdings}
use Rattle.kbart_rows.specs.Hashing.{hash_of}
use Rattle.kbart_rows.specs.Identifiers.{identifier_columns, is_match}
use Rattle.kbart_rows.specs.Private.Index.{AreSmall, HasEntries, IsAhead, IsOrdered, half_of, head_of}
use Rattle.kbart_rows.specs.Private.Kept.{lesser_of}
use Rattle.kbart_rows.specs.declared.keys.Keys.{Keys}
use Rattle.kbart_rows.specs.declared.runs.Run.{Run}
use Rattle.kbart_rows.specs.declared.runs.Runs.{Runs}

-- the least row that a run has reached
abbrev pub least : Runs → Option ℕ
least runs = lesser_of (lesser_of (head_of runs.entries.now runs.first) (head_of runs.entries.now runs.second)) (head_of runs.entries.now runs.third)

-- a run by its number
abbrev pub run_of : Runs → ℕ → Run
run_of runs zero = runs.first
run_of runs (suc zero) = runs.second
run_of runs (suc (suc n)) = runs.third

-- each identifier has a run, and all its rows before that one are before `from`
abbrev pub AreAhead : Keys → List Text → ℕ → Runs → Type 0
AreAhead keys ids from runs = (k : ℕ) → k < length ids → IsAhead runs.entries.now from (half_of (hash_of keys (get_or ids k []))) (run_of runs k)

-- no row at or after `from` that has one of the identifiers is before its run
pub record AreReady (table : Holdings) (ids : List Text) (from : ℕ) (runs : Runs) : Type 0 where
  pub order : IsOrdered runs.entries.now
  pub entries_small : AreSmall runs.entries.now
  pub has : HasEntries table.keys (identifier_columns table.header) table.rows runs.entries.now
  pub few : length ids ≤ 3
  pub small : length table.rows < 4294967296
  pub ahead : AreAhead table.keys ids from runs

-- the row of a table has one of the identifiers
abbrev pub matches : Holdings → List Text → ℕ → Bool
matches table ids row = is_match (identifier_columns table.header) ids (get_or table.rows row [])
