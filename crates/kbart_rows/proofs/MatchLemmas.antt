-- The rows that match, found by runs through an index.
use Rattle.std.proofs.Common.{◌≡◌, ℕ, ◌+◌, ◌≤◌, ◌<◌, ◌||◌, Bool, true, false, cond, zero, suc, List, [], ◌∷◌, Option, Some, None, filter, get_or, length, codes}
use Rattle.std.proofs.lemmas.Grind.{common_steps}
use Rattle.std.proofs.Common.{refl, sym, subst, arith, true≢false}
use Rattle.std.specs.List.{list_any, range_with_len}
use Rattle.text_model.specs.Texts.{Text}
use Rattle.kbart_rows.specs.Cells.{Holdings, Row, column_of}
use Rattle.kbart_rows.specs.Hashing.{hash_of}
use Rattle.kbart_rows.specs.Identifiers.{first_from, has_identifier, identifier_columns, matching_rows}
use Rattle.kbart_rows.specs.Private.Index.{IsAhead, half_of, head_of, passed}
use Rattle.kbart_rows.specs.Private.Kept.{lesser_of}
use Rattle.kbart_rows.specs.Private.Runs.{AreReady, least, matches, run_of}
use Rattle.kbart_rows.specs.declared.index.Entry.{Entry}
use Rattle.kbart_rows.specs.declared.runs.Run.{Run}
use Rattle.kbart_rows.specs.declared.runs.Runs.{Runs}
use Rattle.kbart_rows.proofs.RunLemmas.{HasLow, ahead_passed, head_is, head_low, least_low, left_less, left_of, left_passed, one_of}

-- ---- the rows that match

-- a row with an identifier is one of the rows
pub has_within : (print online : Option ℕ) (rows : List Row) (id : Text) (row : ℕ) → has_identifier (print ∷ online ∷ []) id (get_or rows row []) ≡ true
    → row < length rows
has_within print online rows id row has = grind (arith, common_steps)

-- the identifier that a row has
abbrev HasOne : (Text → Bool) → List Text → Type 0
HasOne test ids = (k : ℕ) × (k < length ids) × (test (get_or ids k []) ≡ true)

any_at : (test : Text → Bool) (ids : List Text) → list_any test ids ≡ true → HasOne test ids
any_at test [] any = absurd (true≢false (sym any))
any_at test (id ∷ ids) any = by_test (test id) refl (any_at test ids) any
  where
    by_test : (b : Bool) → test id ≡ b → (list_any test ids ≡ true → HasOne test ids) → (b || list_any test ids) ≡ true → HasOne test (id ∷ ids)
    by_test true here later any = (0, omega arith, here)
    by_test false not_here later any =
        let found = later any in
        let inside = found.1 in
        (suc found.0, omega (arith, inside), found.2)

-- a row that matches is one of the rows, and not before the least row of its runs
pub match_within : (table : Holdings) (ids : List Text) (row : ℕ) → matches table ids row ≡ true → row < length table.rows
match_within table ids row match =
    let found = any_at (λ id. has_identifier (identifier_columns table.header) id (get_or table.rows row [])) ids match in
    has_within (column_of table.header (codes "print_identifier")) (column_of table.header (codes "online_identifier")) table.rows (get_or ids found.0 []) row
    found.2

pub match_reached : (table : Holdings) (ids : List Text) (from row : ℕ) (runs : Runs) → AreReady table ids from runs → matches table ids row ≡ true → from ≤ row
    → HasLow (least runs) row
match_reached table ids from row runs ready match low =
    let found = any_at (λ id. has_identifier (identifier_columns table.header) id (get_or table.rows row [])) ids match in
    let k = found.0 in
    let id = get_or ids k [] in
    let within = match_within table ids row match in
    let small = ready.small in
    least_low runs k row
    (head_low runs.entries.now from (half_of (hash_of table.keys id)) row (run_of runs k) ready.order (ready.ahead k found.1) (omega (arith, within, small))
    (ready.has row id found.2) low)

-- the least row fits an entry
pub least_small : (table : Holdings) (ids : List Text) (from row : ℕ) (runs : Runs) → AreReady table ids from runs → least runs ≡ Some row → row < 4294967296
least_small table ids from row runs ready is =
    let entries = runs.entries.now in
    one_of (row < 4294967296) (lesser_of (head_of entries runs.first) (head_of entries runs.second)) (head_of entries runs.third) row is
    (λ both. one_of (row < 4294967296) (head_of entries runs.first) (head_of entries runs.second) row both (one runs.first) (one runs.second)) (one runs.third)
  where
    one : (run : Run) → head_of runs.entries.now run ≡ Some row → row < 4294967296
    one run here =
        let entry : Entry = record { hash = 0; row = 0 } in
        let at = head_is runs.entries.now run row entry here in
        let fits = ready.entries_small run.at entry at.0 in
        let same = at.1 in
        omega (arith, fits, same)

-- the runs after a row are ready for the later ones
pub ready_passed : (table : Holdings) (ids : List Text) (from to row : ℕ) (old new : Runs) → new.entries ≡ old.entries
    → new.first ≡ passed old.entries.now row old.first → new.second ≡ passed old.entries.now row old.second
    → new.third ≡ passed old.entries.now row old.third → from ≤ to → row < to → AreReady table ids from old → AreReady table ids to new
ready_passed table ids from to row old new entries first second third later past ready =
    let entries_now = old.entries.now in
    let moved : Runs = record {
      entries = old.entries;
      first = passed entries_now row old.first;
      second = passed entries_now row old.second;
      third = passed entries_now row old.third;
    } in
    let same : moved ≡ new = sym (λ i. record { entries = entries i; first = first i; second = second i; third = third i }) in
    subst (AreReady table ids to) same (grind (arith, each))
  where
    each : (k : ℕ) → k < length ids → IsAhead old.entries.now to (half_of (hash_of table.keys (get_or ids k [])))
        (run_of (record {
          entries = old.entries;
          first = passed old.entries.now row old.first;
          second = passed old.entries.now row old.second;
          third
              = passed old.entries.now row old.third;
        }) k)
    each zero inside = ahead_passed old.entries.now from to (half_of (hash_of table.keys (get_or ids 0 []))) row old.first later past (ready.ahead 0 inside)
    each (suc zero) inside = ahead_passed old.entries.now from to (half_of (hash_of table.keys (get_or ids 1 []))) row old.second later past
        (ready.ahead 1 inside)
    each (suc (suc k)) inside = ahead_passed old.entries.now from to (half_of (hash_of table.keys (get_or ids (suc (suc k)) []))) row old.third later past
        (ready.ahead (suc (suc k)) inside)

-- ---- the first row that matches

abbrev IsLeast : (ℕ → Bool) → ℕ → ℕ → Type 0
IsLeast test from row = (other : ℕ) → test other ≡ true → from ≤ other → row ≤ other

first_in : (test : ℕ → Bool) (from row : ℕ) → test row ≡ true → from ≤ row → IsLeast test from row → (first n : ℕ)
    → first ≤ row → row < first + n → first_from from (filter test (range_with_len first n)) ≡ Some row
first_in test from row is low least first zero after before = absurd (omega (arith, after, before))
first_in test from row is low least first (suc n) after before = by_test (first_in test from row is low least (first + 1) n) (test first) refl
  where
    by_test : (first + 1 ≤ row → row < first + 1 + n → first_from from (filter test (range_with_len (first + 1) n)) ≡ Some row) → (b : Bool) → test first ≡ b
        → first_from from (cond b (first ∷ filter test (range_with_len (first + 1) n)) (filter test (range_with_len (first + 1) n))) ≡ Some row
    by_test next b passes = grind (arith, common_steps)

pub first_match : (table : Holdings) (ids : List Text) (from row : ℕ) → matches table ids row ≡ true → from ≤ row → row < length table.rows
    → ((other : ℕ) → matches table ids other ≡ true → from ≤ other → row ≤ other) → first_from from (matching_rows table ids) ≡ Some row
first_match table ids from row is low within least =
    first_in (matches table ids) from row is low least 0 (length table.rows) (omega arith) (omega (arith, within))

pub none_in : (test : ℕ → Bool) (from : ℕ) → ((row : ℕ) → test row ≡ true → from ≤ row → ⊥) → (first n : ℕ)
    → first_from from (filter test (range_with_len first n)) ≡ None
none_in test from none first zero = refl
none_in test from none first (suc n) = by_test (none_in test from none (first + 1) n) (test first) refl
  where
    by_test : first_from from (filter test (range_with_len (first + 1) n)) ≡ None → (b : Bool) → test first ≡ b
        → first_from from (cond b (first ∷ filter test (range_with_len (first + 1) n)) (filter test (range_with_len (first + 1) n))) ≡ None
    by_test next b passes = grind arith

abbrev pub all_left : Runs → ℕ
all_left runs = left_of runs.entries.now runs.first + left_of runs.entries.now runs.second + left_of runs.entries.now runs.third

-- less is left after the least row
pub less_left : (old new : Runs) (row : ℕ) → new.entries ≡ old.entries → new.first ≡ passed old.entries.now row old.first
    → new.second ≡ passed old.entries.now row old.second → new.third ≡ passed old.entries.now row old.third → least old ≡ Some row
    → all_left new < all_left old
less_left old new row entries first second third is = grind (arith, left_less, left_passed)
