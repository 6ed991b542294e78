-- Runs through the entries of an index.
use Rattle.std.proofs.Common.{◌≡◌, ℕ, ◌-◌, ◌≤◌, ◌<◌, ◌==◌, true, zero, suc, List, Option, Some, None, get_or, length, ap, arith}
use Rattle.std.proofs.lemmas.Grind.{common_steps}
use Rattle.std.proofs.lemmas.Bool.{eqb-true}
use Rattle.std.proofs.lemmas.Option.{get_or_from_slice_get, none-some, slice_get-get_or, slice_get_within}
use Rattle.std.specs.List.{Contains}
use Rattle.kbart_rows.specs.Private.Index.{IsAhead, IsOrdered, head_of, passed, row_at}
use Rattle.kbart_rows.specs.Private.Kept.{lesser_of}
use Rattle.kbart_rows.specs.Private.Runs.{least, run_of}
use Rattle.kbart_rows.specs.declared.index.Entry.{Entry}
use Rattle.kbart_rows.specs.declared.runs.Run.{Run}
use Rattle.kbart_rows.specs.declared.runs.Runs.{Runs}

-- ---- one run

-- there is a row, and it is not past the bound
abbrev pub HasLow : Option ℕ → ℕ → Type 0
HasLow found bound = (row : ℕ) × (found ≡ Some row) × (row ≤ bound)

row_of_hash : (hash : ℕ) (entry : Entry) → entry.hash ≡ hash → row_at hash entry ≡ Some entry.row
row_of_hash hash entry is = grind (arith, common_steps)

pub head_low : (entries : List Entry) (from wanted row : ℕ) (run : Run) → IsOrdered entries → IsAhead entries from wanted run → row < 4294967296
    → Contains entries (record { hash = wanted; row = row }) → from ≤ row → HasLow (head_of entries run) row
head_low entries from wanted row run order ahead small has low =
    let entry : Entry = record { hash = wanted; row = row } in
    let k = has.0 in
    let inside = has.1 in
    let is : get_or entries k entry ≡ entry = has.2 in
    let hash_is : (get_or entries k entry).hash ≡ wanted = ap (λ (e : Entry). e.hash) is in
    let row_is : (get_or entries k entry).row ≡ row = ap (λ (e : Entry). e.row) is in
    let reached : run.at ≤ k = ahead.ahead k entry inside hash_is (omega (arith, low, row_is)) in
    let within : run.at < length entries = omega (arith, reached, inside) in
    let above = ahead.low run.at entry (omega arith) within in
    let sorted = order run.at k entry reached inside in
    let run_hash = ahead.hash in
    let same : (get_or entries run.at entry).hash ≡ run.hash = omega (arith, above, sorted, hash_is, row_is, small, run_hash) in
    let before : (get_or entries run.at entry).row ≤ row = omega (arith, above, sorted, hash_is, row_is, small) in
    let found : head_of entries run ≡ Some (get_or entries run.at entry).row =
    rw (slice_get-get_or entries run.at entry within) (row_of_hash run.hash (get_or entries run.at entry) same) in
    ((get_or entries run.at entry).row, found, before)

-- a run that has reached a row is at an entry with that row
pub head_is : (entries : List Entry) (run : Run) (row : ℕ) (d : Entry) → head_of entries run ≡ Some row
    → (run.at < length entries) × ((get_or entries run.at d).row ≡ row)
head_is entries run row d is = grind (arith, none-some, get_or_from_slice_get, slice_get_within)

-- a run that passes a row is ahead of the later rows
pub ahead_passed : (entries : List Entry) (from to wanted row : ℕ) (run : Run) → from ≤ to → row < to → IsAhead entries from wanted run
    → IsAhead entries to wanted (passed entries row run)
ahead_passed entries from to wanted row run later past ahead = grind (arith, head_is, eqb-true)

-- ---- how much is left

abbrev pub left_of : List Entry → Run → ℕ
left_of entries run = length entries - run.at

pub left_passed : (entries : List Entry) (row : ℕ) (run : Run) → left_of entries (passed entries row run) ≤ left_of entries run
left_passed entries row run = grind (arith, common_steps)

pub left_less : (entries : List Entry) (row : ℕ) (run : Run) → head_of entries run ≡ Some row → left_of entries (passed entries row run) < left_of entries run
left_less entries row run is =
    let within = (head_is entries run row (record { hash = 0; row = 0 }) is).0 in
    let same : (row == row) ≡ true = grind arith in
    rw is rw same (omega (arith, within))

-- ---- the least of three rows

pub one_of : (P : Type 0) (a b : Option ℕ) (row : ℕ) → lesser_of a b ≡ Some row → (a ≡ Some row → P) → (b ≡ Some row → P) → P
one_of P None b row is first second = second is
one_of P (Some x) None row is first second = first is
one_of P (Some x) (Some y) row is first second = grind (arith, common_steps)

low_left : (a b : Option ℕ) (bound : ℕ) → HasLow a bound → HasLow (lesser_of a b) bound
low_left None b bound low = absurd (none-some low.0 low.1)
low_left (Some x) None bound low = low
low_left (Some x) (Some y) bound low = grind (arith, common_steps)

low_right : (a b : Option ℕ) (bound : ℕ) → HasLow b bound → HasLow (lesser_of a b) bound
low_right None b bound low = low
low_right (Some x) None bound low = absurd (none-some low.0 low.1)
low_right (Some x) (Some y) bound low = grind (arith, common_steps)

pub least_low : (runs : Runs) (k bound : ℕ) → HasLow (head_of runs.entries.now (run_of runs k)) bound → HasLow (least runs) bound
least_low runs zero bound low = grind (arith, low_left)
least_low runs (suc zero) bound low = grind (arith, low_left, low_right)
least_low runs (suc (suc k)) bound low = grind (arith, low_right)
