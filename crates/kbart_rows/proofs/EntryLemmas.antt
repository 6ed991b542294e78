-- The entries of one more row.
use Rattle.std.proofs.Common.{◌≡◌, ℕ, ◌+◌, ◌*◌, ◌≤◌, ◌<◌, ◌||◌, Bool, true, false, List, [], ◌∷◌, ◌++◌}
use Rattle.std.proofs.lemmas.Grind.{common_steps}
use Rattle.std.proofs.Common.{Option, ap, arith, drop, get_or, length, nat_lt, option_map, refl, subst, sym, take, ◌∙◌, true≢false}
use Rattle.std.proofs.lemmas.Bool.Decides.{nat_tests}
use Rattle.std.proofs.lemmas.List.Elements.{All-append, Contains-append_left, Contains-append_right}
use Rattle.std.proofs.lemmas.Slice.Eq.{bytes_eq-Decides}
use Rattle.std.specs.List.{Contains}
use Rattle.std.specs.Option.{option_to_list}
use Rattle.text_model.specs.Texts.{Text}
use Rattle.kbart_rows.specs.Cells.{Row}
use Rattle.kbart_rows.specs.Identifiers.{has_identifier, identifier_in}
use Rattle.kbart_rows.specs.Private.Index.{AreSmall, AreStarts, entry_for}
use Rattle.kbart_rows.specs.Private.Kept.{is_id}
use Rattle.kbart_rows.specs.declared.index.Entry.{Entry}
use Rattle.kbart_rows.specs.declared.keys.Keys.{Keys}
use Rattle.kbart_rows.proofs.Rows.{one_of_two}

abbrev pub entries_for : Keys → ℕ → Option Text → List Entry
entries_for keys row id = option_to_list (option_map (entry_for keys row) id)

abbrev pub HasSoFar : Keys → Option ℕ → Option ℕ → List Row → ℕ → List Entry → Type 0
HasSoFar keys print online rows done entries = (row : ℕ) (id : Text) → row < done → has_identifier (print ∷ online ∷ []) id (get_or rows row []) ≡ true
    → Contains entries (entry_for keys row id)

its_own : (keys : Keys) (row : ℕ) (id : Text) (found : Option Text) → is_id id found ≡ true → Contains (entries_for keys row found) (entry_for keys row id)
its_own keys row id found is = grind (arith, bytes_eq-Decides)

small_row : (keys : Keys) (row : ℕ) (found : Option Text) → row < 4294967296 → AreSmall (entries_for keys row found)
small_row keys row found small = grind (arith, common_steps)

pub small_more : (keys : Keys) (row : ℕ) (a b : Option Text) (old : List Entry) → row < 4294967296 → AreSmall old
    → AreSmall ((old ++ entries_for keys row a) ++ entries_for keys row b)
small_more keys row a b old small all = All-append (λ (entry : Entry). entry.row < 4294967296) (old ++ entries_for keys row a) (entries_for keys row b)
    (All-append (λ (entry : Entry). entry.row < 4294967296) old (entries_for keys row a) all (small_row keys row a small)) (small_row keys row b small)

pub few_more : (keys : Keys) (row : ℕ) (a b : Option Text) (old : List Entry) → length old ≤ 2 * row
    → length ((old ++ entries_for keys row a) ++ entries_for keys row b) ≤ 2 * (row + 1)
few_more keys row a b old few = grind (arith, common_steps)

pub has_more : (keys : Keys) (print online : Option ℕ) (rows : List Row) (row : ℕ) (cells : Row) (old : List Entry) → cells ≡ get_or rows row []
    → HasSoFar keys print online rows row old
    → HasSoFar keys print online rows (row + 1) ((old ++ entries_for keys row (identifier_in cells print)) ++ entries_for keys row (identifier_in cells online))
has_more keys print online rows row cells old at so_far other id less has = by_test (nat_lt other row) refl
  where
    by_id : (p q : Bool) → is_id id (identifier_in cells print) ≡ p → is_id id (identifier_in cells online) ≡ q → (p || q) ≡ true
        → Contains ((old ++ entries_for keys row (identifier_in cells print)) ++ entries_for keys row (identifier_in cells online)) (entry_for keys row id)
    by_id true q is_first is_second any = Contains-append_left (old ++ entries_for keys row (identifier_in cells print))
        (entries_for keys row (identifier_in cells online)) (entry_for keys row id)
        (Contains-append_right old (entries_for keys row (identifier_in cells print)) (entry_for keys row id) (its_own keys row id (identifier_in
        cells print) is_first))
    by_id false true is_first is_second any = Contains-append_right (old ++ entries_for keys row (identifier_in cells print))
        (entries_for keys row (identifier_in cells online)) (entry_for keys row id) (its_own keys row id (identifier_in cells online) is_second)
    by_id false false is_first is_second any = absurd (true≢false (sym any))

    by_test : (x : Bool) → nat_lt other row ≡ x
        → Contains ((old ++ entries_for keys row (identifier_in cells print)) ++ entries_for keys row (identifier_in cells online)) (entry_for keys other id)
    by_test true early =
        let before : other < row = grind arith in
        Contains-append_left (old ++ entries_for keys row (identifier_in cells print)) (entries_for keys row (identifier_in cells online)) (entry_for
        keys other id)
        (Contains-append_left old (entries_for keys row (identifier_in cells print)) (entry_for keys other id) (so_far other id before has))
    by_test false late = grind (arith, nat_tests, by_id, one_of_two)

-- a slice that was written as a whole is its vector
pub written : (xs ys : List Entry) → take (length xs) (xs ++ ys) ≡ xs
written [] ys = refl
written (x ∷ xs) ys = ap (λ rest. x ∷ rest) (written xs ys)

pub sorted_same : (len : ℕ) (new items whole : List Entry) → whole ≡ take len (new ++ drop (length new) items) → length new ≡ len → whole ≡ new
sorted_same len new items whole is size = is ∙ ap (λ n. take n (new ++ drop (length new) items)) (sym size) ∙ written new (drop (length new) items)

pub starting_same : {shift : ℕ} (old new : List Entry) (starts : List ℕ) → old ≡ new → AreStarts shift old starts → AreStarts shift new starts
starting_same {shift} old new starts same are = subst (λ entries. AreStarts shift entries starts) same are
