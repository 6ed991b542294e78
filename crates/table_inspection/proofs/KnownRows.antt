-- Which rows have an identifier, and whether an earlier one does.
use Rattle.std.proofs.Common.{◌≡◌, ℕ, ◌+◌, ◌≤◌, ◌<◌, ◌||◌, Bool, true, false, cond, zero, suc, List, [], ◌∷◌, Option, Some, None, filter, get_or}
use Rattle.std.proofs.Common.{length, take, min, refl, sym, ap, subst, ◌∙◌, arith, codes, nat_le, nat_lt, if◌then◌else◌, All}
use Rattle.std.proofs.lemmas.Bool.{false≢true}
use Rattle.std.proofs.lemmas.List.{get_or-take, get_or_default, length-append, length-take, take_all}
use Rattle.std.proofs.lemmas.List.Elements.{All-head, All-tail}
use Rattle.std.proofs.lemmas.List.Filters.{length-filter_more}
use Rattle.std.proofs.lemmas.List.FromFn.{length-range_with_len}
use Rattle.std.proofs.lemmas.List.Folds.{list_any-append, list_any_at}
use Rattle.std.proofs.lemmas.List.Sums.{count_by-le-length, length-filter}
use Rattle.std.proofs.Math.Bool.{or-false}
use Rattle.std.specs.List.{filter_map, flat_map, list_any, range_with_len}
use Rattle.std.specs.Str.{bytes_eq}
use Rattle.text_model.specs.Texts.{Text}
use Rattle.kbart_rows.specs.Cells.{Holdings, Row, column_of, defined}
use Rattle.kbart_rows.specs.Identifiers.{first_from, has_identifier, identifier_columns, identifiers_in, is_match, matching_rows}
use Rattle.kbart_rows.specs.Sharing.{row_has}
use Rattle.kbart_rows.proofs.MatchLemmas.{has_within}
use Rattle.table_inspection.specs.Columns.{is_empty_text}
use Rattle.table_inspection.specs.Identifiers.{identifiers_of, row_identifiers, rows_having}
use Rattle.table_inspection.specs.Private.Tallying.{ids_before, is_before, rows_in}
use Rattle.table_inspection.proofs.Ranges.{filter_more}

-- ---- an identifier that is not empty

same_any : (b : ℕ) (id : Text) (texts : List Text) → list_any (bytes_eq (b ∷ id)) (filter_map defined texts) ≡ list_any (bytes_eq (b ∷ id)) texts
same_any b id [] = refl
same_any b id ([] ∷ texts) = same_any b id texts
same_any b id ((c ∷ text) ∷ texts) = ap (λ later. bytes_eq (b ∷ id) (c ∷ text) || later) (same_any b id texts)

pub row_any : (columns : List (Option ℕ)) (cells : Row) (id : Text) → is_empty_text id ≡ false
    → list_any (bytes_eq id) (row_identifiers columns cells) ≡ has_identifier columns id cells
row_any columns cells [] some = absurd (false≢true (sym some))
row_any columns cells (b ∷ id) some = same_any b id (identifiers_in columns cells)

-- ---- how many rows

one_if : (b : Bool) (n : ℕ) → length (if b then n ∷ [] else []) ≡ cond b 1 0
one_if true n = refl
one_if false n = refl

count_step : (test : Row → Bool) (rows : List Row) (n : ℕ) → n < length rows
    → length (filter (λ row. test (get_or rows row [])) (range_with_len 0 n)) ≡ length (filter test (take n rows))
    → length (filter (λ row. test (get_or rows row [])) (range_with_len 0 (n + 1))) ≡ length (filter test (take (n + 1) rows))
count_step test rows n inside so_far =
    let passes : ℕ → Bool = λ row. test (get_or rows row []) in
    let more = ap length (filter_more passes n) in
    let size = length-append (filter passes (range_with_len 0 n)) (if passes n then n ∷ [] else []) in
    let one = one_if (passes n) n in
    let here = length-filter_more test rows n [] inside in
    omega (arith, more, size, one, here, so_far)

count_all : (test : Row → Bool) (rows : List Row) (n : ℕ) → n ≤ length rows
    → length (filter (λ row. test (get_or rows row [])) (range_with_len 0 n)) ≡ length (filter test (take n rows))
count_all test rows zero le = refl
count_all test rows (suc n) le =
    let next : n + 1 ≡ suc n = omega arith in
    subst (λ (m : ℕ). length (filter (λ row. test (get_or rows row [])) (range_with_len 0 m)) ≡ length (filter test (take m rows))) next
    (count_step test rows n (omega (arith, le)) (count_all test rows n (omega (arith, le))))

pub rows_are : (table : Holdings) (id : Text) → is_empty_text id ≡ false → rows_in table id ≡ length (matching_rows table (id ∷ []))
unfolding rows_having
rows_are table id some =
    let columns = identifier_columns table.header in
    let has : Row → Bool = λ cells. list_any (bytes_eq id) (row_identifiers columns cells) in
    let matches : Row → Bool = is_match columns (id ∷ []) in
    let same : has ≡ matches = λ i cells. (row_any columns cells id some ∙ sym (or-false (has_identifier columns id cells))) i in
    sym (length-filter has table.rows) ∙ ap (λ (test : Row → Bool). length (filter test table.rows)) same
    ∙ ap (λ rows. length (filter matches rows)) (sym (take_all (length table.rows) table.rows (omega arith)))
    ∙ sym (count_all matches table.rows (length table.rows) (omega arith))

pub few_matches : (table : Holdings) (ids : List Text) → length (matching_rows table ids) ≤ length table.rows
few_matches table ids =
    let test : ℕ → Bool = λ row. is_match (identifier_columns table.header) ids (get_or table.rows row []) in
    let count = length-filter test (range_with_len 0 (length table.rows)) in
    let few = count_by-le-length test (range_with_len 0 (length table.rows)) in
    let size = length-range_with_len 0 (length table.rows) in
    omega (arith, count, few, size)

-- ---- earlier rows

any_before : (columns : List (Option ℕ)) (rows : List Row) (id : Text)
    → list_any (bytes_eq id) (identifiers_of columns rows) ≡ list_any (λ cells. list_any (bytes_eq id) (row_identifiers columns cells)) rows
unfolding identifiers_of
any_before columns [] id = refl
any_before columns (cells ∷ rows) id =
    list_any-append (bytes_eq id) (row_identifiers columns cells) (flat_map (row_identifiers columns) rows)
    ∙ ap (λ later. list_any (bytes_eq id) (row_identifiers columns cells) || later) (any_before columns rows id)

-- a row that has an identifier is one of the rows
pub inside_of : (table : Holdings) (row : ℕ) (id : Text) → row_has table row id ≡ true → row < length table.rows
inside_of table row id has =
    has_within (column_of table.header (codes "print_identifier")) (column_of table.header (codes "online_identifier")) table.rows id row has

-- an earlier row has it
pub known_in : (table : Holdings) (row other : ℕ) (id : Text) → other < row → other < length table.rows
    → list_any (bytes_eq id) (row_identifiers (identifier_columns table.header) (get_or table.rows other [])) ≡ true
    → list_any (bytes_eq id) (ids_before table row) ≡ true
known_in table row other id before within has =
    let columns = identifier_columns table.header in
    let rows = take row table.rows in
    let test : Row → Bool = λ cells. list_any (bytes_eq id) (row_identifiers columns cells) in
    let size = length-take row table.rows in
    let at : get_or rows other [] ≡ get_or table.rows other [] = get_or-take row table.rows other [] before in
    any_before columns rows id ∙ list_any_at test rows other [] (omega (arith, before, within, size)) (ap test at ∙ has)

known_of : (table : Holdings) (row other : ℕ) (id : Text) → is_empty_text id ≡ false → other < row → row_has table other id ≡ true
    → list_any (bytes_eq id) (ids_before table row) ≡ true
known_of table row other id some before has =
    known_in table row other id before (inside_of table other id has)
    (row_any (identifier_columns table.header) (get_or table.rows other []) id some ∙ has)

none_any : (test : Row → Bool) (rows : List Row) → All (λ cells. test cells ≡ false) rows → list_any test rows ≡ false
none_any test [] all = refl
none_any test (cells ∷ rows) all =
    let here = All-head (λ cells. test cells ≡ false) cells rows all in
    rw here (none_any test rows (All-tail (λ cells. test cells ≡ false) cells rows all))

-- no earlier row has it
pub unknown_of : (table : Holdings) (row : ℕ) (id : Text) → is_empty_text id ≡ false
    → ((other : ℕ) → row_has table other id ≡ true → row ≤ other) → list_any (bytes_eq id) (ids_before table row) ≡ false
unknown_of table row id some none =
    any_before (identifier_columns table.header) (take row table.rows) id
    ∙ none_any (λ cells. list_any (bytes_eq id) (row_identifiers (identifier_columns table.header) cells)) (take row table.rows) fails
  where
    fails : All (λ cells. list_any (bytes_eq id) (row_identifiers (identifier_columns table.header) cells) ≡ false) (take row table.rows)
    fails k d inside = by_test (row_has table k id) refl
      where
        size : length (take row table.rows) ≡ min row (length table.rows)
        size = length-take row table.rows

        before : k < row
        before = omega (arith, inside, size)

        at : get_or (take row table.rows) k d ≡ get_or table.rows k []
        at = get_or-take row table.rows k d before ∙ get_or_default table.rows k d [] (omega (arith, inside, size))

        by_test : (b : Bool) → row_has table k id ≡ b
            → list_any (bytes_eq id) (row_identifiers (identifier_columns table.header) (get_or (take row table.rows) k d)) ≡ false
        by_test true has = let late = none k has in absurd (omega (arith, late, before))
        by_test false not =
            ap (λ cells. list_any (bytes_eq id) (row_identifiers (identifier_columns table.header) cells)) at
            ∙ row_any (identifier_columns table.header) (get_or table.rows k []) id some ∙ not

-- ---- the first row

-- the first of these numbers that passes the test, if one does
abbrev IsFirst : (ℕ → Bool) → ℕ → ℕ → Option ℕ → Type 0
IsFirst test a n None = (other : ℕ) → a ≤ other → other < a + n → test other ≡ false
IsFirst test a n (Some first) = (test first ≡ true) × ((other : ℕ) → a ≤ other → other < a + n → test other ≡ true → first ≤ other)

one_before : (test : ℕ → Bool) (a n : ℕ) (found : Option ℕ) → test a ≡ false → IsFirst test (a + 1) n found → IsFirst test a (suc n) found
one_before test a n None fails later = λ other low high. by_test other low high (nat_lt a other) refl
  where
    by_test : (other : ℕ) → a ≤ other → other < a + suc n → (b : Bool) → nat_lt a other ≡ b → test other ≡ false
    by_test other low high true less =
        let past : a < other = grind arith in
        later other (omega (arith, past)) (omega (arith, high))
    by_test other low high false more =
        let end : other ≤ a = grind arith in
        let is : other ≡ a = omega (arith, low, end) in
        ap test is ∙ fails
one_before test a n (Some first) fails later = (later.0, λ other low high passes. by_test other low high passes (nat_lt a other) refl)
  where
    by_test : (other : ℕ) → a ≤ other → other < a + suc n → test other ≡ true → (b : Bool) → nat_lt a other ≡ b → first ≤ other
    by_test other low high passes true less =
        let past : a < other = grind arith in
        later.1 other (omega (arith, past)) (omega (arith, high)) passes
    by_test other low high passes false more =
        let end : other ≤ a = grind arith in
        let is : other ≡ a = omega (arith, low, end) in
        absurd (false≢true (sym fails ∙ ap test (sym is) ∙ passes))

first_is : (test : ℕ → Bool) (a n : ℕ) → IsFirst test a n (first_from 0 (filter test (range_with_len a n)))
first_is test a zero = λ other low high. absurd (omega (arith, low, high))
first_is test a (suc n) = by_test (test a) refl (first_is test (a + 1) n)
  where
    by_test : (b : Bool) → test a ≡ b → IsFirst test (a + 1) n (first_from 0 (filter test (range_with_len (a + 1) n)))
        → IsFirst test a (suc n)
        (first_from 0 (cond b (a ∷ filter test (range_with_len (a + 1) n)) (filter test (range_with_len (a + 1) n))))
    by_test true passes later =
        let low : nat_le 0 a ≡ true = grind arith in
        rw low (passes, λ other above high others. above)
    by_test false fails later = one_before test a n _ fails later

pub known_by_first : (table : Holdings) (row : ℕ) (id : Text) (found : Option ℕ) → is_empty_text id ≡ false
    → found ≡ first_from 0 (matching_rows table (id ∷ [])) → is_before found row ≡ list_any (bytes_eq id) (ids_before table row)
known_by_first table row id found some is = by_case found (subst (IsFirst test 0 (length table.rows)) (sym is) (first_is test 0 (length table.rows)))
  where
    test : ℕ → Bool
    test row = is_match (identifier_columns table.header) (id ∷ []) (get_or table.rows row [])

    by_case : (found : Option ℕ) → IsFirst test 0 (length table.rows) found → is_before found row ≡ list_any (bytes_eq id) (ids_before table row)
    by_case None none = sym (unknown_of table row id some (λ other has.
        absurd (false≢true (sym (none other (omega arith) (let within = inside_of table other id has in omega (arith, within)))
        ∙ or-false (row_has table other id) ∙ has))))
    by_case (Some first) least = by_test (nat_lt first row) refl
      where
        has_first : row_has table first id ≡ true
        has_first = sym (or-false (row_has table first id)) ∙ least.0

        by_test : (b : Bool) → nat_lt first row ≡ b → b ≡ list_any (bytes_eq id) (ids_before table row)
        by_test true less =
            let before : first < row = grind arith in
            sym (known_of table row first id some before has_first)
        by_test false more =
            let late : row ≤ first = grind arith in
            sym (unknown_of table row id some (λ other has.
            let within = inside_of table other id has in
            let low = least.1 other (omega arith) (omega (arith, within)) (or-false (row_has table other id) ∙ has) in
            omega (arith, late, low)))
