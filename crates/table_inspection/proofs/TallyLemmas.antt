-- One more identifier in a tally.
use Rattle.std.proofs.Common.{◌≡◌, ℕ, ◌+◌, ◌≤◌, ◌++◌, Bool, true, false, List, [], ◌∷◌, length, Some, sym}
use Rattle.std.proofs.Common.{ap, subst, ◌∙◌, arith, append-nil, append_assoc, if◌then◌else◌, ◌||◌, ◌<◌, get_or, refl, take, Option, option_map}
use Rattle.std.proofs.Math.Bool.{or-false, or-true}
use Rattle.std.proofs.lemmas.Bool.{false≢true}
use Rattle.std.proofs.lemmas.List.Folds.{list_any-append}
use Rattle.std.proofs.lemmas.Slice.Eq.{bytes_eq-Decides}
use Rattle.std.specs.Prelude.{nat_lt}
use Rattle.std.specs.List.{cons_option, filter_map, list_any}
use Rattle.std.specs.Option.{option_to_list}
use Rattle.std.specs.Str.{bytes_eq}
use Rattle.text_model.specs.Texts.{Text}
use Rattle.std.proofs.lemmas.List.{take_all, take_more}
use Rattle.kbart_rows.specs.Cells.{Holdings, Row, cell_in, defined}
use Rattle.kbart_rows.specs.Identifiers.{identifier_columns, normalised}
use Rattle.table_inspection.specs.Columns.{is_empty_text}
use Rattle.table_inspection.specs.Identifiers.{distinct, identifiers_of, row_identifiers}
use Rattle.table_inspection.specs.Private.Counting.{new_among}
use Rattle.table_inspection.specs.Private.Tallying.{AreIdsOf, AreTallied, IsMostIn, IsMostOf, IsTallied, ids_before, rows_in}
use Rattle.table_inspection.specs.declared.most_rows.Most.{Most}
use Rattle.table_inspection.specs.declared.tally.RowIds.{RowIds}
use Rattle.table_inspection.specs.declared.tally.Tally.{Tally}
use Rattle.table_inspection.proofs.CountingLemmas.{distinct_option, identifiers_more}
use Rattle.table_inspection.proofs.MostLemmas.{defined_is, most_kept, most_of_known}
use Rattle.table_inspection.proofs.Ranges.{not_none}

-- one that is counted already
pub add_counted : (number : Text → ℕ) (ids : List Text) (id : Text) (tally : Tally) → list_any (bytes_eq id) ids ≡ true → AreTallied number ids tally
    → AreTallied number (ids ++ id ∷ []) tally
add_counted number ids id tally known old =
    let same = distinct_option ids (Some id) in
    let none : new_among (λ x. list_any (bytes_eq x) ids) (Some id) ≡ 0 = ap (λ (b : Bool). if b then 0 else 1) known in
    let counts = old.counts in
    record {
      counts = omega (arith, counts, same, none);
      most = record { first = most_of_known number ids tally.most.id.items id known old.most.first; rows = old.most.rows };
    }

pub add_known : (number : Text → ℕ) (ids : List Text) (id : Text) (tally : Tally)
    → (is_empty_text id ≡ false → list_any (bytes_eq id) ids ≡ true) → AreTallied number ids tally
    → AreTallied number (ids ++ option_to_list (defined id)) tally
add_known number ids [] tally known old = subst (λ (ids : List Text). AreTallied number ids tally) (sym (append-nil ids)) old
add_known number ids (b ∷ id) tally known old = add_counted number ids (b ∷ id) tally (known (some b id)) old
  where
    some : (b : ℕ) (id : Text) → is_empty_text (b ∷ id) ≡ false
    some b id = not_none (length id)

-- one that is not, and the most of its number
pub add_new : (number : Text → ℕ) (ids : List Text) (id : Text) (old new : Tally) → is_empty_text id ≡ false → list_any (bytes_eq id) ids ≡ false
    → new.identifiers ≡ old.identifiers + 1 → IsMostOf number (ids ++ id ∷ []) new.most → AreTallied number ids old
    → AreTallied number (ids ++ option_to_list (defined id)) new
add_new number ids id old new some unknown count most tallied =
    let more = distinct_option ids (Some id) in
    let one : new_among (λ x. list_any (bytes_eq x) ids) (Some id) ≡ 1 = ap (λ (b : Bool). if b then 0 else 1) unknown in
    let counts = tallied.counts in
    let is = ap option_to_list (defined_is id some) in
    subst (λ (last : List Text). AreTallied number (ids ++ last) new) (sym is) record {
      counts = omega (arith, counts, more, one, count);
      most = most;
    }

-- the most stays if no row is more
pub kept_of : (number : Text → ℕ) (ids : List Text) (id : Text) (most : Most) (bound : ℕ) → number id ≤ bound
    → (is_empty_text most.id.items || nat_lt most.rows bound) ≡ false → IsMostOf number ids most → IsMostOf number (ids ++ id ∷ []) most
kept_of number ids id most bound few more old = record {
  first = most_kept number ids most.id.items id most.rows bound old.rows few more old.first;
  rows = old.rows;
}

-- ---- all rows

all_before : (table : Holdings) → ids_before table (length table.rows) ≡ identifiers_of (identifier_columns table.header) table.rows
all_before table = ap (identifiers_of (identifier_columns table.header)) (take_all (length table.rows) table.rows (omega arith))

pub most_of_all : (table : Holdings) (tally : Tally) → IsTallied table (length table.rows) tally → IsMostIn table tally.most
most_of_all table tally tallied = subst (λ (ids : List Text). IsMostOf (rows_in table) ids tally.most) (all_before table) tallied.most

pub count_of_all : (table : Holdings) (tally : Tally) → IsTallied table (length table.rows) tally
    → tally.identifiers ≡ length (distinct (identifiers_of (identifier_columns table.header) table.rows))
count_of_all table tally tallied = tallied.counts ∙ ap (λ ids. length (distinct ids)) (all_before table)

-- ---- one more row

pub ids_next : (table : Holdings) (row : ℕ) (print online : Text) → row < length table.rows
    → row_identifiers (identifier_columns table.header) (get_or table.rows row []) ≡ option_to_list (defined print) ++ option_to_list (defined online)
    → ids_before table (row + 1) ≡ (ids_before table row ++ option_to_list (defined print)) ++ option_to_list (defined online)
ids_next table row print online inside own =
    let columns = identifier_columns table.header in
    ap (identifiers_of columns) (take_more table.rows row [] inside) ∙ identifiers_more columns (take row table.rows) (get_or table.rows row [])
    ∙ ap (λ last. ids_before table row ++ last) own
    ∙ sym (append_assoc (ids_before table row) (option_to_list (defined print)) (option_to_list (defined online)))

is_itself : (id : Text) → is_empty_text id ≡ false → list_any (bytes_eq id) (option_to_list (defined id)) ≡ true
is_itself [] some = absurd (false≢true (sym some))
is_itself (b ∷ id) some = or-false (bytes_eq (b ∷ id) (b ∷ id)) ∙ (bytes_eq-Decides (b ∷ id) (b ∷ id)).1 refl

-- what any of some texts is, it is of more texts too
any_left : (id : Text) (front back : List Text) → list_any (bytes_eq id) front ≡ true → list_any (bytes_eq id) (front ++ back) ≡ true
any_left id front back any = list_any-append (bytes_eq id) front back ∙ ap (λ b. b || list_any (bytes_eq id) back) any

any_right : (id : Text) (front back : List Text) → list_any (bytes_eq id) back ≡ true → list_any (bytes_eq id) (front ++ back) ≡ true
any_right id front back any =
    list_any-append (bytes_eq id) front back ∙ ap (λ b. list_any (bytes_eq id) front || b) any ∙ or-true (list_any (bytes_eq id) front)

-- the identifiers of the row are known from earlier ones
pub row_repeats : (table : Holdings) (own : RowIds) (tally : Tally) → AreIdsOf table own → own.is_repeated ≡ true → IsTallied table own.row tally
    → IsTallied table (own.row + 1) tally
row_repeats table own tally are repeated tallied =
    let number = rows_in table in
    let print = own.print.now in
    let online = own.online.now in
    let before = ids_before table own.row in
    let first = option_to_list (defined print) in
    let second = option_to_list (defined online) in
    let known : (id : Text) → list_any (bytes_eq id) (first ++ second) ≡ true → list_any (bytes_eq id) before ≡ true =
    λ id any. are.repeats repeated id (ap (list_any (bytes_eq id)) are.ids ∙ any) in
    subst (λ (ids : List Text). AreTallied number ids tally) (sym (ids_next table own.row print online are.inside are.ids))
    (add_known number (before ++ first) online tally
    (λ some. any_left online before first (known online (any_right online first second (is_itself online some))))
    (add_known number before print tally (λ some. known print (any_left print first second (is_itself print some))) tallied))

-- an identifier that is not the one before it
pub other_known : (before : List Text) (print online : Text) → bytes_eq online print ≡ false
    → list_any (bytes_eq online) (before ++ option_to_list (defined print)) ≡ list_any (bytes_eq online) before
other_known before print online apart =
    list_any-append (bytes_eq online) before (option_to_list (defined print))
    ∙ ap (λ b. list_any (bytes_eq online) before || b) (not_first print apart) ∙ or-false (list_any (bytes_eq online) before)
  where
    not_first : (print : Text) → bytes_eq online print ≡ false → list_any (bytes_eq online) (option_to_list (defined print)) ≡ false
    not_first [] apart = refl
    not_first (b ∷ print) apart = or-false (bytes_eq online (b ∷ print)) ∙ apart

-- or is it
pub same_known : (before : List Text) (print online : Text) → online ≡ print → is_empty_text online ≡ false
    → list_any (bytes_eq online) (before ++ option_to_list (defined print)) ≡ true
same_known before print online same some =
    any_right online before (option_to_list (defined print))
    (subst (λ (text : Text). list_any (bytes_eq online) (option_to_list (defined text)) ≡ true) same (is_itself online some))

-- both identifiers of the row were added
pub row_added : (table : Holdings) (own : RowIds) (new : Tally) → AreIdsOf table own
    → AreTallied (rows_in table) ((ids_before table own.row ++ option_to_list (defined own.print.now)) ++ option_to_list (defined own.online.now)) new
    → IsTallied table (own.row + 1) new
row_added table own new are tallied =
    subst (λ (ids : List Text). AreTallied (rows_in table) ids new) (sym (ids_next table own.row own.print.now own.online.now are.inside are.ids)) tallied

-- ---- the identifiers of a row's cells

pub same_ids : (a b : Option ℕ) (x y : Row) → cell_in x a ≡ cell_in y a → cell_in x b ≡ cell_in y b
    → row_identifiers (a ∷ b ∷ []) x ≡ row_identifiers (a ∷ b ∷ []) y
same_ids a b x y first second =
    ap (λ (cell : Option Text). filter_map defined (cons_option (option_map normalised cell) (cons_option (option_map normalised (cell_in x b)) []))) first
    ∙ ap (λ (cell : Option Text). filter_map defined (cons_option (option_map normalised (cell_in y a)) (cons_option (option_map normalised cell) []))) second
