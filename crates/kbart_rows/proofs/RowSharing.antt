-- What the notes of an index say of the rows of a table.
use Rattle.std.proofs.Common.{◌≡◌, ℕ, ◌+◌, ◌≤◌, ◌<◌, Bool, true, false, cond, suc, List, [], ◌∷◌, All, filter, get_or, length, refl, sym, ap, subst, ◌∙◌, arith}
use Rattle.std.proofs.Common.{nat_lt, drop, Option, Result, Ok, Err, IfOk}
use Rattle.std.proofs.Math.Bool.{or-false}
use Rattle.std.proofs.lemmas.List.{get_or_default}
use Rattle.std.proofs.lemmas.List.Elements.{All-cons, All-nil}
use Rattle.std.specs.List.{range_with_len}
use Rattle.text_model.specs.Texts.{Text}
use Rattle.kbart_rows.specs.Cells.{Holdings, Row}
use Rattle.kbart_rows.specs.Hashing.{hash_of}
use Rattle.kbart_rows.specs.Identifiers.{identifier_columns, is_match, matching_rows}
use Rattle.kbart_rows.specs.Sharing.{SharesAtMost, row_has}
use Rattle.kbart_rows.specs.Private.Groups.{AreNoted, AreWithin, IsNoted}
use Rattle.kbart_rows.specs.Private.Index.{HasEntries, IsOrdered, half_of}
use Rattle.kbart_rows.specs.Private.Kept.{holdings_of}
use Rattle.kbart_rows.specs.Private.Runs.{matches}
use Rattle.kbart_rows.specs.declared.index.Entry.{Entry}
use Rattle.kbart_rows.specs.declared.keys.Keys.{Keys}
use Rattle.kbart_rows.specs.declared.sharing.Sharing.{Sharing}
use Rattle.kbart_rows.proofs.RowOrder.{Rise, matching_rows_rise, rest_rises}

-- ---- no more rows than entries

-- an entry between two places has the hash and the row
pub record HasPlace (entries : List Entry) (hash start end row : ℕ) : Type 0 where
  pub place : ℕ
  pub after : start ≤ place
  pub before : place < end
  pub inside : place < length entries
  pub hash_is : (d : Entry) → (get_or entries place d).hash ≡ hash
  pub row_is : (d : Entry) → (get_or entries place d).row ≡ row

-- the place of a later row is a later one
later_place : (entries : List Entry) (hash start end row next : ℕ) → IsOrdered entries → row < next → (first : HasPlace entries hash start end row)
    → HasPlace entries hash start end next → HasPlace entries hash (first.place + 1) end next
later_place entries hash start end row next order less first second = record {
  place = second.place;
  after = by_test (nat_lt first.place second.place) refl;
  before = second.before;
  inside = second.inside;
  hash_is = second.hash_is;
  row_is = second.row_is;
}
  where
    by_test : (b : Bool) → nat_lt first.place second.place ≡ b → first.place + 1 ≤ second.place
    by_test true less = grind arith
    by_test false more =
        let le : second.place ≤ first.place = grind arith in
        let d : Entry = record { hash = 0; row = 0 } in
        let keys = order second.place first.place d le first.inside in
        let one = first.hash_is d in
        let two = second.hash_is d in
        let three = first.row_is d in
        let four = second.row_is d in
        absurd (omega (arith, keys, one, two, three, four, less))

few_rows : (entries : List Entry) (hash start end : ℕ) (rows : List ℕ) → IsOrdered entries → start ≤ end → Rise rows
    → All (HasPlace entries hash start end) rows → start + length rows ≤ end
few_rows entries hash start end [] order le rise all = omega (arith, le)
few_rows entries hash start end (row ∷ rows) order le rise all =
    let first : HasPlace entries hash start end row = all 0 row (omega arith) in
    let after = first.after in
    let before = first.before in
    let rest = few_rows entries hash (first.place + 1) end rows order (omega (arith, before)) (rest_rises row rows rise)
    (λ i d within. later_place entries hash start end row (get_or rows i d) order (rise 0 (suc i) d (omega arith) (omega (arith, within))) first
    (all (suc i) d (omega (arith, within)))) in
    omega (arith, after, rest)

-- ---- what is noted at a row

-- each row that matches one identifier has it
all_have : (table : Holdings) (id : Text) → All (λ row. row_has table row id ≡ true) (matching_rows table (id ∷ []))
all_have table id = each (range_with_len 0 (length table.rows))
  where
    passes : (row : ℕ) → (b : Bool) → is_match (identifier_columns table.header) (id ∷ []) (get_or table.rows row []) ≡ b
        → (rows : List ℕ) → All (λ row. row_has table row id ≡ true) rows → All (λ row. row_has table row id ≡ true) (cond b (row ∷ rows) rows)
    passes row true is rows all =
        All-cons (λ row. row_has table row id ≡ true) row rows (sym (or-false (row_has table row id)) ∙ is) all
    passes row false is rows all = all

    each : (rows : List ℕ) → All (λ row. row_has table row id ≡ true) (filter (matches table (id ∷ [])) rows)
    each [] = All-nil (λ row. row_has table row id ≡ true)
    each (row ∷ rows) = passes row (matches table (id ∷ []) row) refl (filter (matches table (id ∷ [])) rows) (each rows)

-- the entry of an identifier of a row
own_place : (table : Holdings) (entries : List Entry) (row : ℕ) (id : Text) (start end : ℕ)
    → HasEntries table.keys (identifier_columns table.header) table.rows entries
    → AreWithin entries (half_of (hash_of table.keys id)) start end → row_has table row id ≡ true
    → HasPlace entries (half_of (hash_of table.keys id)) start end row
own_place table entries row id start end all within has =
    let hash = half_of (hash_of table.keys id) in
    let entry : Entry = record { hash = hash; row = row } in
    let at = all row id has in
    let k = at.0 in
    let inside : k < length entries = at.1 in
    let is : get_or entries k entry ≡ entry = at.2 in
    let any : (d : Entry) → get_or entries k d ≡ entry = λ d. get_or_default entries k d entry inside ∙ is in
    let part = within k entry inside (ap (λ (e : Entry). e.hash) is) in
    record {
      place = k;
      after = part.0;
      before = part.1;
      inside = inside;
      hash_is = λ d. ap (λ (e : Entry). e.hash) (any d);
      row_is = λ d. ap (λ (e : Entry). e.row) (any d);
    }

noted_at : (table : Holdings) (entries : List Entry) (notes : List Sharing) (row : ℕ) (id : Text) (e : Sharing)
    → HasEntries table.keys (identifier_columns table.header) table.rows entries → AreNoted entries (length entries) notes → row < length notes
    → row_has table row id ≡ true → IsNoted entries (half_of (hash_of table.keys id)) (get_or notes row e).first (get_or notes row e).rows
noted_at table entries notes row id e all noted within has =
    let entry : Entry = record { hash = half_of (hash_of table.keys id); row = row } in
    let at = all row id has in
    let inside : at.0 < length entries = at.1 in
    let is : get_or entries at.0 entry ≡ entry = at.2 in
    let row_is : (get_or entries at.0 entry).row ≡ row = ap (λ (e : Entry). e.row) is in
    subst (λ (x : Entry). IsNoted entries x.hash (get_or notes x.row e).first (get_or notes x.row e).rows) is
    (noted at.0 entry e inside inside (omega (arith, row_is, within)))

pub row_shares : (table : Holdings) (entries : List Entry) (notes : List Sharing) (row : ℕ) (e : Sharing) → IsOrdered entries
    → HasEntries table.keys (identifier_columns table.header) table.rows entries → AreNoted entries (length entries) notes → row < length notes
    → SharesAtMost table row (get_or notes row e).first (get_or notes row e).rows
row_shares table entries notes row e order all noted within = record {
  from = λ id other has others.
      let note = noted_at table entries notes row id e all noted within has in
      let place = own_place table entries other id note.start note.end all note.within others in
      let d : Entry = record { hash = 0; row = 0 } in
      let low = note.from place.place d place.inside (place.hash_is d) in
      let is = place.row_is d in
      omega (arith, low, is);
  few = λ id has.
      let note = noted_at table entries notes row id e all noted within has in
      let own = own_place table entries row id note.start note.end all note.within has in
      let rows = matching_rows table (id ∷ []) in
      let after = own.after in
      let before = own.before in
      let few = note.few in
      let have = all_have table id in
      let count = few_rows entries (half_of (hash_of table.keys id)) note.start note.end rows order (omega (arith, after, before))
      (matching_rows_rise table (id ∷ []))
      (λ i d inside. own_place table entries (get_or rows i d) id note.start note.end all note.within (have i d inside)) in
      omega (arith, count, few);
}

-- ---- at a table

pub has_in_view : (lines : List Row) (keys : Keys) (table : Holdings) (print online : Option ℕ) (old new : List Entry) → holdings_of lines keys ≡ table
    → print ∷ online ∷ [] ≡ identifier_columns (get_or lines 0 []) → new ≡ old → HasEntries keys (print ∷ online ∷ []) (drop 1 lines) old
    → HasEntries table.keys (identifier_columns table.header) table.rows new
has_in_view lines keys table print online old new view identified same has =
    subst (λ (table : Holdings). HasEntries table.keys (identifier_columns table.header) table.rows new) view
    (subst (λ (columns : List (Option ℕ)). HasEntries keys columns (drop 1 lines) new) identified
    (subst (HasEntries keys (print ∷ online ∷ []) (drop 1 lines)) (sym same) has))

pub IfOk-both : {A E : Type 0} (result : Result A E) (P Q R : A → Type 0) → ((x : A) → P x → Q x → R x) → IfOk result P → IfOk result Q → IfOk result R
IfOk-both (Ok x) P Q R both p q = both x p q
IfOk-both (Err e) P Q R both p q = tt
