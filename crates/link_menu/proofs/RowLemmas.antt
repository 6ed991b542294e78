-- The rows of a target that are still to be tried, one after another.
use Rattle.std.proofs.Common.{◌≡◌, ℕ, ◌+◌, ◌<◌, List, [], ◌∷◌, Option, Some, None, refl, sym, ap, ◌∙◌, subst, length, get_or}
use Rattle.std.proofs.Common.{All, drop, filter, nat_le}
use Rattle.std.specs.Prelude.{Bool, true, false, if◌then◌else◌, IfSome, slice_get}
use Rattle.std.specs.List.{range_with_len}
use Rattle.std.proofs.lemmas.List.Elements.{All-filter, All-head}
use Rattle.text_model.proofs.Lists.{range_below}
use Rattle.kev_read.specs.Pairs.{KeyValue}
use Rattle.kbart_rows.specs.Identifiers.{first_from, identifier_columns, ids_of, is_match}
use Rattle.row_scope.specs.RowValue.{TargetRequestValue}
use Rattle.registry.specs.Targets.{TargetValue}
use Rattle.registry.specs.Entries.{matching_rows_of}
use Rattle.link_menu.specs.Private.Searches.{IsReady}
use Rattle.link_menu.proofs.RoundLemmas.{FirstAndRest, NoneFrom}

abbrev pub rows_from : ℕ → TargetValue → List KeyValue → List ℕ
rows_from from target pairs = filter (nat_le from) (matching_rows_of target pairs)

-- the table has each of them
rows_within : (from : ℕ) (target : TargetValue) (pairs : List KeyValue) → All (λ row. row < length target.table.rows) (rows_from from target pairs)
rows_within from target pairs =
    let n = length target.table.rows in
    All-filter (nat_le from) (λ row. row < n) (matching_rows_of target pairs)
    (All-filter (λ row. is_match (identifier_columns target.table.header) (ids_of pairs) (get_or target.table.rows row [])) (λ row. row < n)
    (range_with_len 0 n) (range_below n))

first_within : (P : ℕ → Type 0) (rows : List ℕ) → All P rows → IfSome (slice_get rows 0) P
first_within P [] all = tt
first_within P (row ∷ rows) all = All-head P row rows all

module _ (none_from : NoneFrom) (first_and_rest : FirstAndRest) (from : ℕ) (target : TargetValue) where
  pub first_is : (pairs : List KeyValue) → slice_get (rows_from from target pairs) 0 ≡ first_from from (matching_rows_of target pairs)
  first_is pairs = by_next (first_from from (matching_rows_of target pairs)) refl
    where
      by_next : (next : Option ℕ) → first_from from (matching_rows_of target pairs) ≡ next → slice_get (rows_from from target pairs) 0 ≡ next
      by_next None is = ap (λ rows. slice_get rows 0) (none_from target pairs from is)
      by_next (Some row) is = ap (λ rows. slice_get rows 0) (first_and_rest target pairs from row is)

  -- the first of the rows that are left is next, and the others are after it
  pub ready : (request : TargetRequestValue) (next : Option ℕ) (after : List ℕ) → request.code ≡ target.code → request.table ≡ target.table
      → next ≡ slice_get (rows_from from target request.request.pairs) 0 → after ≡ drop 1 (rows_from from target request.request.pairs)
      → IsReady target request next after
  ready request next after same_code same_table first rest =
      let pairs = request.request.pairs in
      record {
        code = same_code;
        table = same_table;
        within =
            subst (λ o. IfSome o (λ row. row < length target.table.rows)) (sym first)
            (first_within (λ row. row < length target.table.rows) (rows_from from target pairs) (rows_within from target pairs));
        after = by_next next (first ∙ first_is pairs);
      }
    where
      by_next : (o : Option ℕ) → o ≡ first_from from (matching_rows_of target request.request.pairs)
          → IfSome o (λ row. after ≡ rows_from (row + 1) target request.request.pairs)
      by_next None is = tt
      by_next (Some row) is = rest ∙ ap (drop 1) (first_and_rest target request.request.pairs from row (sym is))

  -- after a link no row is next
  pub ready_unless : (request : TargetRequestValue) (is_last : Bool) (next : Option ℕ) (after : List ℕ) → IsReady target request next after
      → IsReady target request (if is_last then None else next) after
  ready_unless request true next after is = record { code = is.code; table = is.table; within = tt; after = tt }
  ready_unless request false next after is = is
