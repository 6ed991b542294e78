-- The whole text, if a row matches and if none does.
use Rattle.std.proofs.Common.{◌≡◌, ℕ, List, [], ◌∷◌, Bool, true, false, cond, Some, None, Option, refl, ap, sym, ◌∙◌, codes, OnErr}
use Rattle.std.specs.Prelude.{Result, Ok, Err}
use Rattle.std.specs.List.{flat_map, list_any}
use Rattle.std.proofs.lemmas.Option.{none-some}
use Rattle.kev_read.specs.Pairs.{KeyValue}
use Rattle.kbart_rows.specs.Cells.{Holdings}
use Rattle.kbart_rows.specs.Identifiers.{first_from, ids_of, matching_rows}
use Rattle.rule_parser.specs.Rules.{RuleSet}
use Rattle.rule_explanation.specs.Failing.{numbered}
use Rattle.rule_explanation.specs.Explanation.{explanation, text_of_rows, tried_row_text}
use Rattle.rule_explanation.specs.Rows.{gives_web_link, has_web_link, tried_rows, up_to_first}
use Rattle.kbart_rows.proofs.RowOrder.{all_from_start, none_from}

module _ (rules : RuleSet) (table : Holdings) (pairs : List KeyValue) where
  some_rows : (test : ℕ → Bool) (rows : List ℕ) (row : ℕ) → first_from 0 rows ≡ Some row
      → text_of_rows rules table pairs (up_to_first test rows) ≡ flat_map (tried_row_text rules table pairs) (numbered (up_to_first test rows))
  some_rows test [] row found = absurd (none-some row found)
  some_rows test (first ∷ rows) row found = by_test (test first)
    where
      by_test : (b : Bool) → text_of_rows rules table pairs (cond b (first ∷ []) (first ∷ up_to_first test rows))
          ≡ flat_map (tried_row_text rules table pairs) (numbered (cond b (first ∷ []) (first ∷ up_to_first test rows)))
      by_test true = refl
      by_test false = refl

  pub some_text : (row : ℕ) → first_from 0 (matching_rows table (ids_of pairs)) ≡ Some row
      → explanation rules table pairs ≡ flat_map (tried_row_text rules table pairs) (numbered (tried_rows rules table pairs))
  some_text row found = some_rows (gives_web_link rules table pairs) (matching_rows table (ids_of pairs)) row found

  no_rows : (rows : List ℕ) → first_from 0 rows ≡ None → rows ≡ []
  no_rows rows none = sym (all_from_start rows) ∙ none_from 0 rows none

  pub no_text : first_from 0 (matching_rows table (ids_of pairs)) ≡ None → explanation rules table pairs ≡ codes "no row\n"
  no_text none =
      ap (λ rows. text_of_rows rules table pairs (up_to_first (gives_web_link rules table pairs) rows)) (no_rows (matching_rows table (ids_of pairs)) none)

  pub no_link : first_from 0 (matching_rows table (ids_of pairs)) ≡ None → has_web_link rules table pairs ≡ false
  no_link none = ap (list_any (gives_web_link rules table pairs)) (no_rows (matching_rows table (ids_of pairs)) none)

pub none_there : (found : Option ℕ) → ((row : ℕ) → found ≡ Some row → ⊥) → found ≡ None
none_there None never = refl
none_there (Some row) never = absurd (never row refl)

-- ---- errors

pub on_error : {T E : Type 0} (r : Result T E) (P : Type 0) → P → OnErr r P
on_error (Ok v) P holds = tt
on_error (Err e) P holds = holds
