-- What an update of a table keeps of its target's entry.
use Rattle.std.proofs.Common.{◌≡◌, ℕ, ◌+◌, Bool, true, false, cond, List, [], ◌∷◌, ◌++◌, Option, length, map, refl, sym, ap, ◌∙◌}
use Rattle.std.specs.Prelude.{All, filter, if◌then◌else◌}
use Rattle.std.specs.List.{AllZip, cons_option}
use Rattle.std.proofs.lemmas.Bool.{false≢true}
use Rattle.std.proofs.lemmas.List.Elements.{All-head, All-tail, filter-append}
use Rattle.text_model.specs.Texts.{Text}
use Rattle.code_model.specs.Code.{Code}
use Rattle.kev_read.specs.Pairs.{KeyValue}
use Rattle.kbart_rows.specs.Cells.{Row}
use Rattle.verified_runs.specs.Fates.{FateValue, OverBudget, Link, NoLink}
use Rattle.menu.specs.Links.{NamedLink, is_link, link_under, links}
use Rattle.menu.specs.WebLink.{is_web_link}
use Rattle.menu.specs.Entries.{MenuEntry}
use Rattle.menu.specs.declared.entry.Resolution.{Resolution}
use Rattle.menu.specs.declared.entry.Resolution.TheVariants as resolution
use Rattle.registry.specs.Targets.{TargetValue}
use Rattle.registry.specs.Entries.{chosen, entry_of, menu_of, resolution_by, resolution_of}
use Rattle.menu_laws.specs.Updates.{IsExtended, KeepsCited, KeepsLink, cited_rows, is_cited, unnumbered, unnumbered_entry, unnumbered_menu, with_rows}
use Rattle.menu_laws.proofs.RowsInOrder.{fate_of_cells, resolutions_from, resolutions_joined, row_resolutions}

-- the resolutions of a target's rows
abbrev of_rows : TargetValue → List KeyValue → List Row → List Resolution
of_rows target pairs rows =
    resolutions_from (is_cited target.table.header pairs) (fate_of_cells target.code target.table.header pairs) 0 rows

-- ---- more rows at the end

-- a link among the first of some resolutions is the choice from all of them
found_first : (before : Resolution) (resolutions more : List Resolution) → is_link before ≡ false → is_link (chosen before resolutions) ≡ true
    → chosen before (resolutions ++ more) ≡ chosen before resolutions
found_first before [] more none link = absurd (false≢true (sym none ∙ link))
found_first before (resolution.Link row text ∷ resolutions) more none link = refl
found_first before (resolution.NoRow ∷ resolutions) more none link = found_first resolution.NoRow resolutions more refl link
found_first before (resolution.NoLink ∷ resolutions) more none link = found_first resolution.NoLink resolutions more refl link
found_first before (resolution.NotAWebLink ∷ resolutions) more none link = found_first resolution.NotAWebLink resolutions more refl link
found_first before (resolution.OverBudget bytes ∷ resolutions) more none link = found_first (resolution.OverBudget bytes) resolutions more refl link

-- the same target in other words: its code and its rows
by_rows : (target : TargetValue) (pairs : List KeyValue) → resolution_of target pairs ≡ chosen resolution.NoRow (of_rows target pairs target.table.rows)
by_rows target pairs = ap (chosen resolution.NoRow) (row_resolutions target pairs)

-- the new target's rows, read as the old target reads them
module _ (pairs : List KeyValue) (old new : TargetValue) (code : new.code ≡ old.code) (header : new.table.header ≡ old.table.header) where
  pub read_alike : (rows : List Row) → of_rows new pairs rows ≡ of_rows old pairs rows
  read_alike rows =
      ap (λ c. resolutions_from (is_cited new.table.header pairs) (fate_of_cells c new.table.header pairs) 0 rows) code
      ∙ ap (λ (h : Row). resolutions_from (is_cited h pairs) (fate_of_cells old.code h pairs) 0 rows) header

extended_link : (pairs : List KeyValue) (old new : TargetValue) → IsExtended old new → is_link (resolution_of old pairs) ≡ true
    → resolution_of new pairs ≡ resolution_of old pairs
extended_link pairs old new h link =
    let first = of_rows old pairs old.table.rows in
    let test = is_cited old.table.header pairs in
    let fate = fate_of_cells old.code old.table.header pairs in
    let more = resolutions_from test fate (0 + length old.table.rows) h.more in
    let here : is_link (chosen resolution.NoRow first) ≡ true = ap is_link (sym (by_rows old pairs)) ∙ link in
    by_rows new pairs
    ∙ ap (chosen resolution.NoRow) (read_alike pairs old new h.updated.code h.updated.header new.table.rows
    ∙ ap (of_rows old pairs) h.rows ∙ resolutions_joined test fate 0 old.table.rows h.more)
    ∙ found_first resolution.NoRow first more refl here
    ∙ sym (by_rows old pairs)

extended_entry : (pairs : List KeyValue) (old new : TargetValue) → IsExtended old new → KeepsLink (entry_of old pairs) (entry_of new pairs)
extended_entry pairs old new h link =
    let same = extended_link pairs old new h link in
    let name = h.updated.name in
    cc

pub extended_menu : (pairs : List KeyValue) (old new : List TargetValue) → AllZip IsExtended old new → AllZip KeepsLink (menu_of old pairs) (menu_of new pairs)
extended_menu pairs [] [] all = all
extended_menu pairs [] (n ∷ new) all = absurd all
extended_menu pairs (o ∷ old) [] all = absurd all
extended_menu pairs (o ∷ old) (n ∷ new) all = (extended_entry pairs o n all.0, extended_menu pairs old new all.1)

-- ---- without the numbers of rows

unnumbered_row : (row other : ℕ) (fate : FateValue) → unnumbered (resolution_by row fate) ≡ unnumbered (resolution_by other fate)
unnumbered_row row other (OverBudget bytes) = refl
unnumbered_row row other NoLink = refl
unnumbered_row row other (Link link) = by_test (is_web_link link)
  where
    by_test : (b : Bool) → unnumbered (if b then resolution.Link row link else resolution.NotAWebLink)
        ≡ unnumbered (if b then resolution.Link other link else resolution.NotAWebLink)
    by_test true = refl
    by_test false = refl

chosen_unnumbered : (before : Resolution) (resolutions : List Resolution) → unnumbered (chosen before resolutions)
    ≡ chosen (unnumbered before) (map unnumbered resolutions)
chosen_unnumbered before [] = refl
chosen_unnumbered before (resolution.Link row text ∷ resolutions) = refl
chosen_unnumbered before (resolution.NoRow ∷ resolutions) = chosen_unnumbered resolution.NoRow resolutions
chosen_unnumbered before (resolution.NoLink ∷ resolutions) = chosen_unnumbered resolution.NoLink resolutions
chosen_unnumbered before (resolution.NotAWebLink ∷ resolutions) = chosen_unnumbered resolution.NotAWebLink resolutions
chosen_unnumbered before (resolution.OverBudget bytes ∷ resolutions) = chosen_unnumbered (resolution.OverBudget bytes) resolutions

module _ (test : Row → Bool) (fate : Row → FateValue) where
  rows_unnumbered : (k : ℕ) (rows : List Row)
      → map unnumbered (resolutions_from test fate k rows) ≡ map (λ cells. unnumbered (resolution_by 0 (fate cells))) (filter test rows)
  rows_unnumbered k [] = refl
  rows_unnumbered k (cells ∷ rows) = by_test (test cells) (rows_unnumbered (k + 1) rows)
    where
      by_test : (b : Bool)
          → map unnumbered (resolutions_from test fate (k + 1) rows) ≡ map (λ cells. unnumbered (resolution_by 0 (fate cells))) (filter test rows)
          → map unnumbered (cond b (resolution_by k (fate cells) ∷ resolutions_from test fate (k + 1) rows) (resolutions_from test fate (k + 1) rows))
          ≡ map (λ cells. unnumbered (resolution_by 0 (fate cells))) (cond b (cells ∷ filter test rows) (filter test rows))
      by_test true same =
          let first = unnumbered_row k 0 (fate cells) in
          cc
      by_test false same = same

-- the resolutions of these rows, by a code and a header
abbrev chosen_of : Code → Row → List KeyValue → List Row → Resolution
chosen_of code header pairs rows =
    chosen resolution.NoRow (map (λ cells. unnumbered (resolution_by 0 (fate_of_cells code header pairs cells))) rows)

by_cited_rows : (target : TargetValue) (pairs : List KeyValue) → unnumbered (resolution_of target pairs)
    ≡ chosen_of target.code target.table.header pairs (cited_rows target.table pairs)
by_cited_rows target pairs =
    ap unnumbered (by_rows target pairs)
    ∙ chosen_unnumbered resolution.NoRow (of_rows target pairs target.table.rows)
    ∙ ap (chosen resolution.NoRow)
    (rows_unnumbered (is_cited target.table.header pairs) (fate_of_cells target.code target.table.header pairs) 0 target.table.rows)

kept_resolution : (pairs : List KeyValue) (old new : TargetValue) → KeepsCited pairs old new
    → unnumbered (resolution_of new pairs) ≡ unnumbered (resolution_of old pairs)
kept_resolution pairs old new h =
    by_cited_rows new pairs
    ∙ ap (λ (c : Code). chosen_of c new.table.header pairs (cited_rows new.table pairs)) h.updated.code
    ∙ ap (λ (t : Row). chosen_of old.code t pairs (cited_rows new.table pairs)) h.updated.header
    ∙ ap (chosen_of old.code old.table.header pairs) h.cited
    ∙ sym (by_cited_rows old pairs)

kept_entry : (pairs : List KeyValue) (old new : TargetValue) → KeepsCited pairs old new
    → unnumbered_entry (entry_of new pairs) ≡ unnumbered_entry (entry_of old pairs)
kept_entry pairs old new h =
    let name = h.updated.name in
    let same = kept_resolution pairs old new h in
    cc

pub kept_menu : (pairs : List KeyValue) (old new : List TargetValue) → AllZip (KeepsCited pairs) old new
    → unnumbered_menu (menu_of new pairs) ≡ unnumbered_menu (menu_of old pairs)
kept_menu pairs [] [] all = refl
kept_menu pairs [] (n ∷ new) all = absurd all
kept_menu pairs (o ∷ old) [] all = absurd all
kept_menu pairs (o ∷ old) (n ∷ new) all =
    let first = kept_entry pairs o n all.0 in
    let others = kept_menu pairs old new all.1 in
    cc

-- ---- links

same_link : (name : Text) (r : Resolution) → link_under name (unnumbered r) ≡ link_under name r
same_link name (resolution.Link row link) = refl
same_link name resolution.NoRow = refl
same_link name resolution.NoLink = refl
same_link name resolution.NotAWebLink = refl
same_link name (resolution.OverBudget bytes) = refl

pub same_links : (menu : List MenuEntry) → links (unnumbered_menu menu) ≡ links menu
same_links [] = refl
same_links (entry ∷ menu) =
    ap (λ (l : Option NamedLink). cons_option l (links (unnumbered_menu menu))) (same_link entry.name entry.resolution)
    ∙ ap (cons_option (link_under entry.name entry.resolution)) (same_links menu)

-- ---- rows without an identifier of the request

none_kept : (test : Row → Bool) (rows : List Row) → All (λ cells. test cells ≡ false) rows → filter test rows ≡ []
none_kept test [] none = refl
none_kept test (cells ∷ rows) none =
    rw (All-head (λ cells. test cells ≡ false) cells rows none) (none_kept test rows (All-tail (λ cells. test cells ≡ false) cells rows none))

pub rows_added : (target : TargetValue) (before rows after : List Row) (pairs : List KeyValue)
    → All (λ cells. is_cited target.table.header pairs cells ≡ false) rows
    → KeepsCited pairs (with_rows target (before ++ after)) (with_rows target (before ++ (rows ++ after)))
rows_added target before rows after pairs none =
    let test = is_cited target.table.header pairs in
    record {
      updated = record { name = refl; code = refl; header = refl };
      cited = filter-append test before (rows ++ after)
          ∙ ap (λ (kept : List Row). filter test before ++ kept)
          (filter-append test rows after ∙ ap (λ (kept : List Row). kept ++ filter test after) (none_kept test rows none))
          ∙ sym (filter-append test before after);
    }
