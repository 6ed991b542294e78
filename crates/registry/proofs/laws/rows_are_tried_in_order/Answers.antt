use Rattle.std.proofs.Common.{◌+◌, filter, map, ap, sym, ◌∙◌, nat_le}
use Rattle.kbart_rows.specs.Identifiers.{ids_of}
use Rattle.kbart_rows.proofs.RowOrder.{all_from_start, first_and_rest, matching_rows_rise, none_from}
use Rattle.menu.specs.declared.entry.Resolution.TheVariants.{NoRow}
use Rattle.registry.specs.Entries.{chosen, matching_rows_of, resolution_of_row}
use Rattle.registry.proofs.Choices.{link_first, no_link_first}
use Rattle.registry.proofs.laws.rows_are_tried_in_order.Goals as goal

pub returns-clause-start : goal.returns-clause-start
returns-clause-start c = λ target pairs.
    ap (λ rows. chosen NoRow (map (resolution_of_row target pairs) rows)) (sym (all_from_start (matching_rows_of target pairs)))

pub returns-clause-no_more : goal.returns-clause-no_more
returns-clause-no_more c = λ target pairs from so_far none.
    ap (λ rows. chosen so_far (map (resolution_of_row target pairs) rows)) (none_from from (matching_rows_of target pairs) none)

pub returns-clause-link : goal.returns-clause-link
returns-clause-link c = λ target pairs from row so_far found link.
    let rows = matching_rows_of target pairs in
    ap (λ rows. chosen so_far (map (resolution_of_row target pairs) rows)) (first_and_rest from row rows (matching_rows_rise target.table (ids_of pairs)) found)
    ∙ link_first so_far (resolution_of_row target pairs row) (map (resolution_of_row target pairs) (filter (nat_le (row + 1)) rows)) link

pub returns-clause-no_link : goal.returns-clause-no_link
returns-clause-no_link c = λ target pairs from row so_far found no_link.
    let rows = matching_rows_of target pairs in
    ap (λ rows. chosen so_far (map (resolution_of_row target pairs) rows)) (first_and_rest from row rows (matching_rows_rise target.table (ids_of pairs)) found)
    ∙ no_link_first so_far (resolution_of_row target pairs row) (map (resolution_of_row target pairs) (filter (nat_le (row + 1)) rows)) no_link
