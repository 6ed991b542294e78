use Rattle.std.proofs.Common.{◌≡◌, ℕ, Option, sym, ap, ◌∙◌, drop, slice_get}
use Rattle.menu.specs.declared.entry.Resolution.TheVariants.{NoRow}
use Rattle.kbart_rows.specs.Identifiers.{first_from}
use Rattle.registry.specs.Entries.{matching_rows_of}
use Rattle.link_menu.specs.Private.Searches.{SearchValue}
use Rattle.link_menu.proofs.RowLemmas.{first_is, ready}
use Rattle.link_menu.proofs.target_search.TargetSearch.new.Goals as goal

pub invariant_of-result : goal.invariant_of-result
invariant_of-result c =
    let rise = c.matching_rows_rise.ensures in
    let target = c.args.target.now in
    let request = c.args.request in
    let rows = sym (rise.start target request.request.pairs) in
    ready rise.no_more rise.next 0 target request c.args.next c.args.rows c.requires.code c.requires.table
    (c.requires.next ∙ ap (λ rs. slice_get rs 0) rows) (c.requires.rows ∙ ap (drop 1) rows)

pub returns : goal.returns
returns c =
    let rise = c.matching_rows_rise.ensures in
    let target = c.args.target.now in
    let requested = c.args.request.request in
    let first : c.args.next ≡ first_from 0 (matching_rows_of target requested.pairs) =
    c.requires.next ∙ ap (λ rs. slice_get rs 0) (sym (rise.start target requested.pairs)) ∙ first_is rise.no_more rise.next 0 target requested.pairs in
    let search : Option ℕ → SearchValue = λ next. record { requested = requested; target = target; next = next; resolution = NoRow } in
    ap search first
