use Rattle.std.proofs.Common.{◌≡◌, ◌+◌, None, sym, ap, ◌∙◌, subst, drop}
use Rattle.std.specs.Prelude.{IfSome, if◌then◌else◌, slice_get}
use Rattle.menu.specs.Links as links
use Rattle.kbart_rows.specs.Identifiers.{first_from}
use Rattle.registry.specs.Entries.{matching_rows_of}
use Rattle.interleaved_runs.specs.Fates.{fate_value}
use Rattle.link_menu.specs.Private.Searches.{IsReady, SearchValue, after_fate, after_fate_at}
use Rattle.link_menu.proofs.RowLemmas.{first_is, ready, ready_unless, rows_from}
use Rattle.link_menu.proofs.target_search.TargetSearch.take_over.Goals as goal
use Rattle.link_menu.proofs.target_search.TargetSearch.take_over.Goals.{Joined-self-resolution}

-- the rows after the one whose outcome is recorded
rows_left : (c : Joined-self-resolution) → c.self.inside.rows ≡ rows_from (c.in-Some.row + 1) c.self.inside.target.now c.self.inside.request.request.pairs
rows_left c =
    subst (λ o. IfSome o (λ row. c.self.inside.rows ≡ rows_from (row + 1) c.self.inside.target.now c.self.inside.request.request.pairs))
    c.in-Some.is c.self.invariant.after

pub invariant_of-self : goal.invariant_of-self
invariant_of-self c =
    let rise = c.matching_rows_rise.ensures in
    let target = c.self.inside.target.now in
    let request = c.self.inside.request in
    let rows = rows_left c in
    let next = c.next-following.ensures in
    subst (λ o. IsReady target request o c.next-following.new.self) (sym c.row_after-self-inside.ensures)
    (ready_unless rise.no_more rise.next (c.in-Some.row + 1) target request (links.is_link c.resolution_of-resolution.result) c.next-following.result
    c.next-following.new.self
    (ready rise.no_more rise.next (c.in-Some.row + 1) target request c.next-following.result c.next-following.new.self c.self.invariant.code
    c.self.invariant.table (next.head ∙ ap (λ rs. slice_get rs 0) rows) (next.tail ∙ ap (drop 1) rows)))

pub returns : goal.returns
returns c =
    let rise = c.matching_rows_rise.ensures in
    let target = c.self.inside.target.now in
    let requested = c.self.inside.request.request in
    let row = c.in-Some.row in
    let fate = fate_value c.args.fate in
    let before : SearchValue =
    record { requested = requested; target = target; next = c.self.inside.next; resolution = c.self.inside.resolution } in
    let following =
    c.next-following.ensures.head ∙ ap (λ rs. slice_get rs 0) (rows_left c) ∙ first_is rise.no_more rise.next (row + 1) target requested.pairs in
    ap (λ next. record before { next = next; resolution = c.resolution_of-resolution.result })
    (c.row_after-self-inside.ensures ∙ ap (λ o. if links.is_link c.resolution_of-resolution.result then None else o) following)
    ∙ ap (λ resolution. record before {
      next = if links.is_link resolution then None else first_from (row + 1) (matching_rows_of target requested.pairs);
      resolution = resolution;
    }) c.resolution_of-resolution.ensures
    ∙ ap (after_fate_at before fate) (sym c.in-Some.is)
    ∙ ap (λ s. after_fate s fate) c.self.view_is
