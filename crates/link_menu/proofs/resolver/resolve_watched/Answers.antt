use Rattle.std.proofs.Common.{◌≡◌, ◌<◌, ap, ◌∙◌, sym, subst, map, true, false}
use Rattle.std.specs.Prelude.{IfOk}
use Rattle.std.specs.List.{list_any}
use Rattle.interleaved_runs.specs.StepLists.{HasSeenAll, HasSeenSome}
use Rattle.link_menu.specs.RowsByRound.{step_lists_in_all_rounds}
use Rattle.registry.specs.Entries.{menu_of}
use Rattle.registry.specs.Names.{AreAllAmong, AreAllNames}
use Rattle.link_menu.specs.Private.Held.{has_row, held}
use Rattle.link_menu.specs.Private.Searches.{ends_next, entry_so_far, is_open, started}
use Rattle.link_menu.proofs.HeldLemmas.{same_step_lists, with_outcomes}
use Rattle.link_menu.proofs.RoundLemmas.{rounds_left}
use Rattle.link_menu.proofs.RoundProgress.{AfterRounds, all_rounds, at_first, fewer_rounds, one_round, part_of_round, some_rounds}
use Rattle.link_menu.proofs.SearchLemmas.{all_written_back, entry_in_the_end, menu_after_round, menu_at_end, menu_at_start}
use Rattle.interleaved_runs.proofs.StepListLemmas.{nothing_seen, on_err, on_ok}
use Rattle.link_menu.proofs.resolver.resolve_watched.Goals as goal

-- ---- before the first round

pub returns-in_err-citation-clause-err : goal.returns-in_err-citation-clause-err
returns-in_err-citation-clause-err g c =
    let lists = step_lists_in_all_rounds c.args.registry.now c.args.request.now.pairs in
    let told = g.W.Watch.lists c.args.watch.now in
    on_err c.from_residual.result (HasSeenSome lists told told) (nothing_seen lists told)

pub returns-in_err-begun-clause-err : goal.returns-in_err-begun-clause-err
returns-in_err-begun-clause-err g c =
    let lists = step_lists_in_all_rounds c.args.registry.now c.args.request.now.pairs in
    let told = g.W.Watch.lists c.args.watch.now in
    on_err c.from_residual-in_err-begun.result (HasSeenSome lists told told) (nothing_seen lists told)

-- the columns of each target's table are among the registry's, and the citation is for those; the names are those of the targets
pub begin-requires : goal.begin-requires
begin-requires g c =
    let targets = c.targets-targets.result.now in
    let requested = c.in_ok-citation.citation in
    let among = subst (λ ts. AreAllAmong c.columns.result.now.names ts) (sym c.targets-targets.ensures.value) c.columns.ensures.among in
    record {
      apart = λ k d inside apart name has. c.in_ok-citation.ensures.apart apart name (among k d inside name has);
      names = subst (λ ts. AreAllNames c.names.result.0.now.names ts c.names.result.1.now) (sym c.targets-targets.ensures.value) c.names.ensures.places;
    }

pub loop-searches-init : goal.loop-searches-init
loop-searches-init g c =
    let pairs = c.args.request.now.pairs in
    let targets = held pairs c.args.registry.now in
    let laws = c.rows_are_tried_in_order.ensures in
    let rise = c.matching_rows_rise.ensures in
    let told = g.W.Watch.lists c.args.watch.now in
    let requested = c.in_ok-citation.citation in
    let same : requested.pairs ≡ pairs = c.in_ok-citation.ensures.pairs in
    let initial : c.in_ok-begun.begun.searches.items ≡ map (started requested) targets =
    c.in_ok-begun.ensures.searches ∙ ap (λ ts. map (started requested) (held requested.pairs ts)) c.targets-targets.ensures.value
    ∙ ap (λ ps. map (started requested) (held ps c.args.registry.now)) same in
    record {
      menu = ap (map entry_in_the_end) initial ∙ menu_at_start laws.start laws.no_more laws.link laws.no_link requested targets ∙ ap (menu_of targets) same;
      rounds =
          subst (λ searches. AfterRounds pairs targets searches told told) (sym initial)
          (at_first rise.start rise.no_more rise.next pairs targets requested told same);
    }

-- ---- a round

pub returns-in_err-try_next_rows-clause-err : goal.returns-in_err-try_next_rows-clause-err
returns-in_err-try_next_rows-clause-err g c =
    let pairs = c.args.request.now.pairs in
    let targets = held pairs c.args.registry.now in
    let searches = c.loop-searches.searches.items in
    let told = g.W.Watch.lists c.args.watch.now in
    let before = g.W.Watch.lists c.loop-searches.watch in
    let observed = g.W.Watch.lists c.try_next_rows.new.watch in
    let opened : list_any is_open searches ≡ true = cc (c.is_any_open.ensures, c.deref.ensures.value, c.loop-searches-test.true) in
    on_err c.from_residual-in_err-try_next_rows.result (HasSeenSome (step_lists_in_all_rounds c.args.registry.now pairs) told observed)
    (subst (λ lists. HasSeenSome lists told observed) (same_step_lists pairs c.args.registry.now)
    (part_of_round pairs targets searches told before c.loop-searches.invariant.rounds _ observed opened
    (ap ends_next c.as_mut_slice.ensures.value) c.in_err-try_next_rows.ensures.err))

pub loop-searches-smaller : goal.loop-searches-smaller
loop-searches-smaller g c =
    let pairs = c.args.request.now.pairs in
    let targets = held pairs c.args.registry.now in
    let rise = c.matching_rows_rise.ensures in
    let searches = c.loop-searches.searches in
    let told = g.W.Watch.lists c.args.watch.now in
    let observed = g.W.Watch.lists c.loop-searches.watch in
    let slice = c.as_mut_slice.ensures in
    let back = all_written_back searches.items _ c.try_next_rows.new.searches searches.len slice.value slice.len c.in_ok-try_next_rows.ensures.ok in
    let opened : list_any is_open searches.items ≡ true = cc (c.is_any_open.ensures, c.deref.ensures.value, c.loop-searches-test.true) in
    subst (λ now. rounds_left now < rounds_left searches.items) (sym back)
    (fewer_rounds rise.start rise.no_more rise.next pairs targets searches.items told observed c.loop-searches.invariant.rounds opened)

pub loop-searches-preserved : goal.loop-searches-preserved
loop-searches-preserved g c =
    let pairs = c.args.request.now.pairs in
    let targets = held pairs c.args.registry.now in
    let laws = c.rows_are_tried_in_order.ensures in
    let rise = c.matching_rows_rise.ensures in
    let inv = c.loop-searches.invariant in
    let searches = c.loop-searches.searches in
    let told = g.W.Watch.lists c.args.watch.now in
    let before = g.W.Watch.lists c.loop-searches.watch in
    let observed = g.W.Watch.lists c.try_next_rows.new.watch in
    let slice = c.as_mut_slice.ensures in
    let round = c.in_ok-try_next_rows.ensures in
    let back = all_written_back searches.items _ c.try_next_rows.new.searches searches.len slice.value slice.len round.ok in
    let opened : list_any is_open searches.items ≡ true = cc (c.is_any_open.ensures, c.deref.ensures.value, c.loop-searches-test.true) in
    record {
      menu = ap (map entry_in_the_end) back ∙ menu_after_round laws.start laws.no_more laws.link laws.no_link searches.items ∙ inv.menu;
      rounds =
          subst (λ now. AfterRounds pairs targets now told observed) (sym back)
          (one_round rise.start rise.no_more rise.next pairs targets searches.items told before observed _ inv.rounds opened
          (ap ends_next slice.value) round.observed);
    }

-- ---- after the last round

pub returns-clause-menu : goal.returns-clause-menu
returns-clause-menu g c =
    let pairs = c.args.request.now.pairs in
    let searches = c.loop-searches.searches in
    let none : list_any is_open searches.items ≡ false = cc (c.is_any_open.ensures, c.deref.ensures.value, c.loop-searches-test.false) in
    let marked : c.deref-2.result.now ≡ map (has_row pairs) c.targets-targets.result.now =
    c.deref-2.ensures.value ∙ c.in_ok-begun.ensures.held ∙ ap (λ ps. map (has_row ps) c.targets-targets.result.now) c.in_ok-citation.ensures.pairs in
    let outcomes : map entry_so_far searches.items ≡ menu_of (held pairs c.targets-targets.result.now) pairs =
    sym (menu_at_end searches.items none) ∙ c.loop-searches.invariant.menu ∙ ap (λ ts. menu_of (held pairs ts) pairs) (sym c.targets-targets.ensures.value) in
    subst (λ all. IfOk c.menu_with.result (λ menu. menu ≡ all))
    (with_outcomes pairs c.targets-targets.result.now c.deref-2.result.now searches.items marked outcomes
    ∙ ap (λ ts. menu_of ts pairs) c.targets-targets.ensures.value)
    c.menu_with.ensures

pub returns-clause-observed : goal.returns-clause-observed
returns-clause-observed g c =
    let pairs = c.args.request.now.pairs in
    let targets = held pairs c.args.registry.now in
    let searches = c.loop-searches.searches.items in
    let told = g.W.Watch.lists c.args.watch.now in
    let observed = g.W.Watch.lists c.loop-searches.watch in
    let none : list_any is_open searches ≡ false = cc (c.is_any_open.ensures, c.deref.ensures.value, c.loop-searches-test.false) in
    on_ok c.menu_with.result (HasSeenAll (step_lists_in_all_rounds c.args.registry.now pairs) told observed)
    (subst (λ lists. HasSeenAll lists told observed) (same_step_lists pairs c.args.registry.now)
    (all_rounds pairs targets searches told observed c.loop-searches.invariant.rounds none))

pub returns-clause-err : goal.returns-clause-err
returns-clause-err g c =
    let pairs = c.args.request.now.pairs in
    let targets = held pairs c.args.registry.now in
    let told = g.W.Watch.lists c.args.watch.now in
    let observed = g.W.Watch.lists c.loop-searches.watch in
    on_err c.menu_with.result (HasSeenSome (step_lists_in_all_rounds c.args.registry.now pairs) told observed)
    (subst (λ lists. HasSeenSome lists told observed) (same_step_lists pairs c.args.registry.now)
    (some_rounds pairs targets c.loop-searches.searches.items told observed c.loop-searches.invariant.rounds))
