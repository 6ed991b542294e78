use Rattle.std.proofs.Common.{◌≡◌, ◌∷◌, ◌+◌, ap, ◌∙◌, sym, drop, get_or, length, map, take, ◌<◌, true, false, arith}
use Rattle.std.specs.Vec.Iter.{into_iter_items}
use Rattle.std.specs.Prelude.{◌++◌}
use Rattle.std.specs.Option.{option_to_list}
use Rattle.interleaved_runs.specs.Fates.{fate_value}
use Rattle.link_menu.specs.Private.Searches.{is_open}
use Rattle.link_menu.proofs.BatchLemmas.{before_next, others_next, passed, taken}
use Rattle.link_menu.proofs.resolver.take_over_all.Goals as goal
use Rattle.link_menu.proofs.resolver.take_over_all.Goals.{then-is_open, else-is_open}

pub loop-search-preserved : goal.loop-search-preserved
loop-search-preserved c =
    let inv = c.loop-search.invariant in
    let old = c.args.searches.now in
    let searches = c.loop-search.searches in
    let i = c.loop-search.search-index in
    let d = c.search-item.result in
    let within : i < length old = c.loop-search-test.true in
    let inside : i < length searches = omega (arith, within, c.loop-search.auto.searches) in
    elim c.if-is_open.branch [
      | then-is_open w ↦
          let new = w.take_over.new.self in
          let fate = w.unwrap.result in
          let rest = into_iter_items w.next.new.self in
          let opened : is_open (get_or searches i d) ≡ true = sym c.is_open.ensures ∙ w.if-is_open.true in
          let are : into_iter_items c.loop-search.fates ≡ fate ∷ rest = w.next.ensures.items ∙ ap (λ first. option_to_list first ++ rest) w.unwrap.ensures in
          let took = taken old searches i new d (into_iter_items c.loop-search.fates) rest fate inside inv.others inv.fates are opened in
          record {
            fates = ap (λ fates. map fate_value (into_iter_items fates)) w.fates-is ∙ took.0;
            before = ap (take (i + 1)) w.searches-is ∙ before_next old searches i new d inside (w.take_over.ensures ∙ took.1) inv.before inv.others;
            others = ap (drop (i + 1)) w.searches-is ∙ others_next old searches i new inside inv.others;
          }
      | else-is_open w ↦
          let same = get_or searches i d in
          let closed : is_open same ≡ false = sym c.is_open.ensures ∙ w.if-is_open.false in
          let went = passed old searches i same d inside inv.others closed in
          record {
            fates = ap (λ fates. map fate_value (into_iter_items fates)) w.fates-is ∙ inv.fates ∙ went.0;
            before = ap (take (i + 1)) w.searches-is ∙ before_next old searches i same d inside went.1 inv.before inv.others;
            others = ap (drop (i + 1)) w.searches-is ∙ others_next old searches i same inside inv.others;
          }
    ]
