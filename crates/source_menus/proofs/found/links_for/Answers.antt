use Rattle.std.proofs.Common.{◌≡◌, ◌++◌, sym, ap, subst, arith}
use Rattle.std.specs.List.{flat_map}
use Rattle.std.proofs.lemmas.List.{take_all}
use Rattle.text_model.specs.Texts.{texts_of}
use Rattle.source_menus.specs.Found.{Any, Further, first_of_each, links_by}
use Rattle.source_menus.proofs.FirstOfEach.{each_once}
use Rattle.source_menus.proofs.Requests.{one_number_more, one_request_more}
use Rattle.source_menus.proofs.found.links_for.Goals as goal

pub push_found-requires-in-loop-number-clause-once : goal.push_found-requires-in-loop-number-clause-once
push_found-requires-in-loop-number-clause-once g c = subst (λ list. first_of_each list ≡ list) (sym c.loop-number.invariant) (each_once _)

pub loop-number-preserved : goal.loop-number-preserved
loop-number-preserved g c =
    let menus = g.S.MenuSource.menus c.args.source.now in
    let pairs = c.args.pairs.now in
    one_request_more _ _ _ _ _ _ c.in_ok-push_found-2.ensures.links c.loop-number.invariant
    (one_number_more (λ number. links_by menus pairs (Further number)) c.args.numbers.now c.loop-number.number-index _ c.loop-number-test.true)

pub push_found-requires-2-clause-once : goal.push_found-requires-2-clause-once
push_found-requires-2-clause-once g c = subst (λ list. first_of_each list ≡ list) (sym c.loop-number.invariant) (each_once _)

pub returns-clause-links : goal.returns-clause-links
returns-clause-links g c =
    let menus = g.S.MenuSource.menus c.args.source.now in
    let pairs = c.args.pairs.now in
    let numbers = c.args.numbers.now in
    let all = take_all c.loop-number.number-index numbers (omega (arith, c.loop-number-test.false)) in
    one_request_more _ _ _ _ _ _ c.in_ok-push_found-3.ensures.links c.loop-number.invariant
    (ap (λ ns. flat_map (λ number. links_by menus pairs (Further number)) (texts_of ns) ++ links_by menus pairs Any) (sym all))
