use Rattle.std.proofs.Common.{◌≡◌, ◌<◌, length, map, take, ap, sym, ◌∙◌, subst}
use Rattle.std.specs.Prelude.{min}
use Rattle.std.specs.List.{zip}
use Rattle.std.specs.Iterator.Adapters.{zip_first, zip_second}
use Rattle.std.specs.Slice.Iter.{iter_rest}
use Rattle.std.proofs.lemmas.List.{length_push, length-map, get_or_default}
use Rattle.std.proofs.lemmas.Slice.Zip.{zip_turn, zip_end}
use Rattle.std.proofs.Math.ListN.{get_or-map}
use Rattle.verified_runs.specs.Names.{AreNumbered}
use Rattle.interleaved_runs.specs.Private.RunSets.{IsRunSetOf}
use Rattle.interleaved_runs.proofs.RunSetLemmas.{one_more, pair_at, pairs_inside, all_pairs}
use Rattle.interleaved_runs.proofs.run_set.RunSet.begin_all.Goals as goal

pub begin-requires : goal.begin-requires
begin-requires g c =
    let codes = c.args.codes.now in
    let envs = c.args.envs.now in
    let before = c.into_iter-code-iterator.result in
    let so_far = c.loop-code.yielded in
    let code = c.in-Some.code in
    let env = c.in-Some.env in
    let n = length so_far in
    let first : iter_rest (zip_first before) ≡ codes = ap (λ z. iter_rest (zip_first z)) c.into_iter-code-iterator.ensures.into_iter_gives
    ∙ ap iter_rest c.zip-code-items.ensures.first ∙ c.iter.ensures.rest in
    let second : iter_rest (zip_second before) ≡ envs = ap (λ z. iter_rest (zip_second z)) c.into_iter-code-iterator.ensures.into_iter_gives
    ∙ ap iter_rest c.zip-code-items.ensures.second ∙ c.iter-2.ensures.rest in
    let turn = zip_turn codes envs so_far before c.loop-code.code-iterator c.next.new.self c.next.result first second c.loop-code.yielded_by (code, env)
    c.in-Some.is c.next.ensures.steps in
    let here = pair_at (λ x. x.now) codes envs n code.now env.now turn.0 turn.1 turn.2 turn.3 (code.now.now, env.now) in
    subst (λ p. AreNumbered (g.E.Scope.is_number p.1) p.0) (sym here)
    (c.requires.names n (code.now.now, env.now) (pairs_inside (λ x. x.now) codes envs n turn.0 turn.1))

pub loop-code-preserved : goal.loop-code-preserved
loop-code-preserved g c =
    let environment = g.E.Scope.environment in
    let codes = c.args.codes.now in
    let envs = c.args.envs.now in
    let before = c.into_iter-code-iterator.result in
    let so_far = c.loop-code.yielded in
    let code = c.in-Some.code in
    let env = c.in-Some.env in
    let n = length so_far in
    let first : iter_rest (zip_first before) ≡ codes = ap (λ z. iter_rest (zip_first z)) c.into_iter-code-iterator.ensures.into_iter_gives
    ∙ ap iter_rest c.zip-code-items.ensures.first ∙ c.iter.ensures.rest in
    let second : iter_rest (zip_second before) ≡ envs = ap (λ z. iter_rest (zip_second z)) c.into_iter-code-iterator.ensures.into_iter_gives
    ∙ ap iter_rest c.zip-code-items.ensures.second ∙ c.iter-2.ensures.rest in
    let turn = zip_turn codes envs so_far before c.loop-code.code-iterator c.next.new.self c.next.result first second c.loop-code.yielded_by (code, env)
    c.in-Some.is c.next.ensures.steps in
    let more = c.in_ok-begin.ensures in
    let old = c.loop-code.run_set in
    let new = c.begin.new.self in
    let inside : n < length (map environment envs) = subst (λ m. n < m) (sym (length-map envs environment)) turn.1 in
    subst (λ m. IsRunSetOf (take m (zip (map (λ x. x.now) codes) (map environment envs))) new.over_budget.items new.runs.items)
    (sym (length_push so_far (code, env)))
    (one_more (zip (map (λ x. x.now) codes) (map environment envs)) n (code.now.now, environment env.now)
    old.over_budget.items new.over_budget.items old.runs.items new.runs.items
    (pairs_inside (λ x. x.now) codes (map environment envs) n turn.0 inside)
    (pair_at (λ x. x.now) codes (map environment envs) n code.now (environment env.now) turn.0 inside turn.2
    (λ d. ap environment (turn.3 env.now) ∙ sym (get_or-map environment envs n env.now) ∙ get_or_default (map environment envs) n (environment env.now) d
    inside))
    c.loop-code.invariant more.over_budget more.runs more.fresh)

pub returns : goal.returns
returns g c =
    let environment = g.E.Scope.environment in
    let codes = c.args.codes.now in
    let envs = c.args.envs.now in
    let before = c.into_iter-code-iterator.result in
    let so_far = c.loop-code.yielded in
    let first : iter_rest (zip_first before) ≡ codes = ap (λ z. iter_rest (zip_first z)) c.into_iter-code-iterator.ensures.into_iter_gives
    ∙ ap iter_rest c.zip-code-items.ensures.first ∙ c.iter.ensures.rest in
    let second : iter_rest (zip_second before) ≡ envs = ap (λ z. iter_rest (zip_second z)) c.into_iter-code-iterator.ensures.into_iter_gives
    ∙ ap iter_rest c.zip-code-items.ensures.second ∙ c.iter-2.ensures.rest in
    let all = zip_end codes envs so_far before c.loop-code.code-iterator c.next.new.self c.next.result first second c.loop-code.yielded_by c.in-None.is
    c.next.ensures.steps in
    let whole = subst (λ m. length so_far ≡ min (length codes) m) (sym (length-map envs environment)) all in
    let run_set = c.loop-code.run_set in
    subst (λ pairs. IsRunSetOf pairs run_set.over_budget.items run_set.runs.items) (all_pairs (λ x. x.now) codes (map environment envs) (length so_far) whole)
    c.loop-code.invariant
