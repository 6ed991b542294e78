use Rattle.std.proofs.Common.{◌≡◌, ◌++◌, ◌∷◌, [], sym, ap, ◌∙◌, arith, length-append}
use Rattle.std.specs.Duration.{as_nanos}
use Rattle.http_exchange.specs.Connections.{counted, counts_of}
use Rattle.http_exchange.proofs.ServedLemmas.{served-one_more, counts-one_more, total, total-counts}
use Rattle.http_exchange.proofs.service.serve_within.Goals as goal

pub add-requires : goal.add-requires
add-requires g c =
    let so_far = c.loop-served.invariant.0 in
    omega (arith, total-counts so_far.0, so_far.2, ap total so_far.3, c.loop-served-test.true, c.ranges.count)

pub loop-served-preserved : goal.loop-served-preserved
loop-served-preserved g c =
    let so_far = c.loop-served.invariant.0 in
    let next = c.in_ok-serve_next.ensures.served in (
      (
        so_far.0 ++ next.0 ∷ [],
        served-one_more (g.S.MenuSource.menus c.args.source.now) g.L.Listener.gives g.L.Listener.closes g.L.In.Input.input_state g.L.Out.Output.output_state
            (as_nanos c.args.wait) c.args.listener.now c.loop-served.listener c.serve_next.new.listener so_far.0 next.0 so_far.1 next.1 next.2,
        omega (arith, length-append so_far.0 (next.0 ∷ []), so_far.2),
        c.add.ensures ∙ ap (λ counts. counted counts c.in_ok-serve_next.field-0) so_far.3 ∙ ap (counted (counts_of so_far.0)) next.3
            ∙ sym (counts-one_more so_far.0 next.0),
      ),
      omega (arith, c.loop-served-test.true),
    )

pub returns-clause-served : goal.returns-clause-served
returns-clause-served g c =
    let so_far = c.loop-served.invariant.0 in
    let all : c.loop-served._served ≡ c.args.count = omega arith in
    (so_far.0, so_far.1, so_far.2 ∙ all, so_far.3)

pub returns-clause-stopped : goal.returns-clause-stopped
returns-clause-stopped g c = tt
