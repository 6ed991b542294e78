-- One more byte of the name.
use Rattle.std.proofs.Common.{◌≡◌, ◌≤◌, ap, ◌∙◌, arith, get_or, length}
use Rattle.std.proofs.Common.{◌+◌}
use Rattle.rule_lint.specs.Private.Starts.{exchanged_key, first_with, key_at, shorter_key, whole_key, without}
use Rattle.rule_lint.proofs.StartLemmas.{below, up_to_end, up_to_next}
use Rattle.rule_lint.proofs.starts.start_of.Goals as goal

pub loop-i-preserved : goal.loop-i-preserved
loop-i-preserved c =
    let inv = c.loop-i.invariant in
    let i = c.loop-i.i in
    let m = c.args.multiplier in
    let name = c.args.name.now in
    let firsts = c.args.firsts.now in
    let start = c.loop-i.start in
    let next = c.min-start-in-loop-i.result in
    let least : next ≤ start = omega (arith, c.min-in-loop-i.ensures, c.min-start-in-loop-i.ensures) in
    let own : next ≤ c.first_with-in-loop-i.result = omega (arith, c.min-in-loop-i.ensures, c.min-start-in-loop-i.ensures) in
    let others : next ≤ c.first_without.result = omega (arith, c.min-start-in-loop-i.ensures) in
    let key : c.first_with-in-loop-i.result ≡ first_with firsts (shorter_key m name i) =
    c.first_with-in-loop-i.ensures ∙ ap (first_with firsts) (c.key_at-in-loop-i.ensures ∙ ap (λ hash. key_at m hash 2 i) c.hash_on-hash.ensures) in
    record {
      lowered = below _ _ _ least inv.lowered;
      prefixed = below _ _ _ least inv.prefixed;
      last = below _ _ _ least inv.last;
      longer = up_to_next start next (λ j. first_with firsts (shorter_key m name j)) i least inv.longer (omega (arith, own, key));
      shorter = up_to_next start next (λ j. first_with firsts (whole_key m (without name j))) i least inv.shorter
          (below _ _ _ others c.first_without.ensures.shorter);
      replaced = up_to_next start next (λ j. first_with firsts (shorter_key m (without name j) j)) i least inv.replaced
          (below _ _ _ others c.first_without.ensures.replaced);
      exchanged = up_to_next start next (λ j. first_with firsts (exchanged_key m (without name j) (get_or name j 0) (j + 1))) i least inv.exchanged
          (below _ _ _ others c.first_without.ensures.exchanged);
    }

pub returns : goal.returns
returns c =
    let inv = c.loop-i.invariant in
    let name = c.args.name.now in
    let reached : length name ≤ c.loop-i.i = omega (arith, c.loop-i-test.false) in
    record {
      lowered = inv.lowered;
      prefixed = inv.prefixed;
      longer = up_to_end c.loop-i.start (λ j. first_with c.args.firsts.now (shorter_key c.args.multiplier name j)) (length name) c.loop-i.i inv.last inv.longer
          reached;
      shorter = λ j l. inv.shorter j (omega (arith, l, reached));
      replaced = λ j l. inv.replaced j (omega (arith, l, reached));
      exchanged = λ j l. inv.exchanged j (omega (arith, l, reached));
    }
