use Rattle.std.proofs.Common.{◌≡◌, ◌+◌, ◌∷◌, drop, sym, ◌∙◌, rules}
use Rattle.kev_read.specs.Pairs.{all_of}
use Rattle.kev_read.specs.Private.Layout.{key_value}
use Rattle.kev_read.proofs.ValuesOfKey.{all_of_this_key, all_of_other_key}
use Rattle.kev_read.proofs.values.ValuesIterator.next.Goals as goal

pub loop-self-preserved : goal.loop-self-preserved
loop-self-preserved c =
    let here = c.loop-self.self-inside in
    sym (all_of_other_key here.pairs.now here.key.now here.index (key_value c.at-pair.result) c.at-pair.ensures (sym c.if-eq.ensures)) ∙ c.loop-self.invariant

-- the first value that was left is the pair's
first : (c : goal.After-t11-1)
    → c.args.self.now ≡ c.at-pair.result.value.now ∷ all_of (drop (c.loop-self.self-inside.index + 1) c.loop-self.self-inside.pairs.now)
    c.loop-self.self-inside.key.now
first c =
    let here = c.loop-self.self-inside in
    sym c.loop-self.invariant ∙ all_of_this_key here.pairs.now here.key.now here.index (key_value c.at-pair.result) c.at-pair.ensures (sym c.if-eq.ensures)

pub returns-then-eq-clause-steps : goal.returns-then-eq-clause-steps
returns-then-eq-clause-steps c = first c

pub returns-then-eq-clause-goes : goal.returns-then-eq-clause-goes
returns-then-eq-clause-goes c = let left = first c in search rules
