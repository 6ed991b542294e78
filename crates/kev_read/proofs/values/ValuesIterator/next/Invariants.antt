use Rattle.std.proofs.Common.{◌≡◌, ◌-◌, drop, length}
use Rattle.kev_read.specs.Pairs.{all_of}
use Rattle.kev_read.proofs.values.ValuesIterator.next.Given as goal

-- the pairs so far have other keys
abbrev pub invariant-loop-self : goal.invariant-loop-self
invariant-loop-self l = all_of (drop l.self-inside.index l.self-inside.pairs.now) l.self-inside.key.now ≡ l.fn.self

abbrev pub decreases-loop-self : goal.decreases-loop-self
decreases-loop-self l = length l.self-inside.pairs.now - l.self-inside.index
