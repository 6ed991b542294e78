use Rattle.std.proofs.Common.{ℕ, List, ◌<◌, ◌-◌, length}
use Rattle.target_vars.specs.Private.NamesValue.{Passes, Leads}
use Rattle.target_vars.proofs.names.forks.search.Given as goal

-- the forks that the search passes from here on are passed by the whole search
abbrev pub invariant-loop-next : goal.invariant-loop-next
invariant-loop-next l = record {
  within : l.at < length l.forks;
  whole : (path : List ℕ) (last number : ℕ) → Passes path l.forks l.name l.at last number → Leads l.forks l.name last number;
}

abbrev pub decreases-loop-next : goal.decreases-loop-next
decreases-loop-next l = length l.forks - l.at
