use Rattle.std.proofs.Common.{◌≡◌, ℕ, ◌<◌, ◌≤◌, get_or}
use Rattle.machine_model.specs.declared.kind.Kind.TheVariants.{Any}
use Rattle.machine_model.specs.Kinds.{kind_join}
use Rattle.verifier.specs.Private.Walks.{row_rises, Rises}
use Rattle.verifier.proofs.row.raise.Given as goal

abbrev pub invariant-loop-r : goal.invariant-loop-r
invariant-loop-r l = record {
  joined : (q : ℕ) → q < l.r → get_or l.kinds q Any ≡ kind_join (get_or l.fn.kinds q Any) (get_or l.others q Any);
  rest : (q : ℕ) → l.r ≤ q → get_or l.kinds q Any ≡ get_or l.fn.kinds q Any;
  rises : Rises row_rises l.rose l.fn.kinds l.kinds;
}
