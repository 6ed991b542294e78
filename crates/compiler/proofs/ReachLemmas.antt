-- The lines of a block lead no further than to the place after it.
use Rattle.std.proofs.Common.{ℕ, suc, ◌+◌, ◌≤◌, List, [], ◌∷◌, ◌++◌, length, arith}
use Rattle.std.proofs.lemmas.List.{length-append}
use Rattle.compiler_model.specs.declared.lines.Target.TheVariants.{Ahead}
use Rattle.compiler_model.specs.declared.lines.Line.{Line}
use Rattle.compiler_model.specs.declared.lines.Action.{Action}
use Rattle.compiler_model.specs.declared.lines.Line.TheVariants.{Acts, Jumps, Turns, Halts}
use Rattle.compiler_model.specs.Blocks.{Block, Nothing, Does, Then, Unless, Either, ForEach, LeaveIf, Leave, lines}
use Rattle.compiler.specs.Private.Reach.{reach, StayWithin}

within_both : (more : ℕ) (a b : List Line) → StayWithin (length b + more) a → StayWithin more b → StayWithin more (a ++ b)
within_both more [] b h k = k
within_both more (l ∷ a) b h k = (omega (arith, h.0, length-append a b), within_both more a b h.1 k)

pub lines_within : (b : Block) (more : ℕ) → StayWithin more (lines b)
lines_within Nothing more = tt
lines_within (Does action) more = (does action, tt)
  where
    does : (action : Action) → reach (Acts action) ≤ suc 0 + more
    does action = omega arith
lines_within (Then x y) more = within_both more (lines x) (lines y) (lines_within x (length (lines y) + more)) (lines_within y more)
lines_within (Unless test x) more = (omega arith, lines_within x more)
lines_within (Either test x y) more = (
  omega (arith, length-append (lines x) (Jumps (Ahead (length (lines y) + 1)) ∷ lines y)),
  within_both more (lines x) (Jumps (Ahead (length (lines y) + 1)) ∷ lines y) (lines_within x _) (omega arith, lines_within y more),
)
lines_within (ForEach a b x) more =
    (omega (arith, length-append (lines x) (Turns ∷ [])), within_both more (lines x) (Turns ∷ []) (lines_within x _) (omega arith, tt))
lines_within (LeaveIf test) more = (omega arith, tt)
lines_within Leave more = (omega arith, tt)

-- HALT after the lines of a block
pub rule_within : (b : Block) → StayWithin 0 (lines b ++ Halts ∷ [])
rule_within b = within_both 0 (lines b) (Halts ∷ []) (lines_within b _) (omega arith, tt)
