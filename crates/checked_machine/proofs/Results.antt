-- A result that cannot be an error.
use Rattle.std.proofs.Common.{refl, Result, Ok, Err}
use Rattle.std.specs.Prelude.{MatchResult, IsOk}

pub is_ok_unless : {T E : Type 0} (r : Result T E) (P : T → Type 0) (Q : E → Type 0) → MatchResult r P Q → ((e : E) → Q e → ⊥) → IsOk r
is_ok_unless (Ok x) P Q h never = refl
is_ok_unless (Err e) P Q h never = absurd (never e h)
