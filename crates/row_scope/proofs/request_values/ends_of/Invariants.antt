use Rattle.std.proofs.Common.{◌≡◌, ℕ, ◌+◌, ◌*◌, ◌≤◌, length, take, get_or, sum_by}
use Rattle.row_scope.proofs.request_values.ends_of.Given as goal

-- the sums so far, the last of which is that of the spans so far
abbrev pub invariant-loop-i : goal.invariant-loop-i
invariant-loop-i l = record {
  many : length l.ends.items ≡ l.i + 1;
  sums : (k d : ℕ) → k ≤ l.i → get_or l.ends.items k d ≡ sum_by (λ (span : ℕ × ℕ). span.1) (take k l.values.spans);
  last : l.end ≡ sum_by (λ (span : ℕ × ℕ). span.1) (take l.i l.values.spans);
  small : l.end ≤ l.i * 4294967296;
}
