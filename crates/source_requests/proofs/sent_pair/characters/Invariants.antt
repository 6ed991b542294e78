use Rattle.std.proofs.Common.{◌≡◌, ◌≤◌, ◌==◌, count_by, not, take}
use Rattle.source_requests.proofs.sent_pair.characters.Given as goal

-- the characters so far, which are not more than the bytes so far
abbrev pub invariant-loop-byte : goal.invariant-loop-byte
invariant-loop-byte l = record {
  counted : l.count ≡ count_by (λ b. not (b == 0x2d)) (take l.byte-index l.number);
  few : l.count ≤ l.byte-index;
}
