use Rattle.std.proofs.Common.{◌≡◌, ◌≤◌, count_by, not, take}
use Rattle.http_request.specs.Numbers.{is_hyphen}
use Rattle.http_request.proofs.numbers.characters.Given as goal

-- the characters so far, which are not more than the bytes so far
abbrev pub invariant-loop-byte : goal.invariant-loop-byte
invariant-loop-byte l = record {
  counted : l.count ≡ count_by (λ b. not (is_hyphen b)) (take l.byte-index l.number);
  few : l.count ≤ l.byte-index;
}
