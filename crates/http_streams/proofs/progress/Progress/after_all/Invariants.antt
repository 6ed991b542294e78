use Rattle.std.proofs.Common.{◌≡◌, ℕ, List, ◌++◌, take}
use Rattle.http_streams.specs.Private.Progress.{closes_with}
use Rattle.http_streams.proofs.progress.Progress.after_all.Given as goal

-- further bytes close the head from this progress exactly as they do after all bytes so far
abbrev pub invariant-loop-byte : goal.invariant-loop-byte
invariant-loop-byte l = (more : List ℕ) → closes_with l.progress more ≡ closes_with l.fn.self (take l.byte-index l.bytes ++ more)
