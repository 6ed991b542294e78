-- Bytes with nothing after them.
use Rattle.std.proofs.lemmas.List.{append-nil}

pub ruleset appended = append-nil
