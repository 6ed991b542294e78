use Rattle.std.proofs.Common.{◌≡◌, drop}
use Rattle.std.specs.List.{list_all}
use Rattle.article_places.specs.Runs.{has}
use Rattle.article_places.proofs.runs.are.Given as goal

abbrev pub invariant-loop-byte : goal.invariant-loop-byte
invariant-loop-byte l = list_all (has l.class) (drop l.byte-index l.text) ≡ list_all (has l.class) l.text
