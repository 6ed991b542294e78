use Rattle.std.proofs.Common.{map, take}
use Rattle.csv.specs.Records.{fields_of}
use Rattle.files.specs.Changes.{Unchanged}
use Rattle.registry_file.specs.Loading.{AreTargets}
use Rattle.registry_file.proofs.load.registry_of.Given as goal

-- the lines so far are those of the targets, and nothing has changed
abbrev pub invariant-loop-before : goal.invariant-loop-before
invariant-loop-before g l = record {
  held : AreTargets (g.F.Files.at l.fn.files) l.fn.keys (map fields_of (take l.before l.line-items)) l.registry;
  same : Unchanged (g.F.Files.at l.fn.files) (g.F.Files.at l.files);
}
