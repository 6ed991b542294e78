use Rattle.std.proofs.Common.{◌<◌, map}
use Rattle.csv.specs.Records.{fields_of}
use Rattle.kbart_rows.proofs.ReadingLines.{IsReading}
use Rattle.registry_file.proofs.lines.read_lines.Given as goal

abbrev pub invariant-loop-record : goal.invariant-loop-record
invariant-loop-record l = IsReading l.fn.bytes (map fields_of l.lines.items) l.record-iterator.rdr × (0 < l.record-iterator.left)
