use Rattle.std.proofs.Common.{◌∙◌, sym, string_bytes}
use Rattle.kbart_rows.proofs.KeptLines.{lines_count}
use Rattle.kbart_rows.proofs.records.Records.len.Goals as goal

pub returns : goal.returns
returns c = rw (← c.self.view_is) ((c.len.ensures ∙ c.self.inside.ends.ok.0) ∙ sym (lines_count c.self.inside.ends.items (string_bytes c.self.inside.text)))
