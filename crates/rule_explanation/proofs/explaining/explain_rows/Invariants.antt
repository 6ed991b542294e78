-- What has been written, with what is still to write, is the whole, and no row so far has a web link.
use Rattle.std.proofs.Common.{◌+◌, ◌-◌, ◌≤◌, length}
use Rattle.kbart_rows.specs.Identifiers.{ids_of, matching_rows}
use Rattle.rule_explanation.specs.Explanation.{tried_row_text}
use Rattle.rule_explanation.specs.Rows.{gives_web_link}
use Rattle.rule_explanation.proofs.LeftRows.{Written}
use Rattle.rule_explanation.proofs.explaining.explain_rows.Given as goal

abbrev pub invariant-loop-row : goal.invariant-loop-row
invariant-loop-row g l =
    record {
      below : l.place ≤ l.from + 1;
      written : Written g.W.Write.contents (tried_row_text l.rules l.table l.request.pairs) (gives_web_link l.rules l.table l.request.pairs)
          (matching_rows l.table (ids_of l.request.pairs)) l.place l.from l.fn.output l.output;
    }

abbrev pub decreases-loop-row : goal.decreases-loop-row
decreases-loop-row g l = length l.table.rows - l.from
