use Rattle.menu_laws.proofs.SmallRows.{LawsOfSums, few_bytes, few_members}
use Rattle.menu_laws.proofs.work.rows_over_requests_are_small.Goals as goal

pub returns : goal.returns
returns c =
    let laws : LawsOfSums = record {
      row_members = c.row_bytes_are_cell_bytes.ensures.members;
      row_bytes = c.row_bytes_are_cell_bytes.ensures.bytes;
      members = c.sums_of_rows_over_requests.ensures.members;
      bytes = c.sums_of_rows_over_requests.ensures.bytes;
      few = c.requests_are_small.ensures.members;
      small = c.requests_are_small.ensures.bytes;
    } in
    record { members = few_members laws; bytes = few_bytes laws }
