use Rattle.std.proofs.Common.{rules, ◌≡◌, ◌+◌, ◌-◌, sym}
use Rattle.csv.proofs.RecordFacts.{prev-first, prev-next}
use Rattle.kbart_rows.proofs.records.start_of.Goals as goal

pub returns-then-at-eq0 : goal.returns-then-at-eq0
returns-then-at-eq0 c = rw c.if-at-eq0.true (sym (prev-first c.args.ends.now))

pub returns-else-at-eq0 : goal.returns-else-at-eq0
returns-else-at-eq0 c =
    let one : c.args.at - 1 + 1 ≡ c.args.at = search rules in
    sym (rw one at (prev-next 0 c.args.ends.now (c.args.at - 1) 0 (rw one c.requires)))
