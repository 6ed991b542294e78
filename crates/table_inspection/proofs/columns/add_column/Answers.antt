use Rattle.table_inspection.proofs.columns.add_column.Goals as goal

pub returns-in-Unknown : goal.returns-in-Unknown
returns-in-Unknown c = rw c.in-Unknown.is c.add_if_unknown.ensures

pub returns-in-Ignored : goal.returns-in-Ignored
returns-in-Ignored c = rw c.in-Ignored.is c.add_if_ignored.ensures
