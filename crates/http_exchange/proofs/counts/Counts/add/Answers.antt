use Rattle.http_exchange.proofs.counts.Counts.add.Goals as goal

pub returns-in-Ok-Replied : goal.returns-in-Ok-Replied
returns-in-Ok-Replied c = let replied = rw c.in-Ok-Replied.is at c.in-Ok-Replied.field-0-is in rw (c.in-Ok-Replied.is, replied)

pub returns-in-Ok-Nothing : goal.returns-in-Ok-Nothing
returns-in-Ok-Nothing c = let nothing = rw c.in-Ok-Nothing.is at c.in-Ok-Nothing.field-0-is in rw (c.in-Ok-Nothing.is, nothing)

pub returns-in-Err : goal.returns-in-Err
returns-in-Err c = rw c.in-Err.is
