use Rattle.std.proofs.Common.{sym, subst}
use Rattle.std.proofs.lemmas.Result.{IfErr-weaker}
use Rattle.code_file.specs.Fault.{IsFirstFault, IsFieldFault, too_long, in_field}
use Rattle.code_file.proofs.tables.Tables.find.Goals as goal

pub returns-then-bytes-gt-MAX_BYTES-clause-fault : goal.returns-then-bytes-gt-MAX_BYTES-clause-fault
returns-then-bytes-gt-MAX_BYTES-clause-fault c =
    subst (IsFirstFault c.args.bytes.now) (sym c.at.ensures) (too_long c.if-bytes-gt-MAX_BYTES.true)

pub returns-clause-fault : goal.returns-clause-fault
returns-clause-fault c =
    IfErr-weaker c.split.result (IsFieldFault c.args.bytes.now) (IsFirstFault c.args.bytes.now)
    (λ e f. in_field e c.if-bytes-gt-MAX_BYTES.false f) c.split.ensures.fault
