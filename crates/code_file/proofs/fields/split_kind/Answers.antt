use Rattle.std.proofs.Common.{sym, subst}
use Rattle.std.proofs.lemmas.List.{nil_from_length}
use Rattle.code_file.specs.Fault.{IsKindFault, no_kind, bad_kind}
use Rattle.code_file.proofs.fields.split_kind.Goals as goal

pub returns-in_default-clause-fault : goal.returns-in_default-clause-fault
returns-in_default-clause-fault c =
    subst (IsKindFault c.args.bytes.now) (sym c.cut_short.ensures) (no_kind (nil_from_length c.args.bytes.now c.in_default.ensures.cases))

pub returns-then-kind-gt1-clause-fault : goal.returns-then-kind-gt1-clause-fault
returns-then-kind-gt1-clause-fault c =
    subst (IsKindFault c.args.bytes.now) (sym c.at.ensures) (bad_kind _ _ c.in-Some.ensures.cases.0 c.if-kind-gt1.true)
