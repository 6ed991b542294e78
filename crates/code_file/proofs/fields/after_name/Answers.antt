use Rattle.std.proofs.Common.{sym, subst, arith}
use Rattle.std.proofs.lemmas.List.{nil_from_length}
use Rattle.std.proofs.lemmas.Result.{err_from_is_err_and}
use Rattle.std.proofs.lemmas.Grind.{common_steps}
use Rattle.code_model.specs.Code.{Name}
use Rattle.code_file.specs.Fault.{IsNameFault, in_kind, no_length, bad_length, no_text, bad_text}
use Rattle.code_file.proofs.FieldLemmas.{name_head, name_spelled}
use Rattle.code_file.proofs.fields.after_name.Goals as goal

pub returns-in_err-_list-clause-fault : goal.returns-in_err-_list-clause-fault
returns-in_err-_list-clause-fault c =
    let p = err_from_is_err_and c.from_residual.result c.from_residual.ensures.1 in
    rw (p.1, p.2) (in_kind _ c.in_err-_list.ensures.fault)

pub returns-in_default-clause-fault : goal.returns-in_default-clause-fault
returns-in_default-clause-fault c =
    subst (IsNameFault c.args.bytes.now) (sym c.cut_short.ensures)
    (no_length c.in_ok-_list._list
    (name_head _ _ _ _ c.in_ok-_list.ensures.spells (nil_from_length c.in_ok-_list.rest.now c.in_default.ensures.cases)))

pub returns-then-not-is_name_length-clause-fault : goal.returns-then-not-is_name_length-clause-fault
returns-then-not-is_name_length-clause-fault c =
    subst (IsNameFault c.args.bytes.now) (sym c.at.ensures)
    (bad_length c.in_ok-_list._list c.in-Some.len.now c.in-Some.rest.now
    (name_head _ _ _ _ c.in_ok-_list.ensures.spells c.in-Some.ensures.cases.0)
    (λ p. let e = c.is_name_length.ensures.1 p in cc (e, c.if-not-is_name_length.true)))

pub returns-then-rest-len-clause-fault : goal.returns-then-rest-len-clause-fault
returns-then-rest-len-clause-fault c =
    subst (IsNameFault c.args.bytes.now) (sym c.cut_short-then-rest-len.ensures)
    (no_text c.in_ok-_list._list c.in-Some.len.now c.in-Some.rest.now
    (name_head _ _ _ _ c.in_ok-_list.ensures.spells c.in-Some.ensures.cases.0)
    (c.is_name_length.ensures.0 c.if-not-is_name_length.false) c.if-rest-len.true)

pub returns-in-Some-first_wrong-clause-fault : goal.returns-in-Some-first_wrong-clause-fault
returns-in-Some-first_wrong-clause-fault c =
    let len = c.is_name_length.ensures.0 c.if-not-is_name_length.false in
    subst (IsNameFault c.args.bytes.now) (sym c.at-in-Some-first_wrong.ensures)
    (bad_text (record { list = c.in_ok-_list._list; text = c.split_at.result.0.now }) c.split_at.result.1.now c.in-Some-first_wrong.place
    (name_spelled _ _ _ _ _ _ (name_head _ _ _ _ c.in_ok-_list.ensures.spells c.in-Some.ensures.cases.0)
    c.split_at.ensures.front c.split_at.ensures.back c.split_at.ensures.front_len)
    (omega (arith, len.0, c.split_at.ensures.front_len), omega (arith, len.1, c.split_at.ensures.front_len))
    c.in-Some-first_wrong.ensures.some)

pub returns-in-None-clause-good : goal.returns-in-None-clause-good
returns-in-None-clause-good c =
    let name : Name = record { list = c.in_ok-_list._list; text = c.split_at.result.0.now } in
    let len = c.is_name_length.ensures.0 c.if-not-is_name_length.false in (
      name,
      grind (arith, common_steps),
      name_spelled _ _ _ _ _ _ (name_head _ _ _ _ c.in_ok-_list.ensures.spells c.in-Some.ensures.cases.0)
          c.split_at.ensures.front c.split_at.ensures.back c.split_at.ensures.front_len,
    )
