use Rattle.std.proofs.Common.{refl, sym, ◌∙◌, subst, arith}
use Rattle.std.proofs.lemmas.Grind.{common_steps}
use Rattle.code_file.specs.Grammar.{header_field}
use Rattle.code_file.specs.Fault.{IsFieldFault, in_names, in_literals, in_instrs}
use Rattle.code_file.proofs.FileLemmas.{trailing_here, five_parts, cut_in_two, not_empty}
use Rattle.code_file.proofs.tables.Tables.split.Goals as goal

pub returns-in-Err-clause-fault : goal.returns-in-Err-clause-fault
returns-in-Err-clause-fault c =
    subst (IsFieldFault c.args.bytes.now) (sym c.after.ensures)
    (in_names
    (grind (arith, common_steps))
    c.in-Err.e c.in-Err.ensures.fault)

pub returns-in-Err-split_literals-clause-fault : goal.returns-in-Err-split_literals-clause-fault
returns-in-Err-split_literals-clause-fault c =
    subst (IsFieldFault c.args.bytes.now) (sym c.after-in-Err-split_literals.ensures)
    (in_literals
    (grind (arith, common_steps))
    c.in-Err-split_literals.e c.in-Err-split_literals.ensures.fault)

pub returns-then-rest-len-clause-fault : goal.returns-then-rest-len-clause-fault
returns-then-rest-len-clause-fault c =
    subst (IsFieldFault c.args.bytes.now) (sym c.cut_short.ensures)
    (in_instrs
    (grind (arith, common_steps))
    c.if-rest-len.true)

pub returns-then-not-is_empty-clause-fault : goal.returns-then-not-is_empty-clause-fault
returns-then-not-is_empty-clause-fault c =
    subst (IsFieldFault c.args.bytes.now) (sym c.at.ensures)
    (trailing_here c.args.bytes.now _ c.split_at.result.1.now c.in_ok-header.header c.in-Ok.parts.0.now
    c.in-Ok-split_literals.parts.0.now c.split_at.result.0.now
    (record {
      allowed = c.in_ok-header.ensures.good.0;
      name_table = c.in-Ok.ensures.good.0;
      literal_table = c.in-Ok-split_literals.ensures.good.0;
      room = c.split_at.ensures.front_len;
      spells = refl;
    })
    (five_parts c.args.bytes.now (header_field c.in_ok-header.header) c.in_ok-header.rest.now c.in-Ok.parts.0.now c.in-Ok.parts.1.now
    c.in-Ok-split_literals.parts.0.now c.in-Ok-split_literals.parts.1.now c.split_at.result.0.now c.split_at.result.1.now
    c.in_ok-header.ensures.good.1 c.in-Ok.ensures.good.1 c.in-Ok-split_literals.ensures.good.1
    (cut_in_two _ c.in-Ok-split_literals.parts.1.now _ _ c.split_at.ensures.front c.split_at.ensures.back))
    (not_empty c.split_at.result.1.now (sym c.is_empty.ensures ∙ c.if-not-is_empty.true)) c.requires
    (λ i. omega (arith, c.type_inv.bytes i)))
