use Rattle.std.proofs.Common.{◌∷◌, List, ℕ, sym, ap, ◌∙◌, subst, arith}
use Rattle.std.proofs.lemmas.Result.{err_from_is_err_and}
use Rattle.code_model.specs.Code.{Literal}
use Rattle.code_file.specs.Grammar.{kind_byte}
use Rattle.code_file.specs.Fault.{IsLiteralFault, in_kind, no_length, no_text, bad_text}
use Rattle.code_file.proofs.FieldLemmas.{literal_spelled}
use Rattle.code_file.proofs.fields.after_literal.Goals as goal

pub returns-in_err-compared-clause-fault : goal.returns-in_err-compared-clause-fault
returns-in_err-compared-clause-fault c =
    let p = err_from_is_err_and c.from_residual.result c.from_residual.ensures.1 in
    rw (p.1, p.2) (in_kind _ c.in_err-compared.ensures.fault)

pub returns-then-rest-lt2-clause-fault : goal.returns-then-rest-lt2-clause-fault
returns-then-rest-lt2-clause-fault c =
    subst (IsLiteralFault c.args.bytes.now) (sym c.cut_short.ensures)
    (no_length c.in_ok-compared.compared c.in_ok-compared.rest.now c.in_ok-compared.ensures.spells c.if-rest-lt2.true)

pub returns-then-rest-len-clause-fault : goal.returns-then-rest-len-clause-fault
returns-then-rest-len-clause-fault c =
    subst (IsLiteralFault c.args.bytes.now) (sym c.cut_short-then-rest-len.ensures)
    (no_text c.in_ok-compared.compared c.split_number-len.result.0 c.split_number-len.result.1.now
    (c.in_ok-compared.ensures.spells ∙ ap (λ (t : List ℕ). kind_byte c.in_ok-compared.compared ∷ t) c.split_number-len.ensures.spells)
    c.split_number-len.ensures.small c.if-rest-len.true)

pub returns-then-is_text_of-clause-good : goal.returns-then-is_text_of-clause-good
returns-then-is_text_of-clause-good c =
    let literal : Literal = record { compared = c.in_ok-compared.compared; bytes = c.split_at.result.0.now } in (
      literal,
      record { short = omega (arith, c.split_number-len.ensures.small, c.split_at.ensures.front_len); text = c.is_text_of.ensures.0 c.if-is_text_of.true },
      literal_spelled _ _ _ _ _ _ _ c.in_ok-compared.ensures.spells c.split_number-len.ensures.spells
          c.split_at.ensures.front c.split_at.ensures.back c.split_at.ensures.front_len,
    )

pub returns-else-is_text_of-clause-fault : goal.returns-else-is_text_of-clause-fault
returns-else-is_text_of-clause-fault c =
    subst (IsLiteralFault c.args.bytes.now) (sym c.at.ensures)
    (bad_text (record { compared = c.in_ok-compared.compared; bytes = c.split_at.result.0.now }) c.split_at.result.1.now
    (literal_spelled _ _ _ _ _ _ _ c.in_ok-compared.ensures.spells c.split_number-len.ensures.spells
    c.split_at.ensures.front c.split_at.ensures.back c.split_at.ensures.front_len)
    (omega (arith, c.split_number-len.ensures.small, c.split_at.ensures.front_len))
    (λ t. let e = c.is_text_of.ensures.1 t in cc (e, c.if-is_text_of.false)))
