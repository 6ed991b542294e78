use Rattle.std.proofs.lemmas.Result.{err_from_is_err_and}
use Rattle.end_to_end.proofs.Parsed.{parse_cause}
use Rattle.end_to_end.proofs.compiled.run_rule_file.Goals as goal

pub returns-in_err-rules-clause-refused : goal.returns-in_err-rules-clause-refused
returns-in_err-rules-clause-refused c =
    let p = err_from_is_err_and c.from_residual.result c.from_residual.ensures.1 in
    rw (p.1, p.2)
    (parse_cause _ c.args.bytes.now c.in_err-rules.field-0.0
    (record { refused = c.in_err-rules.ensures.err; too_long = c.in_err-rules.ensures.too_long; not_utf8 = c.in_err-rules.ensures.not_utf8 }))
