use Rattle.std.proofs.Common.{◌≡◌, ap, rules, sym, true≢false}
use Rattle.rule_parser.specs.declared.error.RuleErrorKind.TheVariants.{NoMemory}
use Rattle.answers.specs.Reading.{IsNoRules}
use Rattle.answers.proofs.RefusalLemmas.{faulty, short}
use Rattle.answers.proofs.reading.rules_of.Goals as goal

pub returns-in-Err-clause-err : goal.returns-in-Err-clause-err
returns-in-Err-clause-err c =
    let same : c.in-Err.e.kind ≡ NoMemory = search rules in
    IsNoRules.no_memory (short _ _ _ _ _ c.in-Err.is (λ long. cc (same, ap (λ e. e.kind) long)) c.parse.ensures.too_long)

pub returns-in-Err-2-clause-err : goal.returns-in-Err-2-clause-err
returns-in-Err-2-clause-err c =
    IsNoRules.refused _ (faulty _ _ _ (λ same. true≢false (sym (rw same at c.if-eq.ensures))) c.in-Err.ensures.err)
