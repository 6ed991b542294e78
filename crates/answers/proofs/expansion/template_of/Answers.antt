use Rattle.std.proofs.Common.{◌≡◌, ◌<◌, length, arith, rules, sym, true≢false}
use Rattle.uri_grammar.specs.declared.error.TemplateErrorKind.TheVariants.{NoMemory}
use Rattle.answers.specs.Reading.{IsNoTemplate}
use Rattle.answers.proofs.RefusalLemmas.{faulty}
use Rattle.answers.proofs.expansion.template_of.Goals as goal

pub returns-in-Err-clause-err : goal.returns-in-Err-clause-err
returns-in-Err-clause-err c =
    let same : c.in-Err.e.kind ≡ NoMemory = search rules in
    let not_long : ¬ (8192 < length c.args.text.now) = (λ more. cc (same, c.in-Err.ensures.too_long more)) in
    IsNoTemplate.no_memory (omega (arith, not_long))

pub returns-in-Err-2-clause-err : goal.returns-in-Err-2-clause-err
returns-in-Err-2-clause-err c =
    IsNoTemplate.refused _ (faulty _ _ _ (λ same. true≢false (sym (rw same at c.if-eq.ensures))) c.in-Err.ensures.err)
