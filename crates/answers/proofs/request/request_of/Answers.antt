use Rattle.std.proofs.Common.{◌≡◌, rules, sym, true≢false}
use Rattle.kev_read.specs.declared.error.KevError.TheVariants.{NoMemory}
use Rattle.answers.specs.Reading.{IsNoRequest}
use Rattle.answers.proofs.RefusalLemmas.{faulty, short}
use Rattle.answers.proofs.request.request_of.Goals as goal

pub returns-in-Err-clause-err : goal.returns-in-Err-clause-err
returns-in-Err-clause-err c =
    let same : c.in-Err.e ≡ NoMemory = search rules in
    IsNoRequest.no_memory (rw c.as_bytes.ensures.value at (short _ _ _ _ _ c.in-Err.is (λ long. cc (same, long)) c.read_kev.ensures.too_long))

pub returns-in-Err-2-clause-err : goal.returns-in-Err-2-clause-err
returns-in-Err-2-clause-err c =
    IsNoRequest.refused _
    (faulty _ _ _ (λ same. true≢false (sym (rw same at c.if-eq.ensures))) (rw c.as_bytes.ensures.value at c.in-Err.ensures.refused))
