use Rattle.std.proofs.Common.{◌≡◌, inl, inr, ap, refl, rules, sym, true≢false}
use Rattle.text_model.specs.Texts.{Text}
use Rattle.code_file.specs.Fault.{IsFirstFault, IsRefusal}
use Rattle.code_file.specs.declared.error.CodeError.{CodeError}
use Rattle.code_file.specs.declared.error.CodeErrorKind.TheVariants.{NoMemory}
use Rattle.verifier.specs.Faults.{read_error}
use Rattle.verifier.proofs.Loads.{read_refused}
use Rattle.answers.specs.Reading.{IsNoCodeFile}
use Rattle.answers.proofs.RefusalLemmas.{is_file}
use Rattle.answers.proofs.reading.read_code.Goals as goal

first_fault : (bytes : Text) (e : CodeError) → (e.kind ≡ NoMemory → ⊥) → IsRefusal bytes e → IsFirstFault bytes e
first_fault bytes e other (inl first) = first
first_fault bytes e other (inr memory) = absurd (other (ap (λ (f : CodeError). f.kind) memory.0))

pub returns-in-Err-clause-err : goal.returns-in-Err-clause-err
returns-in-Err-clause-err c =
    let same : c.in-Err.e.kind ≡ NoMemory = search rules in
    let file = is_file _ (read_error c.in-Err.e) (read_refused _ _ c.in-Err.ensures.refused) (rw same refl) in
    IsNoCodeFile.no_memory file.0 file.1

pub returns-in-Err-2-clause-err : goal.returns-in-Err-2-clause-err
returns-in-Err-2-clause-err c =
    IsNoCodeFile.refused _ (first_fault _ _ (λ same. true≢false (sym (rw same at c.if-eq.ensures))) c.in-Err.ensures.refused)
