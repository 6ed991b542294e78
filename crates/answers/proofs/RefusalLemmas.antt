-- What the exit of a `?` returns; which errors say that memory ran out, and for which bytes.
use Rattle.std.proofs.Common.{◌≡◌, ◌≢◌, ℕ, ◌<◌, ◌≤◌, inl, inr, ap, arith}
use Rattle.std.specs.Prelude.{◌⊎◌, ◌↔◌, Result, Ok, Err}
use Rattle.std.specs.Result.{IsErrAnd}
use Rattle.text_model.specs.Texts.{Text}
use Rattle.code_model.specs.Code.{Code}
use Rattle.code_file.specs.Grammar.{IsCodeFile}
use Rattle.verifier.specs.Faults.{IsLoadFault, no_code, bad_form, mismatch, no_memory}
use Rattle.verifier.specs.declared.error.LoadError.{LoadError}
use Rattle.verifier.specs.declared.error.LoadError.TheVariants as load
use Rattle.answers.specs.declared.refusal.Refusal.{Refusal}

-- what the exit of a `?` returns, if this is the error that `From` made
pub is_err : {T : Type 0} {E : Type 0} (result : Result T E) (made : E) → IsErrAnd result (λ e. e ≡ made) → result ≡ Err made
is_err (Ok x) made same = absurd same
is_err (Err e) made same = ap Err same

-- the library finds an error, if it is not out of memory
pub faulty : {E : Type 0} (out e : E) (Fault : Type 0) → (e ≢ out) → (e ≡ out) ⊎ Fault → Fault
faulty out e Fault other (inl same) = absurd (other same)
faulty out e Fault other (inr why) = why

-- what is too long has no other error
pub short : {T : Type 0} {E : Type 0} (result : Result T E) (e long : E) (n most : ℕ) → result ≡ Err e → (e ≢ long)
    → ((result ≡ Err long) ↔ (most < n)) → n ≤ most
short result e long n most is other told =
    let not_long : ¬ (most < n) = (λ more. other (cc (told.1 more))) in
    omega (arith, not_long)

-- loading reports that it is out of memory only for a code file
pub is_file : (bytes : Text) (e : LoadError) → IsLoadFault bytes e → e ≡ load.NoMemory → (code : Code) × IsCodeFile bytes code
is_file bytes e (no_code f first) none = absurd (cc)
is_file bytes e (bad_form code f read first) none = (code, read)
is_file bytes e (mismatch code m read form first) none = (code, read)
is_file bytes e (no_memory code read) none = (code, read)
