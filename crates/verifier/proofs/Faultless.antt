-- The file of a code that has good form and is typable has no error.
use Rattle.std.proofs.Common.{◌≡◌, None, refl, subst}
use Rattle.std.specs.Prelude.{◌↔◌, ℕ}
use Rattle.text_model.specs.Texts.{Text}
use Rattle.code_model.specs.Code.{Code}
use Rattle.code_file.specs.Grammar.{IsCodeFile}
use Rattle.code_file.specs.Fault.{IsFirstFault}
use Rattle.code_file.specs.declared.error.CodeError.{CodeError}
use Rattle.machine_model.specs.First.{Located}
use Rattle.machine_model.specs.Form.{HasGoodForm, first_form_fault}
use Rattle.machine_model.specs.Mismatch.{IsFirstMismatch}
use Rattle.machine_model.specs.Typable.{IsTypable}
use Rattle.verifier.specs.Accepted.{HasNoFault}
use Rattle.verifier.specs.Faults.{IsLoadFault, no_code, bad_form, mismatch, no_memory}
use Rattle.verifier.specs.declared.error.LoadError.{LoadError}
use Rattle.verifier.specs.declared.error.LoadError.TheVariants.{NoMemory}

-- what the laws of code files, of form and of kinds say
pub record AreLaws : Type 0 where
  pub no_fault : (bytes : Text) (c : Code) (e : CodeError) → IsCodeFile bytes c → IsFirstFault bytes e → ⊥
  pub one_code : (bytes : Text) (c d : Code) → IsCodeFile bytes c → IsCodeFile bytes d → c ≡ d
  pub form : (c : Code) → HasGoodForm c ↔ (first_form_fault c ≡ None)
  pub untypable : (c : Code) (m : Located ℕ) → IsFirstMismatch c m → IsTypable c → ⊥

module _ (laws : AreLaws) (bytes : Text) (code : Code) (file : IsCodeFile bytes code) (good : HasGoodForm code) (typable : IsTypable code) where
  only_memory : (e : LoadError) → IsLoadFault bytes e → e ≡ NoMemory
  only_memory _ (no_code e first) = absurd (laws.no_fault bytes code e file first)
  only_memory _ (bad_form c f spelled first) =
      let same : code ≡ c = laws.one_code bytes code c file spelled in
      let none : first_form_fault c ≡ None = (laws.form c).0 (subst HasGoodForm same good) in
      absurd (cc (none, first))
  only_memory _ (mismatch c m spelled form first) =
      absurd (laws.untypable c m first (subst IsTypable (laws.one_code bytes code c file spelled) typable))
  only_memory _ (no_memory c spelled) = refl

  pub has_no_fault : HasNoFault bytes
  has_no_fault = only_memory
