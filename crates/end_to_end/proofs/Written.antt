-- What the run of the file of rules says about the rules.
use Rattle.std.proofs.Common.{◌≡◌, ◌≤◌, None, subst, ◌∙◌, ap}
use Rattle.std.specs.Prelude.{◌↔◌}
use Rattle.text_model.specs.Texts.{Text}
use Rattle.environment_model.specs.Environment.{Environment}
use Rattle.code_model.specs.Code.{Code}
use Rattle.code_file.specs.Grammar.{IsCodeFile}
use Rattle.machine_model.specs.Runs.{Outcome, HasOutcome}
use Rattle.target_vars.specs.EnvValue.{EnvValue}
use Rattle.rule_parser.specs.Rules.{RuleSet}
use Rattle.rule_parser.specs.Meaning.{meaning}
use Rattle.compiler_model.specs.Compiled.{code_of}
use Rattle.compiler_model.specs.Answer.{answer}
use Rattle.compiler.specs.Limits.{limit_passed}
use Rattle.verified_runs.specs.RunValue.{most_bytes}
use Rattle.verified_runs.specs.declared.run.TheConstants.{MAX_LINK_BYTES}
use Rattle.verified_runs.specs.declared.error.PrepareError.TheVariants as prepare
use Rattle.safe_runs.specs.declared.error.RunError.{RunError}
use Rattle.safe_runs.specs.declared.error.RunError.TheVariants.{Load, Prepare}
use Rattle.verifier.specs.Accepted.{IsAcceptedFile}
use Rattle.safe_runs.specs.Ending.{EndsSafely, FileEndsSafely}
use Rattle.safe_runs.specs.Causes.{IsCause}
use Rattle.end_to_end.specs.declared.error.RulesError.TheVariants.{Run}
use Rattle.end_to_end.specs.Ending.{AreCompiled, RulesEndSafely}
use Rattle.end_to_end.specs.Causes.{IsRulesCause}

-- bytes are the file of at most one code
abbrev pub HasOneCode : Type 0
HasOneCode = (bytes : Text) (c d : Code) → IsCodeFile bytes c → IsCodeFile bytes d → c ≡ d

-- what is read from the file of a code is that code
pub read_means : HasOneCode → (bytes : Text) (code read : Code) (v : Environment) (o : Outcome) (P : Type 0) → IsCodeFile bytes code
    → HasOutcome code v o ↔ P → IsCodeFile bytes read → HasOutcome read v o ↔ P
read_means one bytes code read v o P file decided spelled = subst (λ (c : Code). HasOutcome c v o ↔ P) (one bytes code read file spelled) decided

-- the file of the code of rules that is within the limits of the compiler
module _ (one : HasOneCode) (set : RuleSet) (bytes : Text) (limits : limit_passed set ≡ None) (file : IsAcceptedFile bytes (code_of set)) where
  are_compiled : AreCompiled set
  are_compiled = record { limits = limits; file = bytes; accepted = file }

  is_code_of : (c : Code) → IsCodeFile bytes c → c ≡ code_of set
  is_code_of c spelled = one bytes c (code_of set) spelled file.is_file

  -- why the file is not run
  pub rules_cause : (e : EnvValue) (error : RunError) → IsCause bytes e error → IsRulesCause set e (Run error)
  rules_cause e (Load f) cause = (are_compiled, file.no_fault f cause)
  rules_cause e (Prepare (prepare.OverBudget n)) over =
      let same = is_code_of over.code over.file.is_file in
      record { compiled = are_compiled; bound = over.bound ∙ ap (λ (c : Code). most_bytes c e) same; passes = over.passes }
  rules_cause e (Prepare prepare.NoMemory) fits =
      let same = is_code_of fits.code fits.file.is_file in
      record { compiled = are_compiled; within = subst (λ (c : Code). most_bytes c e ≤ MAX_LINK_BYTES) same fits.within }

  -- how the run of the file ends
  pub rules_end : (e : EnvValue) (o : Outcome) → FileEndsSafely bytes e o
      → ((read : Code) → IsCodeFile bytes read → HasOutcome read e.entries o ↔ (answer (meaning set e.entries) ≡ o)) → RulesEndSafely set e o
  rules_end e o ran means =
      let same = is_code_of ran.code ran.file.is_file in
      record {
        compiled = are_compiled;
        within = subst (λ (c : Code). most_bytes c e ≤ MAX_LINK_BYTES) same ran.within;
        ends = subst (λ (c : Code). EndsSafely c e o) same ran.ends;
        means = (means ran.code ran.file.is_file).0 (ran.ends.steps, ran.ends.ending);
      }
