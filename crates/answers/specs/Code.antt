-- The code file of rules, and why there is none.
use Rattle.std.specs.Prelude.{◌≡◌, ◌↔◌, Some, None, Result, Ok, Err}
use Rattle.text_model.specs.Texts.{Text}
use Rattle.environment_model.specs.Environment.{Environment}
use Rattle.code_model.specs.Code as model
use Rattle.machine_model.specs.Runs.{Outcome, HasOutcome}
use Rattle.compiler_model.specs.Answer.{answer}
use Rattle.rule_parser.specs.Rules.{RuleSet}
use Rattle.rule_parser.specs.Grammar.{IsRuleText}
use Rattle.rule_parser.specs.Meaning.{meaning}
use Rattle.compiler_model.specs.Compiled.{code_of}
use Rattle.compiler.specs.Limits.{limit_passed}
use Rattle.compiler.specs.declared.error.CompileError.{CompileError}
use Rattle.verifier.specs.Accepted.{IsAcceptedFile}
use Rattle.answers.specs.Reading.{IsNoRules}
use Rattle.answers.specs.declared.refusal.Refusal.{Refusal}
use Rattle.answers.specs.declared.refusal.Refusal.TheVariants.{Compile, Memory}

-- in every environment, the run of the code ends with what the rules mean there
abbrev pub GivesMeaning : model.Code → RuleSet → Type 0
GivesMeaning code rules = (v : Environment) (o : Outcome) → HasOutcome code v o ↔ (answer (meaning rules v) ≡ o)

-- the file of the code of a rule text, or the first reason why there is none
pub data IsCodeOf (bytes : Text) : Result Text Refusal → Type 0 where
  no_memory : (rules : RuleSet) → IsRuleText bytes rules → IsCodeOf bytes (Err Memory)
  no_rules : (e : Refusal) → IsNoRules bytes e → IsCodeOf bytes (Err e)
  over_limit : (rules : RuleSet) (e : CompileError) → IsRuleText bytes rules → limit_passed rules ≡ Some e → IsCodeOf bytes (Err (Compile e))
  compiled : (rules : RuleSet) (file : Text) → IsRuleText bytes rules → limit_passed rules ≡ None → IsAcceptedFile file (code_of rules)
      → GivesMeaning (code_of rules) rules → IsCodeOf bytes (Ok file)
