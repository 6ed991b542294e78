-- How the run of rules ends, by their code.
use Rattle.std.specs.Prelude.{◌≡◌, ◌≤◌, None}
use Rattle.text_model.specs.Texts.{Text}
use Rattle.machine_model.specs.Runs.{Outcome}
use Rattle.target_vars.specs.EnvValue.{EnvValue}
use Rattle.rule_parser.specs.Rules.{RuleSet}
use Rattle.rule_parser.specs.Grammar.{IsRuleText}
use Rattle.rule_parser.specs.Meaning.{meaning}
use Rattle.compiler_model.specs.Compiled.{code_of}
use Rattle.compiler_model.specs.Answer.{answer}
use Rattle.compiler.specs.Limits.{limit_passed}
use Rattle.verified_runs.specs.RunValue.{most_bytes}
use Rattle.verified_runs.specs.declared.run.TheConstants.{MAX_LINK_BYTES}
use Rattle.verifier.specs.Accepted.{IsAcceptedFile}
use Rattle.safe_runs.specs.Ending.{EndsSafely}

-- rules that have a code file
pub record AreCompiled (set : RuleSet) : Type 0 where
  -- their code is within each limit of the compiler: names, literals, instructions, bytes of the file
  pub limits : limit_passed set ≡ None
  -- it has a file, which the verifier accepts: it has good form, is typable, and is safe on every environment
  pub file : Text
  pub accepted : IsAcceptedFile file (code_of set)

-- the run of rules on an environment, with its outcome
pub record RulesEndSafely (set : RuleSet) (e : EnvValue) (o : Outcome) : Type 0 where
  -- the rules have a code file, within the limits of the compiler and accepted by the verifier
  pub compiled : AreCompiled set
  -- the bound of their code on output bytes is within the limit
  pub within : most_bytes (code_of set) e ≤ MAX_LINK_BYTES
  -- the run of their code ends safely, with this outcome: within its steps and bytes, a link being URI text
  pub ends : EndsSafely (code_of set) e o
  -- the outcome is what the rules mean: the link of the first rule whose guards all hold, or no link without one
  pub means : answer (meaning set e.entries) ≡ o

-- the run of a rule file on an environment, with its outcome
pub record RuleFileEndsSafely (bytes : Text) (e : EnvValue) (o : Outcome) : Type 0 where
  -- the bytes are the text of these rules
  pub rules : RuleSet
  pub are_rules : IsRuleText bytes rules
  -- the rules end safely, with this outcome
  pub ends : RulesEndSafely rules e o
