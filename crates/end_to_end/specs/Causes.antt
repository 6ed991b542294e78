-- Why rules are not run.
use Rattle.std.specs.Prelude.{◌≡◌, ℕ, ◌<◌, ◌≤◌, ◌⊎◌, Some, None, length, IsUtf8}
use Rattle.text_model.specs.Texts.{Text}
use Rattle.target_vars.specs.EnvValue.{EnvValue}
use Rattle.verified_runs.specs.RunValue.{most_bytes}
use Rattle.verified_runs.specs.declared.run.TheConstants.{MAX_LINK_BYTES}
use Rattle.verified_runs.specs.declared.error.PrepareError.TheVariants.{OverBudget, NoMemory}
use Rattle.rule_parser.specs.Rules.{RuleSet}
use Rattle.rule_parser.specs.Grammar.{IsRuleText}
use Rattle.rule_parser.specs.Faults.{IsRefused}
use Rattle.rule_parser.specs.declared.rules.TheConstants.{MAX_BYTES}
use Rattle.rule_parser.specs.declared.error.RuleError.{RuleError}
use Rattle.rule_parser.specs.declared.error.TheConstants.{NO_MEMORY}
use Rattle.compiler_model.specs.Compiled.{code_of}
use Rattle.compiler.specs.Limits.{limit_passed}
use Rattle.compiler.specs.declared.error.CompileError.TheVariants as compile
use Rattle.verifier.specs.declared.error.LoadError.TheVariants as load
use Rattle.safe_runs.specs.declared.error.RunError.TheVariants.{Load, Prepare}
use Rattle.end_to_end.specs.Ending.{AreCompiled}
use Rattle.end_to_end.specs.declared.error.RulesError.{RulesError}
use Rattle.end_to_end.specs.declared.error.RulesError.TheVariants as rules
use Rattle.end_to_end.specs.declared.error.RuleFileError.{RuleFileError}
use Rattle.end_to_end.specs.declared.error.RuleFileError.TheVariants as file

-- rules whose code might print more than the limit of a link
pub record AreOverBudget (set : RuleSet) (e : EnvValue) (n : ℕ) : Type 0 where
  -- the rules have a code file, within the limits of the compiler and accepted by the verifier
  pub compiled : AreCompiled set
  -- the number is the bound of their code on output bytes
  pub bound : n ≡ most_bytes (code_of set) e
  -- the number is over the limit
  pub passes : MAX_LINK_BYTES < n

-- rules whose code cannot print more than the limit of a link
pub record AreWithinBudget (set : RuleSet) (e : EnvValue) : Type 0 where
  -- the rules have a code file, within the limits of the compiler and accepted by the verifier
  pub compiled : AreCompiled set
  -- the bound of their code on output bytes is within the limit
  pub within : most_bytes (code_of set) e ≤ MAX_LINK_BYTES

-- what each error says about the rules, in the order of the steps
abbrev pub IsRulesCause : RuleSet → EnvValue → RulesError → Type 0
-- memory ran out while their code was made, which may happen with any rules
IsRulesCause set e (rules.Compile compile.NoMemory) = Unit {0}
-- their code exceeds this limit of the compiler, the first that it exceeds
IsRulesCause set e (rules.Compile error) = limit_passed set ≡ Some error
-- their code is within the limits, and memory ran out while its file was written
IsRulesCause set e rules.NoMemory = limit_passed set ≡ None
-- their code has an accepted file within the limits, and memory ran out while that was loaded
IsRulesCause set e (rules.Run (Load error)) = AreCompiled set × (error ≡ load.NoMemory)
-- their code has an accepted file within the limits, and its bound on output bytes, this number, is over the limit
IsRulesCause set e (rules.Run (Prepare (OverBudget n))) = AreOverBudget set e n
-- their code has an accepted file within the limits, and is within its bound; memory ran out before the first step
IsRulesCause set e (rules.Run (Prepare NoMemory)) = AreWithinBudget set e

-- memory ran out while the bytes were parsed, which is never reported for bytes that are too many or not UTF-8
pub record IsParseMemory (bytes : Text) (error : RuleError) : Type 0 where
  pub no_memory : error ≡ NO_MEMORY
  pub short : length bytes ≤ MAX_BYTES
  pub utf8 : IsUtf8 bytes

-- the first error of bytes that are not a rule text, with its line; or that memory ran out
abbrev pub IsParseCause : Text → RuleError → Type 0
IsParseCause bytes error = IsRefused bytes error.kind error.line ⊎ IsParseMemory bytes error

-- why the rules of a rule text are not run
pub record IsRunCause (bytes : Text) (e : EnvValue) (error : RulesError) : Type 0 where
  -- the bytes are the text of these rules
  pub rules : RuleSet
  pub are_rules : IsRuleText bytes rules
  -- this is why the rules are not run
  pub cause : IsRulesCause rules e error

-- what each error says about the bytes of a rule file
abbrev pub IsRuleFileCause : Text → EnvValue → RuleFileError → Type 0
-- they are not a rule text, because of this error; or memory ran out while they were parsed
IsRuleFileCause bytes e (file.Parse error) = IsParseCause bytes error
-- they are the text of rules, which are not run for this reason
IsRuleFileCause bytes e (file.Run error) = IsRunCause bytes e error
