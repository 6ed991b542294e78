-- The limits: the counts of tables and lines are those of the code of the rules.
use Rattle.std.proofs.Common.{◌≡◌, ℕ, ◌≤◌, List, length, sym, ap, ◌∙◌, subst, arith}
use Rattle.std.specs.Prelude.{min}
use Rattle.code_model.specs.Code.{Name, Literal}
use Rattle.code_file.specs.declared.limits.TheConstants.{MAX_NAMES, MAX_LITERALS, MAX_INSTRS}
use Rattle.rule_parser.specs.Rules.{RuleSet}
use Rattle.compiler_model.specs.Compiled.{all_lines, code_of}
use Rattle.compiler_model.specs.Size.{file_size}
use Rattle.compiler.specs.Limits.{first_passed, limit_passed}
use Rattle.compiler.proofs.CodeParts.{counted}
use Rattle.compiler.proofs.RuleSteps.{length-code}

-- the code of the rules is within all limits
pub record IsWithin (rules : RuleSet) : Type 0 where
  pub names : length (code_of rules).names ≤ MAX_NAMES
  pub literals : length (code_of rules).literals ≤ MAX_LITERALS
  pub instrs : length (code_of rules).instrs ≤ MAX_INSTRS

module _ (rules : RuleSet) (names : List Name) (literals : List Literal) (lines : ℕ) (n : names ≡ (code_of rules).names)
    (l : literals ≡ (code_of rules).literals) (e : lines ≡ min (length (all_lines rules)) 18446744073709551615) where
  pub limit_counted : first_passed (length names) (length literals) lines (file_size (code_of rules)) ≡ limit_passed rules
  limit_counted =
      counted (length names) (length literals) lines (length (code_of rules).instrs) (file_size (code_of rules))
      (e ∙ ap (λ k. min k 18446744073709551615) (sym (length-code rules)))
      ∙ (λ t. first_passed (length (n t)) (length (l t)) (length (code_of rules).instrs) (file_size (code_of rules)))

  pub within : length names ≤ MAX_NAMES → length literals ≤ MAX_LITERALS → lines ≤ MAX_INSTRS → IsWithin rules
  within a b c = record {
    names = subst (λ (xs : List Name). length xs ≤ MAX_NAMES) n a;
    literals = subst (λ (xs : List Literal). length xs ≤ MAX_LITERALS) l b;
    instrs = omega (arith, e, c, length-code rules);
  }
