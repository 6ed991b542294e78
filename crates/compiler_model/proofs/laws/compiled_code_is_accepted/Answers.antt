use Rattle.compiler_model.specs.Compiled.{code_of}
use Rattle.compiler_model.proofs.CodeForm.{code_good, code_is_file}
use Rattle.compiler_model.proofs.CodeNames.{code_declared, code_named}
use Rattle.compiler_model.proofs.RuleKinds.{code_typable}
use Rattle.compiler_model.proofs.laws.compiled_code_is_accepted.Goals as goal

pub returns-clause-names : goal.returns-clause-names
returns-clause-names c = code_named c.trees_are_sound.ensures

pub returns-clause-declared : goal.returns-clause-declared
returns-clause-declared c = code_declared c.trees_are_sound.ensures

pub returns-clause-file : goal.returns-clause-file
returns-clause-file c = code_is_file c.trees_are_sound.ensures

pub returns-clause-form : goal.returns-clause-form
returns-clause-form c = code_good c.trees_are_sound.ensures

pub returns-clause-kinds : goal.returns-clause-kinds
returns-clause-kinds c = code_typable c.trees_are_sound.ensures

pub returns-clause-safe : goal.returns-clause-safe
returns-clause-safe c = λ rules sound.
    let trees = c.trees_are_sound.ensures in
    c.typable_code_is_safe.ensures (code_of rules) (code_is_file trees rules sound) (code_good trees rules sound) (code_typable trees rules sound)
