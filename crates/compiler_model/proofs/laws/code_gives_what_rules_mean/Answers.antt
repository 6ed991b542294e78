use Rattle.std.proofs.Common.{sym, ◌∙◌, subst}
use Rattle.machine_model.specs.Runs.{HasOutcome}
use Rattle.rule_parser.specs.Meaning.{meaning}
use Rattle.compiler_model.specs.Compiled.{code_of}
use Rattle.compiler_model.specs.Answer.{answer}
use Rattle.compiler_model.proofs.CodePlaces.{code_means}
use Rattle.compiler_model.proofs.laws.code_gives_what_rules_mean.Goals as goal

pub returns : goal.returns
returns c = λ rules sound v o.
    let means = code_means c.trees_are_sound.ensures rules sound v in
    let decided = c.course_is_decided.ensures.outcome (code_of rules) v in
    (λ h. sym ((decided (answer (meaning rules v))).0 means) ∙ (decided o).0 h, λ e. subst (HasOutcome (code_of rules) v) e means)
