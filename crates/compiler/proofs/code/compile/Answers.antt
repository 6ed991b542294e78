use Rattle.std.proofs.Common.{◌≡◌, ◌↔◌, All, Some, length, inr, sym, ap, ◌∙◌, subst, arith}
use Rattle.std.proofs.lemmas.Result.{IfOk-weaker, IfErr-weaker, err_from_is_err_and}
use Rattle.code_model.specs.Code.{Code}
use Rattle.machine_model.specs.Form.{HasGoodForm}
use Rattle.machine_model.specs.Typable.{IsTypable}
use Rattle.machine_model.specs.Runs.{HasOutcome}
use Rattle.rule_parser.specs.Meaning.{meaning}
use Rattle.compiler_model.specs.Answer.{answer}
use Rattle.compiler_model.specs.Tables.{names_of, literals_of}
use Rattle.compiler_model.specs.Compiled.{code_of}
use Rattle.compiler_model.specs.Size.{file_size}
use Rattle.compiler.specs.Private.Reach.{StayWithin}
use Rattle.compiler.specs.Private.RuleLines.{lines_in}
use Rattle.compiler.proofs.CodeParts.{file_passed}
use Rattle.compiler.proofs.RuleSteps.{all_within, length-code, lines_of_all}
use Rattle.compiler.proofs.LimitLemmas.{limit_counted, within}
use Rattle.compiler.proofs.RuleTables.{instrs_of_code, tables_of_code}
use Rattle.compiler.proofs.code.compile.Goals as goal

pub returns-in_err-check-clause-err : goal.returns-in_err-check-clause-err
returns-in_err-check-clause-err c =
    let rules = c.args.rules.now in
    let tables = c.in_ok-tables.tables in
    let t = c.in_ok-tables.ensures in
    let are = tables_of_code rules (lines_in c.deref.result.now) (ap lines_in c.deref.ensures.value ∙ c.in_ok-lines.ensures) tables.names.items
    tables.literals.items tables.lines t.names t.literals t.lines in
    let counted = limit_counted rules tables.names.items tables.literals.items tables.lines are.same_names are.same_literals are.counted in
    let p = err_from_is_err_and c.from_residual-in_err-check.result c.from_residual-in_err-check.ensures.1 in
    rw (p.1, p.2) (inr (sym counted ∙ c.in_err-check.ensures.err (file_size (code_of rules))))

pub instructions-requires-clause-within : goal.instructions-requires-clause-within
instructions-requires-clause-within c =
    let rules = c.args.rules.now in
    subst (All (StayWithin 0)) (sym (ap lines_in c.deref-2.ensures.value ∙ c.in_ok-lines.ensures)) (all_within rules.lists rules.rules)

pub finish-requires-clause-names : goal.finish-requires-clause-names
finish-requires-clause-names c =
    c.in_ok-tables.ensures.names
    ∙ ap names_of (lines_of_all c.args.rules.now (lines_in c.deref.result.now) (ap lines_in c.deref.ensures.value ∙ c.in_ok-lines.ensures))

pub finish-requires-clause-literals : goal.finish-requires-clause-literals
finish-requires-clause-literals c =
    c.in_ok-tables.ensures.literals
    ∙ ap literals_of (lines_of_all c.args.rules.now (lines_in c.deref.result.now) (ap lines_in c.deref.ensures.value ∙ c.in_ok-lines.ensures))

pub finish-requires-clause-instrs : goal.finish-requires-clause-instrs
finish-requires-clause-instrs c =
    let rules = c.args.rules.now in
    let tables = c.in_ok-tables.tables in
    let t = c.in_ok-tables.ensures in
    let are = tables_of_code rules (lines_in c.deref.result.now) (ap lines_in c.deref.ensures.value ∙ c.in_ok-lines.ensures) tables.names.items
    tables.literals.items tables.lines t.names t.literals t.lines in
    instrs_of_code rules (lines_in c.deref-2.result.now) (ap lines_in c.deref-2.ensures.value ∙ c.in_ok-lines.ensures) tables.names.items tables.literals.items
    c.in_ok-instrs.instrs.items are.same_names are.same_literals c.in_ok-instrs.ensures.pushed

pub finish-requires-clause-few_instrs : goal.finish-requires-clause-few_instrs
finish-requires-clause-few_instrs c =
    let rules = c.args.rules.now in
    let tables = c.in_ok-tables.tables in
    let t = c.in_ok-tables.ensures in
    let are = tables_of_code rules (lines_in c.deref.result.now) (ap lines_in c.deref.ensures.value ∙ c.in_ok-lines.ensures) tables.names.items
    tables.literals.items tables.lines t.names t.literals t.lines in
    let whole : c.in_ok-instrs.instrs.items ≡ (code_of rules).instrs =
    instrs_of_code rules (lines_in c.deref-2.result.now) (ap lines_in c.deref-2.ensures.value ∙ c.in_ok-lines.ensures) tables.names.items tables.literals.items
    c.in_ok-instrs.instrs.items are.same_names are.same_literals c.in_ok-instrs.ensures.pushed in
    omega (arith, ap length whole, length-code rules, are.counted, c.in_ok-check.ensures.lines)

pub returns-clause-err : goal.returns-clause-err
returns-clause-err c =
    let rules = c.args.rules.now in
    let tables = c.in_ok-tables.tables in
    let t = c.in_ok-tables.ensures in
    let are = tables_of_code rules (lines_in c.deref.result.now) (ap lines_in c.deref.ensures.value ∙ c.in_ok-lines.ensures) tables.names.items
    tables.literals.items tables.lines t.names t.literals t.lines in
    let few = within rules tables.names.items tables.literals.items tables.lines are.same_names are.same_literals are.counted c.in_ok-check.ensures.names
    c.in_ok-check.ensures.literals c.in_ok-check.ensures.lines in
    IfErr-weaker c.finish.result _ _ (λ e h. inr (file_passed _ _ _ _ few.names few.literals few.instrs h.1 ∙ ap Some (sym h.0))) c.finish.ensures.err

pub returns-clause-accepted : goal.returns-clause-accepted
returns-clause-accepted c =
    let rules = c.args.rules.now in
    let laws = c.compiled_code_is_accepted.ensures in
    let sound = c.finish.ensures.sound in
    IfOk-weaker c.finish.result _ _ (λ code h. subst (λ (x : Code). HasGoodForm x × IsTypable x) (sym h.0) (laws.form rules sound, laws.kinds rules sound))
    c.finish.ensures.ok

pub returns-clause-means : goal.returns-clause-means
returns-clause-means c =
    let rules = c.args.rules.now in
    let sound = c.finish.ensures.sound in
    IfOk-weaker c.finish.result _ _ (λ code h v o. subst (λ (x : Code). HasOutcome x v o ↔ (answer (meaning rules v) ≡ o)) (sym h.0)
    (c.code_gives_what_rules_mean.ensures rules sound v o)) c.finish.ensures.ok
