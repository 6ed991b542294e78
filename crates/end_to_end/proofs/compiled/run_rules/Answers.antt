use Rattle.std.proofs.Common.{subst}
use Rattle.std.proofs.lemmas.Result.{err_from_is_err_and}
use Rattle.code_file.specs.Grammar.{IsCodeFile}
use Rattle.compiler_model.specs.Compiled.{code_of}
use Rattle.verified_runs.specs.RunValue.{outcome_value}
use Rattle.safe_runs.specs.Causes.{IsCause}
use Rattle.safe_runs.specs.Ending.{FileEndsSafely}
use Rattle.end_to_end.proofs.Written.{rules_cause, rules_end}
use Rattle.end_to_end.proofs.compiled.run_rules.Goals as goal

pub returns-in_err-run_file-clause-refused : goal.returns-in_err-run_file-clause-refused
returns-in_err-run_file-clause-refused c =
    let set = c.args.rules.now in
    let e = c.args.env.now in
    let bytes = c.in_ok-file.file.items in
    let sound = c.rules-known.ensures.sound in
    let file : IsCodeFile bytes (code_of set) = subst (IsCodeFile bytes) c.in_ok-code.ensures.ok.0 c.in_ok-file.ensures in
    let error = c.in_err-run_file.field-0.0 in
    let cause : IsCause bytes e error = subst (λ b. IsCause b e error) c.deref.ensures.value c.in_err-run_file.ensures.refused in
    let p = err_from_is_err_and c.from_residual-in_err-run_file.result c.from_residual-in_err-run_file.ensures.1 in
    let accepted = c.files_of_rules_are_accepted.ensures.accepted set bytes sound file in
    rw (p.1, p.2) (rules_cause c.file_has_one_code.ensures set bytes c.in_ok-code.ensures.ok.1 accepted e error cause)

pub returns-clause-ends : goal.returns-clause-ends
returns-clause-ends c =
    let set = c.args.rules.now in
    let e = c.args.env.now in
    let bytes = c.in_ok-file.file.items in
    let sound = c.rules-known.ensures.sound in
    let o = outcome_value c.in_ok-run_file.field-0 in
    let file : IsCodeFile bytes (code_of set) = subst (IsCodeFile bytes) c.in_ok-code.ensures.ok.0 c.in_ok-file.ensures in
    let ran : FileEndsSafely bytes e o = subst (λ b. FileEndsSafely b e o) c.deref.ensures.value c.in_ok-run_file.ensures.ends in
    let accepted = c.files_of_rules_are_accepted.ensures.accepted set bytes sound file in
    rules_end c.file_has_one_code.ensures set bytes c.in_ok-code.ensures.ok.1 accepted e o ran
    (λ read spelled. c.files_of_rules_are_accepted.ensures.means set bytes read e.entries o sound file spelled)
