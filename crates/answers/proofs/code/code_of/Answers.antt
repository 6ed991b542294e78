use Rattle.std.proofs.Common.{◌≢◌, rules, subst}
use Rattle.compiler.specs.declared.error.CompileError.TheVariants.{NoMemory}
use Rattle.code_file.specs.Grammar.{IsCodeFile}
use Rattle.answers.specs.Code.{IsCodeOf, GivesMeaning}
use Rattle.answers.proofs.RefusalLemmas.{is_err, faulty}
use Rattle.answers.proofs.code.code_of.Goals as goal

pub returns-in_err-rules_of : goal.returns-in_err-rules_of
returns-in_err-rules_of c = rw (is_err _ _ c.from_residual.ensures.1) (IsCodeOf.no_rules _ c.in_err-rules_of.ensures.err)

pub returns-in_err-write-in-Ok : goal.returns-in_err-write-in-Ok
returns-in_err-write-in-Ok c = rw (is_err _ _ c.from_residual-in_err-write-in-Ok.ensures.1) (IsCodeOf.no_memory _ c.in_ok-rules_of.ensures.ok)

pub returns-in-Err : goal.returns-in-Err
returns-in-Err c = IsCodeOf.no_memory _ c.in_ok-rules_of.ensures.ok

pub returns-in-Err-2 : goal.returns-in-Err-2
returns-in-Err-2 c =
    let other : c.in-Err-2.e ≢ NoMemory = search rules in
    IsCodeOf.over_limit c.in_ok-rules_of.field-0 _ c.in_ok-rules_of.ensures.ok (faulty _ _ _ other c.in-Err-2.ensures.err)

pub returns-in_ok-write-in-Ok : goal.returns-in_ok-write-in-Ok
returns-in_ok-write-in-Ok c =
    let rules = c.in_ok-rules_of.field-0 in
    let read = c.in_ok-rules_of.ensures.ok in
    let file = c.in_ok-write-in-Ok.field-0.items in
    let same = c.in-Ok.ensures.ok.0 in
    let is_file = subst (IsCodeFile file) same c.in_ok-write-in-Ok.ensures in
    let law = c.compiled_code_is_accepted.ensures in
    let form = law.form rules read.sound in
    let typable = law.kinds rules read.sound in
    IsCodeOf.compiled rules file read c.in-Ok.ensures.ok.1
    (record {
      is_file = is_file;
      accepted = record {
        is_code = is_file.is_code;
        form = form;
        typable = typable;
        file = law.file rules read.sound;
        safe = law.safe rules read.sound;
      };
      no_fault = c.accepted_file_has_no_fault.ensures file _ is_file form typable;
    })
    (subst (λ code. GivesMeaning code rules) same c.in-Ok.ensures.means)
