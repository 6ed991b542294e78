-- What is printed of an answer, from the call that answers and the call that prints.
use Rattle.std.proofs.Common.{◌≡◌, Result, Ok, Err, Option, subst, sym}
use Rattle.text_model.specs.Texts.{Text}
use Rattle.answers.specs.Findings.{Report}
use Rattle.commands.specs.Output.{Output, Prints, Reports, fails, unprinted, prints, warns, clean}
use Rattle.commands.specs.declared.fault.Fault.{Fault}

pub prints_by : (A B : Result Text Fault → Type 0) (output : Output) (end : Option Fault) → ((r : Result Text Fault) → A r → B r) → Prints A output end
    → Prints B output end
prints_by A B output end by (fails fault answer nothing) = fails fault (by (Err fault) answer) nothing
prints_by A B output end by (unprinted text path answer named part) = unprinted text path (by (Ok text) answer) named part
prints_by A B output end by (prints text answer all) = prints text (by (Ok text) answer) all

-- the answer is what a call returned
pub prints_answer : (Answers : Result Text Fault → Type 0) (output : Output) (end : Option Fault) (r : Result Text Fault) → Answers r
    → Prints (λ printed. printed ≡ r) output end → Prints Answers output end
prints_answer Answers output end r answer printed =
    prints_by (λ printed. printed ≡ r) Answers output end (λ other same. subst Answers (sym same) answer) printed

pub reports_answer : (Answers : Result Report Fault → Type 0) (output : Output) (end : Option Fault) (r : Result Report Fault) → Answers r
    → Reports (λ found. found ≡ r) output end → Reports Answers output end
reports_answer Answers output end r answer (fails fault same nothing) = fails fault (subst Answers (sym same) answer) nothing
reports_answer Answers output end r answer (unprinted found path same named part) = unprinted found path (subst Answers (sym same) answer) named part
reports_answer Answers output end r answer (warns found same all warned) = warns found (subst Answers (sym same) answer) all warned
reports_answer Answers output end r answer (clean found same all warned) = clean found (subst Answers (sym same) answer) all warned
