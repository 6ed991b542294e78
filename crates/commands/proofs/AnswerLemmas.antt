-- The answers of functions of bytes, as the program's.
use Rattle.std.proofs.Common.{Result, Ok, Err}
use Rattle.std.specs.Prelude.{String}
use Rattle.text_model.specs.Texts.{Text}
use Rattle.printed_text.specs.declared.findings.Findings.{Findings}
use Rattle.answers.specs.Findings.{Report}
use Rattle.answers.specs.Results.{text_result, report_result}
use Rattle.answers.specs.declared.refusal.Refusal.{Refusal}
use Rattle.commands.specs.Answers.{Answered, refused, answered}
use Rattle.commands.specs.Faults as faults

pub text_answered : {A : Type 0} (Answers : Result Text Refusal → Type 0) (answer : Result (String A) Refusal) → Answers (text_result answer)
    → Answered Answers (text_result (faults.answered answer))
text_answered Answers (Ok text) holds = answered _ holds
text_answered Answers (Err refusal) holds = refused _ holds

pub report_answered : (Answers : Result Report Refusal → Type 0) (answer : Result Findings Refusal) → Answers (report_result answer)
    → Answered Answers (report_result (faults.answered answer))
report_answered Answers (Ok findings) holds = answered _ holds
report_answered Answers (Err refusal) holds = refused _ holds
