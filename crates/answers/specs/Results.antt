-- What a result has, as the prover sees it: the bytes of a text or of a file, or a report of findings.
use Rattle.std.specs.Prelude.{ℕ, Result, Ok, Err, String, string_bytes}
use Rattle.std.specs.declared.vec.Vec.{Vec}
use Rattle.text_model.specs.Texts.{Text}
use Rattle.printed_text.specs.declared.findings.Findings.{Findings}
use Rattle.answers.specs.Findings.{Report, findings_report}

abbrev pub text_result : {A : Type 0} {E : Type 0} → Result (String A) E → Result Text E
text_result (Ok text) = Ok (string_bytes text)
text_result (Err e) = Err e

abbrev pub file_result : {A : Type 0} {E : Type 0} → Result (Vec ℕ A) E → Result Text E
file_result (Ok file) = Ok file.items
file_result (Err e) = Err e

abbrev pub report_result : {E : Type 0} → Result Findings E → Result Report E
report_result (Ok findings) = Ok (findings_report findings)
report_result (Err e) = Err e
