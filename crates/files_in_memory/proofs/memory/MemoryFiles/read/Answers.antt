use Rattle.std.proofs.Common.{◌≡◌, ◌∙◌, Some, ap, sym}
use Rattle.files.specs.Found.{Absent, File}
use Rattle.files_in_memory.specs.InMemory.{found_of}
use Rattle.files_in_memory.proofs.memory.MemoryFiles.read.Goals as goal

-- a file that is read is not absent
pub returns-in_err-from_slice-in-Some-File-clause-absent : goal.returns-in_err-from_slice-in-Some-File-clause-absent
returns-in_err-from_slice-in-Some-File-clause-absent c none =
    let there : File c.in-Some-File.bytes.items ≡ Absent =
    ap (λ content. found_of (Some content)) (sym c.in-Some-File.field-0-is)
    ∙ sym c.in-Some-File.ensures.some ∙ none in
    absurd (cc there)

pub returns-in_ok-from_slice-in-Some-File-clause-absent : goal.returns-in_ok-from_slice-in-Some-File-clause-absent
returns-in_ok-from_slice-in-Some-File-clause-absent c none =
    let there : File c.in-Some-File.bytes.items ≡ Absent =
    ap (λ content. found_of (Some content)) (sym c.in-Some-File.field-0-is)
    ∙ sym c.in-Some-File.ensures.some ∙ none in
    absurd (cc there)
