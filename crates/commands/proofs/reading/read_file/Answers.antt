use Rattle.commands.specs.Reading.{no_read, long, no_memory}
use Rattle.commands.proofs.reading.read_file.Goals as goal

pub returns-in-Err-TooLong-clause-err : goal.returns-in-Err-TooLong-clause-err
returns-in-Err-TooLong-clause-err g c = long (c.read_whole.ensures.too_long (cc))

pub returns-in-Err-File-Failed-clause-err : goal.returns-in-Err-File-Failed-clause-err
returns-in-Err-File-Failed-clause-err g c = no_read (c.read_whole.ensures.failed (cc))

pub returns-in-Err-File-NoMemory-clause-err : goal.returns-in-Err-File-NoMemory-clause-err
returns-in-Err-File-NoMemory-clause-err g c =
    no_memory (λ absent. cc (c.read_whole.ensures.absent absent)) (c.read_whole.ensures.ran_out (cc))
