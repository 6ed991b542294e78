-- Errors of the system.
use Rattle.std.specs.declared.io.ErrorKind.{ErrorKind}
use Rattle.std.specs.declared.io.ErrorKind.TheVariants.{OutOfMemory}
use Rattle.files.specs.declared.error.FileError.{FileError}
use Rattle.files.specs.declared.error.FileError.TheVariants.{Failed, NoMemory}

-- one kind says that memory ran out, and all others that the call failed
abbrev pub error_of_kind : ErrorKind → FileError
error_of_kind OutOfMemory = NoMemory
error_of_kind kind = Failed
