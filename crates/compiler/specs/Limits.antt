-- The limits of code.
use Rattle.std.specs.Prelude.{ℕ, Option, Some, None, length, nat_lt, if◌then◌else◌}
use Rattle.code_model.specs.Code.{Code}
use Rattle.code_file.specs.declared.limits.TheConstants.{MAX_BYTES, MAX_NAMES, MAX_LITERALS, MAX_INSTRS}
use Rattle.rule_parser.specs.Rules.{RuleSet}
use Rattle.compiler_model.specs.Compiled.{code_of}
use Rattle.compiler_model.specs.Size.{file_size}
use Rattle.compiler.specs.declared.error.CompileError.{CompileError}
use Rattle.compiler.specs.declared.error.CompileError.TheVariants.{TooManyNames, TooManyLiterals, TooManyInstructions, FileTooLong}

-- the first limit that these numbers exceed, of names, of literals, of instructions and of the bytes of the file
abbrev pub first_passed : ℕ → ℕ → ℕ → ℕ → Option CompileError
first_passed names literals instrs bytes =
    if nat_lt MAX_NAMES names then Some TooManyNames else
    if nat_lt MAX_LITERALS literals then Some TooManyLiterals else
    if nat_lt MAX_INSTRS instrs then Some TooManyInstructions else
    if nat_lt MAX_BYTES bytes then Some FileTooLong else None

abbrev pub passed_by : Code → Option CompileError
passed_by c = first_passed (length c.names) (length c.literals) (length c.instrs) (file_size c)

-- the first limit that the code of the rules exceeds, if it exceeds one
abbrev pub limit_passed : RuleSet → Option CompileError
limit_passed rules = passed_by (code_of rules)
