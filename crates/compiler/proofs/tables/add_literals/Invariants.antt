use Rattle.std.proofs.Common.{◌≡◌, drop, All}
use Rattle.std.specs.List.{filter_map}
use Rattle.compiler_model.specs.Tables.{is_same_literal, literal_used}
use Rattle.compiler.specs.Private.Growth.{gathered, IsUtf8Literal}
use Rattle.compiler.proofs.tables.add_literals.Given as goal

-- what has been gathered, with the lines that are left, is the whole; all that has been gathered is UTF-8
abbrev pub invariant-loop-line : goal.invariant-loop-line
invariant-loop-line l =
    (gathered is_same_literal l.literals.items (filter_map literal_used (drop l.line-index l.lines)) ≡ gathered is_same_literal l.fn.literals.items
    (filter_map literal_used l.lines))
    × All IsUtf8Literal l.literals.items
