use Rattle.std.proofs.Common.{◌≡◌, drop}
use Rattle.std.specs.List.{filter_map}
use Rattle.compiler_model.specs.Tables.{is_same_name, name_used}
use Rattle.compiler.specs.Private.Growth.{gathered}
use Rattle.compiler.proofs.tables.add_names.Given as goal

-- what has been gathered, with the lines that are left, is the whole
abbrev pub invariant-loop-line : goal.invariant-loop-line
invariant-loop-line l =
    gathered is_same_name l.names.items (filter_map name_used (drop l.line-index l.lines)) ≡ gathered is_same_name l.fn.names.items
    (filter_map name_used l.lines)
