use Rattle.std.proofs.Common.{◌≡◌, ◌+◌, ◌≤◌, [], drop, length}
use Rattle.std.specs.Prelude.{All, min}
use Rattle.std.specs.List.{filter_map}
use Rattle.compiler_model.specs.Tables.{is_same_name, is_same_literal, name_used, literal_used}
use Rattle.compiler.specs.Private.Growth.{gathered, IsUtf8Literal}
use Rattle.compiler.specs.Private.RuleLines.{joined, lines_in, with_fail}
use Rattle.compiler.proofs.code_tables.Tables.of_lines.Given as goal

-- what has been gathered and counted, with the rules that are left, is the whole
abbrev pub invariant-loop-lines : goal.invariant-loop-lines
invariant-loop-lines l = record {
  names : gathered is_same_name l.tables.names.items (filter_map name_used (with_fail (lines_in (drop l.lines-index l.rules))))
      ≡ gathered is_same_name [] (filter_map name_used (with_fail (lines_in l.rules)));
  literals : gathered is_same_literal l.tables.literals.items (filter_map literal_used (with_fail (lines_in (drop l.lines-index l.rules))))
      ≡ gathered is_same_literal [] (filter_map literal_used (with_fail (lines_in l.rules)));
  utf8 : All IsUtf8Literal l.tables.literals.items;
  lines : min (l.tables.lines + length (joined (lines_in (drop l.lines-index l.rules)))) 18446744073709551615
      ≡ min (1 + length (joined (lines_in l.rules))) 18446744073709551615;
  small : l.tables.lines ≤ 18446744073709551615;
}
