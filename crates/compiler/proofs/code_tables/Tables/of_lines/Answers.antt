use Rattle.std.proofs.Common.{◌≡◌, ◌+◌, [], drop, sym, ap, ◌∙◌, arith}
use Rattle.std.specs.List.{filter_map}
use Rattle.std.proofs.lemmas.List.{drop_all}
use Rattle.compiler_model.specs.Tables.{is_same_name, is_same_literal, name_used, literal_used}
use Rattle.compiler.specs.Private.Growth.{gathered}
use Rattle.compiler.specs.Private.RuleLines.{lines_in, with_fail}
use Rattle.compiler.proofs.TableGrowth.{gather_step, all_names, all_literals}
use Rattle.compiler.proofs.RuleSteps.{length_step, next_lines}
use Rattle.compiler.proofs.code_tables.Tables.of_lines.Goals as goal

pub loop-lines-preserved : goal.loop-lines-preserved
loop-lines-preserved c =
    let rules = c.args.rules.now in
    let i = c.loop-lines.lines-index in
    let lines = c.lines-item.result in
    let ls = c.deref.result.now in
    let rest = lines_in (drop (i + 1) rules) in
    let next = next_lines rules i lines c.loop-lines-test.true c.lines-item.is in
    let made : ls ≡ lines.items = c.deref.ensures.value in
    let old = c.loop-lines.tables in
    let new = c.add.new.self in
    let grown = c.in_ok-add.ensures in
    let longer = length_step (lines_in (drop i rules)) rest ls lines.items next made in
    record {
      names = gather_step is_same_name name_used old.names.items new.names.items (lines_in (drop i rules)) rest ls lines.items _ next made grown.names
          c.loop-lines.invariant.names;
      literals = gather_step is_same_literal literal_used old.literals.items new.literals.items (lines_in (drop i rules)) rest ls lines.items _ next made
          grown.literals c.loop-lines.invariant.literals;
      utf8 = grown.utf8;
      lines = omega (arith, longer, grown.lines, c.loop-lines.invariant.lines);
      small = omega (arith, grown.lines);
    }

pub returns-clause-names : goal.returns-clause-names
returns-clause-names c =
    let rules = c.args.rules.now in
    let none : drop c.loop-lines.lines-index rules ≡ [] = drop_all c.loop-lines.lines-index rules c.loop-lines-test.false in
    sym (ap (λ rs. gathered is_same_name c.loop-lines.tables.names.items (filter_map name_used (with_fail (lines_in rs)))) none)
    ∙ c.loop-lines.invariant.names ∙ all_names (with_fail (lines_in rules))

pub returns-clause-literals : goal.returns-clause-literals
returns-clause-literals c =
    let rules = c.args.rules.now in
    let none : drop c.loop-lines.lines-index rules ≡ [] = drop_all c.loop-lines.lines-index rules c.loop-lines-test.false in
    sym (ap (λ rs. gathered is_same_literal c.loop-lines.tables.literals.items (filter_map literal_used (with_fail (lines_in rs)))) none)
    ∙ c.loop-lines.invariant.literals ∙ all_literals (with_fail (lines_in rules))
