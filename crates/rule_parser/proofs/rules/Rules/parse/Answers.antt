-- The lines that are collected are those of the bytes.
use Rattle.std.proofs.Common.{arith, ◌≡◌, ℕ, List, Bor, map}
use Rattle.std.proofs.lemmas.Grind.{common_steps}
use Rattle.std.specs.Str.Lines.{lines}
use Rattle.std.proofs.lemmas.Iterator.Consumers.{map_from_collect}
use Rattle.std.proofs.lemmas.Iterator.Splits.{YieldsList-from_lines}
use Rattle.rule_parser.proofs.LineLemmas.{text_result, refused_result}
use Rattle.rule_parser.proofs.rules.Rules.parse.Goals as goal

abbrev now_of : Bor (List ℕ) → List ℕ
now_of line = line.now

pub returns-clause-ok : goal.returns-clause-ok
returns-clause-ok c =
    let collected = rw c.in_ok-lines.was at (map_from_collect c.collect.result c.collect.ensures.ran (YieldsList-from_lines _ c.lines.ensures.rest)) in
    let same : map now_of c.deref.result.now ≡ lines c.args.bytes.now = grind (arith, common_steps) in
    text_result _ _ _ c.if-bytes-gt-MAX_BYTES.false c.in-Ok.ensures.cases.1 same c.read_lines.ensures.sound c.read_lines.ensures.spelled

pub returns-clause-err : goal.returns-clause-err
returns-clause-err c =
    let collected = rw c.in_ok-lines.was at (map_from_collect c.collect.result c.collect.ensures.ran (YieldsList-from_lines _ c.lines.ensures.rest)) in
    let same : map now_of c.deref.result.now ≡ lines c.args.bytes.now = grind (arith, collected, c.in-Ok.ensures.cases.0) in
    refused_result _ _ _ c.if-bytes-gt-MAX_BYTES.false c.in-Ok.ensures.cases.1 same c.read_lines.ensures.err
