use Rattle.std.proofs.Common.{◌≡◌, ◌∙◌, ◌+◌, ◌++◌, [], List, ap, arith, drop, get_or, subst, sym}
use Rattle.std.proofs.lemmas.List.{get_or-drop}
use Rattle.kbart_rows.specs.Identifiers.{identifier_in}
use Rattle.kbart_rows.specs.Lines.{cells_in}
use Rattle.kbart_rows.specs.declared.index.Entry.{Entry}
use Rattle.kbart_rows.proofs.EntryLemmas.{HasSoFar, entries_for, few_more, has_more, small_more}
use Rattle.kbart_rows.proofs.MatchLemmas.{has_within}
use Rattle.kbart_rows.proofs.index.entries_of.Goals as goal

pub loop-row-preserved : goal.loop-row-preserved
loop-row-preserved c =
    let lines = c.args.lines.now in
    let keys = c.args.keys.now in
    let row = c.loop-row.row in
    let print = c.args.print in
    let online = c.args.online in
    let old = c.loop-row.entries.items in
    let cells = cells_in c.line-line.result.now in
    let at : cells ≡ get_or (drop 1 lines) row [] = grind (arith, c.line-line.ensures.cells, get_or-drop) in
    let test = c.loop-row-test.true in
    let end = c.len-row-end.ensures in
    let few = c.requires.few in
    let grown : c.add_entry-in-loop-row.new.entries.items ≡ (old ++ entries_for keys row (identifier_in cells print)) ++ entries_for keys row
    (identifier_in cells online) =
    c.in_ok-add_entry-2.ensures ∙ ap (λ (entries : List Entry). entries ++ entries_for keys row (identifier_in cells online)) c.in_ok-add_entry.ensures in
    record {
      has = subst (HasSoFar keys print online (drop 1 lines) (row + 1)) (sym grown)
          (has_more keys print online (drop 1 lines) row cells old at c.loop-row.invariant.has);
      few = grind (arith, few_more, c.loop-row.invariant.few);
      small = grind (arith, small_more, test, end, few, c.loop-row.invariant.small);
    }

pub returns-clause-has : goal.returns-clause-has
returns-clause-has c = grind (arith, has_within, c.loop-row-test.false, c.len-row-end.ensures, c.loop-row.invariant.has)
