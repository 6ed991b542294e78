use Rattle.std.proofs.Common.{◌∙◌, [], ◌∷◌, sym, codes, drop, get_or, ap, subst, arith}
use Rattle.std.proofs.lemmas.List.{length-drop}
use Rattle.kbart_rows.specs.Cells.{column_of}
use Rattle.kbart_rows.specs.Private.Index.{HasEntries}
use Rattle.kbart_rows.specs.declared.keys.Keys.{Keys}
use Rattle.kbart_rows.specs.Reading.{AllFit, AreLines}
use Rattle.kbart_rows.proofs.ReadingLines.{header_first}
use Rattle.kbart_rows.proofs.table.Table.read_keyed.Goals as goal

pub invariant_of-result : goal.invariant_of-result
invariant_of-result c =
    let lines = c.in_ok-lines.lines in
    let named = λ (name : _). c.in_ok-columns.ensures.columns name ∙ ap (λ (header : _). column_of header name) c.line.ensures.cells in
    let print = c.copied-print.ensures ∙ c.get.ensures.value ∙ named (codes "print_identifier") in
    let online = c.copied-online.ensures ∙ c.get-2.ensures.value ∙ named (codes "online_identifier") in
    let columns = ap (λ (first : _). first ∷ c.copied-online.result ∷ []) print
    ∙ ap (λ (second : _). column_of (get_or lines 0 []) (codes "print_identifier") ∷ second ∷ []) online in
    record {
      header = c.in_ok-lines.ensures.some;
      few = c.in_ok-lines.ensures.few;
      fit = c.in_ok-lines.ensures.fit;
      named = named;
      identified = columns;
      has = subst (λ (keys : Keys). HasEntries keys (c.copied-print.result ∷ c.copied-online.result ∷ []) (drop 1 lines) c.in_ok-index.index)
          (sym c.in_ok-columns.ensures.keyed) c.in_ok-index.ensures;
      counted = c.in_ok-bytes.ensures;
    }

pub returns-clause-accepted : goal.returns-clause-accepted
returns-clause-accepted c =
    let lines = c.in_ok-lines.lines in
    let parts = header_first lines c.in_ok-lines.ensures.some in
    let size = length-drop 1 lines in
    let few = c.in_ok-lines.ensures.few in
    record {
      text = c.in_ok-check_bytes.ensures.text;
      lines = subst (AreLines c.args.bytes.now) parts c.in_ok-lines.ensures.lines;
      few = omega (arith, size, few);
      fit = subst AllFit parts c.in_ok-lines.ensures.fit;
    }

pub read_lines-requires : goal.read_lines-requires
read_lines-requires c = c.in_ok-check_bytes.ensures.text.1
