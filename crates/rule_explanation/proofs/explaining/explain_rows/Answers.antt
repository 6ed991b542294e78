-- The row that was found is the first of those that are left.
use Rattle.std.proofs.Common.{ap, sym, ◌∙◌, arith}
use Rattle.kbart_rows.specs.Identifiers.{first_from, ids_of, matching_rows}
use Rattle.rule_explanation.specs.Explanation.{tried_row_text}
use Rattle.rule_explanation.specs.Rows.{gives_web_link}
use Rattle.kbart_rows.proofs.RowOrder.{first_is_from, matching_rows_rise}
use Rattle.rule_explanation.proofs.RowLemmas.{text_of_row, web_of_row}
use Rattle.rule_explanation.proofs.LeftRows.{last_row, next_row, no_row, row_in_part, rows_in_part, started}
use Rattle.rule_explanation.proofs.WholeText.{none_there, on_error}
use Rattle.rule_explanation.proofs.explaining.explain_rows.Goals as goal

pub loop-row-init : goal.loop-row-init
loop-row-init g c =
    let pairs = c.args.request.now.pairs in
    let rows = matching_rows c.args.table.now (ids_of pairs) in
    let text = tried_row_text c.args.rules.now c.args.table.now pairs in
    let test = gives_web_link c.args.rules.now c.args.table.now pairs in
    record { below = omega arith; written = started g.W.Write.contents text test rows c.args.output.now }

pub returns-in_err-explained-clause-in_part : goal.returns-in_err-explained-clause-in_part
returns-in_err-explained-clause-in_part g c =
    let pairs = c.args.request.now.pairs in
    let rows = matching_rows c.args.table.now (ids_of pairs) in
    let text = tried_row_text c.args.rules.now c.args.table.now pairs in
    let test = gives_web_link c.args.rules.now c.args.table.now pairs in
    on_error c.from_residual-in_err-explained.result _
    (rows_in_part g.W.Write.contents text test rows c.loop-row.place c.loop-row.from c.args.output.now c.loop-row.output c.loop-row.invariant.written)

pub returns-in_err-write-clause-in_part : goal.returns-in_err-write-clause-in_part
returns-in_err-write-clause-in_part g c =
    let pairs = c.args.request.now.pairs in
    let rows = matching_rows c.args.table.now (ids_of pairs) in
    let text = tried_row_text c.args.rules.now c.args.table.now pairs in
    let test = gives_web_link c.args.rules.now c.args.table.now pairs in
    let first = ap (λ ids. first_from c.loop-row.from (matching_rows c.args.table.now ids)) (sym c.requires) ∙ sym c.in-Some.ensures.first in
    let line = text_of_row _ _ _ _ c.loop-row.place _ _ c.in_ok-request.ensures c.in_ok-explained.ensures.text in
    on_error c.from_residual-in_err-write.result _
    (row_in_part g.W.Write.contents text test rows c.loop-row.place c.loop-row.from c.in-Some.row c.args.output.now c.loop-row.output c.write.new.output
    c.as_str.result.now c.loop-row.invariant.written (matching_rows_rise c.args.table.now (ids_of pairs)) first
    (c.as_str.ensures.value ∙ line) c.in_err-write.ensures.in_part)

pub returns-then-explained-clause-found : goal.returns-then-explained-clause-found
returns-then-explained-clause-found g c =
    let pairs = c.args.request.now.pairs in
    let rows = matching_rows c.args.table.now (ids_of pairs) in
    let text = tried_row_text c.args.rules.now c.args.table.now pairs in
    let test = gives_web_link c.args.rules.now c.args.table.now pairs in
    let first = ap (λ ids. first_from c.loop-row.from (matching_rows c.args.table.now ids)) (sym c.requires) ∙ sym c.in-Some.ensures.first in
    let line = text_of_row _ _ _ _ c.loop-row.place _ _ c.in_ok-request.ensures c.in_ok-explained.ensures.text in
    let web = web_of_row _ _ _ _ _ _ c.in_ok-request.ensures c.in_ok-explained.ensures.web in
    sym
    (last_row g.W.Write.contents text test rows c.loop-row.place c.loop-row.from c.in-Some.row c.args.output.now c.loop-row.output c.write.new.output
    c.as_str.result.now c.in_ok-explained.explained.has_web_link c.loop-row.invariant.written (matching_rows_rise c.args.table.now (ids_of pairs)) first
    (c.as_str.ensures.value ∙ line) web c.if-explained.true c.in_ok-write.ensures.ok).1

pub returns-then-explained-clause-printed : goal.returns-then-explained-clause-printed
returns-then-explained-clause-printed g c =
    let pairs = c.args.request.now.pairs in
    let rows = matching_rows c.args.table.now (ids_of pairs) in
    let text = tried_row_text c.args.rules.now c.args.table.now pairs in
    let test = gives_web_link c.args.rules.now c.args.table.now pairs in
    let first = ap (λ ids. first_from c.loop-row.from (matching_rows c.args.table.now ids)) (sym c.requires) ∙ sym c.in-Some.ensures.first in
    let line = text_of_row _ _ _ _ c.loop-row.place _ _ c.in_ok-request.ensures c.in_ok-explained.ensures.text in
    let web = web_of_row _ _ _ _ _ _ c.in_ok-request.ensures c.in_ok-explained.ensures.web in
    (last_row g.W.Write.contents text test rows c.loop-row.place c.loop-row.from c.in-Some.row c.args.output.now c.loop-row.output c.write.new.output
    c.as_str.result.now c.in_ok-explained.explained.has_web_link c.loop-row.invariant.written (matching_rows_rise c.args.table.now (ids_of pairs)) first
    (c.as_str.ensures.value ∙ line) web c.if-explained.true c.in_ok-write.ensures.ok).0

pub overflow_add-place : goal.overflow_add-place
overflow_add-place g c =
    let pairs = c.args.request.now.pairs in
    let first = ap (λ ids. first_from c.loop-row.from (matching_rows c.args.table.now ids)) (sym c.requires) ∙ sym c.in-Some.ensures.first in
    let above = first_is_from c.loop-row.from c.in-Some.row (matching_rows c.args.table.now (ids_of pairs)) first in
    omega (arith, above, c.loop-row.invariant.below, c.in-Some.ensures.within, c.rows-rows.ensures.count, c.rows-rows.ensures.few)

pub loop-row-smaller : goal.loop-row-smaller
loop-row-smaller g c =
    let pairs = c.args.request.now.pairs in
    let first = ap (λ ids. first_from c.loop-row.from (matching_rows c.args.table.now ids)) (sym c.requires) ∙ sym c.in-Some.ensures.first in
    let above = first_is_from c.loop-row.from c.in-Some.row (matching_rows c.args.table.now (ids_of pairs)) first in
    omega (arith, above, c.in-Some.ensures.within)

pub loop-row-preserved : goal.loop-row-preserved
loop-row-preserved g c =
    let pairs = c.args.request.now.pairs in
    let rows = matching_rows c.args.table.now (ids_of pairs) in
    let text = tried_row_text c.args.rules.now c.args.table.now pairs in
    let test = gives_web_link c.args.rules.now c.args.table.now pairs in
    let first = ap (λ ids. first_from c.loop-row.from (matching_rows c.args.table.now ids)) (sym c.requires) ∙ sym c.in-Some.ensures.first in
    let above = first_is_from c.loop-row.from c.in-Some.row rows first in
    let line = text_of_row _ _ _ _ c.loop-row.place _ _ c.in_ok-request.ensures c.in_ok-explained.ensures.text in
    let web = web_of_row _ _ _ _ _ _ c.in_ok-request.ensures c.in_ok-explained.ensures.web in
    record {
      below = omega (arith, above, c.loop-row.invariant.below);
      written =
          next_row g.W.Write.contents text test rows c.loop-row.place c.loop-row.from c.in-Some.row c.args.output.now c.loop-row.output c.write.new.output
          c.as_str.result.now c.in_ok-explained.explained.has_web_link c.loop-row.invariant.written (matching_rows_rise c.args.table.now (ids_of pairs))
          first (c.as_str.ensures.value ∙ line) web c.if-explained.false c.in_ok-write.ensures.ok;
    }

pub returns-clause-found : goal.returns-clause-found
returns-clause-found g c =
    let pairs = c.args.request.now.pairs in
    let rows = matching_rows c.args.table.now (ids_of pairs) in
    let text = tried_row_text c.args.rules.now c.args.table.now pairs in
    let test = gives_web_link c.args.rules.now c.args.table.now pairs in
    let none = ap (λ ids. first_from c.loop-row.from (matching_rows c.args.table.now ids)) (sym c.requires)
    ∙ sym c.next_match.ensures.first ∙ none_there c.next_match.result c.in_default.not-Some in
    sym (no_row g.W.Write.contents text test rows c.loop-row.place c.loop-row.from c.args.output.now c.loop-row.output c.loop-row.invariant.written none).1

pub returns-clause-printed : goal.returns-clause-printed
returns-clause-printed g c =
    let pairs = c.args.request.now.pairs in
    let rows = matching_rows c.args.table.now (ids_of pairs) in
    let text = tried_row_text c.args.rules.now c.args.table.now pairs in
    let test = gives_web_link c.args.rules.now c.args.table.now pairs in
    let none = ap (λ ids. first_from c.loop-row.from (matching_rows c.args.table.now ids)) (sym c.requires)
    ∙ sym c.next_match.ensures.first ∙ none_there c.next_match.result c.in_default.not-Some in
    (no_row g.W.Write.contents text test rows c.loop-row.place c.loop-row.from c.args.output.now c.loop-row.output c.loop-row.invariant.written none).0
