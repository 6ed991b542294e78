use Rattle.std.proofs.Common.{◌≡◌, ◌++◌, Some, rules, arith, sym, ap, ◌∙◌}
use Rattle.std.specs.Option.{option_map_or}
use Rattle.kbart_rows.specs.Cells.{defined}
use Rattle.table_inspection.proofs.MostLemmas.{defined_is, most_taken}
use Rattle.table_inspection.proofs.TallyLemmas.{kept_of}
use Rattle.table_inspection.proofs.most_rows.Most.take_if_more.Goals as goal

pub returns-in_ok-extend_from_slice : goal.returns-in_ok-extend_from_slice
returns-in_ok-extend_from_slice c = λ number ids some rows_is old.
    let id = c.args.id.now in
    let most = c.args.self.now in
    let bytes : c.extend_from_slice.new.self.items ≡ c.clear.new.self.items ++ id = search rules in
    let is : defined c.extend_from_slice.new.self.items ≡ Some id =
    ap defined (bytes ∙ ap (λ (front : _). front ++ id) c.clear.ensures.items) ∙ defined_is id some in
    record {
      first = rw is (
          most_taken number ids most.id.items id most.rows c.args.rows old.rows rows_is (sym c.has_fewer.ensures ∙ c.if-has_fewer.true) old.first
          );
      rows = rows_is ∙ sym (ap (λ (found : _). option_map_or number found 0) is);
    }

pub returns-else-has_fewer : goal.returns-else-has_fewer
returns-else-has_fewer c = λ number ids some rows_is old.
    kept_of number ids c.args.id.now c.args.self.now c.args.rows (omega (arith, rows_is)) (sym c.has_fewer.ensures ∙ c.if-has_fewer.false) old
