use Rattle.std.proofs.Common.{sym, ap, refl}
use Rattle.std.specs.Option.{option_map_or}
use Rattle.kbart_rows.specs.Cells.{defined}
use Rattle.table_inspection.specs.Private.Tallying.{none}
use Rattle.table_inspection.proofs.most_rows.Most.none.Goals as goal

pub returns : goal.returns
returns c = λ number.
    let empty = ap defined c.new.ensures.items in
    record {
      first = rw empty (none refl);
      rows = sym (ap (λ (id : _). option_map_or number id 0) empty);
    }
