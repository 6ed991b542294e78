use Rattle.std.proofs.Common.{◌≡◌, false, take}
use Rattle.std.specs.List.{list_any}
use Rattle.std.specs.Str.{bytes_eq}
use Rattle.kbart_rows.specs.Identifiers as spec
use Rattle.kbart_rows.specs.Private.Hashed.{id_text}
use Rattle.kbart_rows.specs.declared.ids.Id.{Id}
use Rattle.kbart_rows.proofs.ids.Ids.has.Given as goal

-- the cell has none of the identifiers so far
abbrev pub invariant-loop-id : goal.invariant-loop-id
invariant-loop-id l = list_any (λ (id : Id). bytes_eq (id_text id) (spec.normalised l.cell)) (take l.id-index l.id-items) ≡ false
