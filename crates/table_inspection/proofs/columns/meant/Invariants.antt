use Rattle.std.proofs.Common.{◌≡◌, ◌&&◌, take, None}
use Rattle.std.specs.List.{find}
use Rattle.std.specs.Str.{bytes_eq}
use Rattle.text_model.specs.Texts.{texts_of}
use Rattle.table_inspection.specs.Columns.{is_missing}
use Rattle.table_inspection.proofs.columns.meant.Given as goal

-- none of the names so far was meant
abbrev pub invariant-loop-name : goal.invariant-loop-name
invariant-loop-name l = find (λ name. is_missing l.table.header name && bytes_eq l.spelling name) (texts_of (take l.name-index l.name-items)) ≡ None
