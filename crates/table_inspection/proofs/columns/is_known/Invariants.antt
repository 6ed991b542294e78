use Rattle.std.proofs.Common.{◌≡◌, false, take}
use Rattle.std.specs.List.{list_any}
use Rattle.std.specs.Str.{bytes_eq}
use Rattle.text_model.specs.Texts.{texts_of}
use Rattle.table_inspection.proofs.columns.is_known.Given as goal

-- none of the names so far is the one that is sought
abbrev pub invariant-loop-other : goal.invariant-loop-other
invariant-loop-other l = list_any (bytes_eq l.name) (texts_of (take l.other-index l.other-items)) ≡ false
