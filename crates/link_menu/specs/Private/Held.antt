-- Which targets hold the cited title.
use Rattle.std.specs.Prelude.{Bool, true, false, List, [], ◌∷◌, filter, get_or, is_some, slice_get, drop}
use Rattle.kev_read.specs.Pairs.{KeyValue}
use Rattle.menu.specs.Entries.{MenuEntry}
use Rattle.menu.specs.declared.entry.Resolution.{Resolution}
use Rattle.menu.specs.declared.entry.Resolution.TheVariants.{NoRow}
use Rattle.registry.specs.Targets.{TargetValue}
use Rattle.registry.specs.Entries.{matching_rows_of}

-- a row of the target has the title
abbrev pub has_row : List KeyValue → TargetValue → Bool
has_row pairs target = is_some (slice_get (matching_rows_of target pairs) 0)

-- the targets with such a row
abbrev pub held : List KeyValue → List TargetValue → List TargetValue
held pairs targets = filter (has_row pairs) targets

-- the entries of targets; of those that have such a row, whose flag is true, with these resolutions in their order
abbrev pub entries_with : List TargetValue → List Bool → List Resolution → List MenuEntry
entries_with [] flags resolutions = []
entries_with (target ∷ targets) [] resolutions = []
entries_with (target ∷ targets) (false ∷ flags) resolutions = record { name = target.name; resolution = NoRow } ∷ entries_with targets flags resolutions
entries_with (target ∷ targets) (true ∷ flags) resolutions =
    record { name = target.name; resolution = get_or resolutions 0 NoRow } ∷ entries_with targets flags (drop 1 resolutions)
