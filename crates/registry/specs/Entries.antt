-- The menu of a registry and a request: what each target gives.
use Rattle.std.specs.Prelude.{ℕ, List, [], ◌∷◌, map, filter, find, nat_le, if◌then◌else◌}
use Rattle.std.specs.Option.{unwrap_or}
use Rattle.kev_read.specs.Pairs.{KeyValue}
use Rattle.kbart_rows.specs.Identifiers.{ids_of, matching_rows}
use Rattle.menu.specs.WebLink.{is_web_link}
use Rattle.menu.specs.Links.{is_link}
use Rattle.menu.specs.Entries.{MenuEntry}
use Rattle.menu.specs.declared.entry.Resolution.{Resolution}
use Rattle.menu.specs.declared.entry.Resolution.TheVariants as resolution
use Rattle.verified_runs.specs.Fates.{FateValue, OverBudget, Link, NoLink, fate_in}
use Rattle.registry.specs.Targets.{TargetValue}
use Rattle.registry.specs.RowEnvironments.{row_environment}

-- ---- one row

-- the target's code runs on the environment of the row and the request
abbrev pub fate_of_row : TargetValue → List KeyValue → ℕ → FateValue
fate_of_row target pairs row = fate_in target.code (row_environment target pairs row)

-- the resolution of a row's fate: only a web link counts as a link
abbrev pub resolution_by : ℕ → FateValue → Resolution
resolution_by row (OverBudget bytes) = resolution.OverBudget bytes
resolution_by row (Link link) = if is_web_link link then resolution.Link row link else resolution.NotAWebLink
resolution_by row NoLink = resolution.NoLink

abbrev pub resolution_of_row : TargetValue → List KeyValue → ℕ → Resolution
resolution_of_row target pairs row = resolution_by row (fate_of_row target pairs row)

-- ---- all matching rows

-- the last of some resolutions, or the earlier one if there are none
abbrev pub last_resolution : Resolution → List Resolution → Resolution
last_resolution before [] = before
last_resolution before (resolution ∷ resolutions) = last_resolution resolution resolutions

-- the first that is a link; if there is none, the last
abbrev pub chosen : Resolution → List Resolution → Resolution
chosen before resolutions = unwrap_or (find is_link resolutions) (last_resolution before resolutions)

abbrev pub matching_rows_of : TargetValue → List KeyValue → List ℕ
matching_rows_of target pairs = matching_rows target.table (ids_of pairs)

-- the resolution of a target: that of the first matching row with a web link; without one, that of the last matching row; and NoRow if no row matches
abbrev pub resolution_of : TargetValue → List KeyValue → Resolution
resolution_of target pairs = chosen resolution.NoRow (map (resolution_of_row target pairs) (matching_rows_of target pairs))

-- ---- all targets

abbrev pub entry_of : TargetValue → List KeyValue → MenuEntry
entry_of target pairs = record { name = target.name; resolution = resolution_of target pairs }

-- the menu: an entry for each target, in their order
abbrev pub menu_of : List TargetValue → List KeyValue → List MenuEntry
menu_of targets pairs = map (λ target. entry_of target pairs) targets

-- ---- row by row

-- the resolution of a target, if the rows before this one have given this resolution, which is not a link
abbrev pub resolution_from : TargetValue → List KeyValue → ℕ → Resolution → Resolution
resolution_from target pairs from so_far = chosen so_far (map (resolution_of_row target pairs) (filter (nat_le from) (matching_rows_of target pairs)))
