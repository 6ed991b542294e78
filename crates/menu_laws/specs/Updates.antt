-- Updates of the tables of targets.
use Rattle.std.specs.Prelude.{◌≡◌, Bool, true, List, ◌++◌, filter, map}
use Rattle.kev_read.specs.Pairs.{KeyValue}
use Rattle.kbart_rows.specs.Cells.{Holdings, Row}
use Rattle.kbart_rows.specs.Identifiers.{identifier_columns, ids_of, is_match}
use Rattle.menu.specs.Links.{has_link}
use Rattle.menu.specs.Entries.{MenuEntry}
use Rattle.menu.specs.declared.entry.Resolution.{Resolution}
use Rattle.menu.specs.declared.entry.Resolution.TheVariants as resolution
use Rattle.registry.specs.Targets.{TargetValue}

-- the row has one of the identifiers of a request
abbrev pub is_cited : Row → List KeyValue → Row → Bool
is_cited header pairs cells = is_match (identifier_columns header) (ids_of pairs) cells

-- the rows that have one, in their order
abbrev pub cited_rows : Holdings → List KeyValue → List Row
cited_rows table pairs = filter (is_cited table.header pairs) table.rows

-- the target with other rows in its table
abbrev pub with_rows : TargetValue → List Row → TargetValue
with_rows target rows = record target { table = record target.table { rows = rows } }

-- the same name, code and header
pub record IsUpdated (old new : TargetValue) : Type 0 where
  pub name : new.name ≡ old.name
  pub code : new.code ≡ old.code
  pub header : new.table.header ≡ old.table.header

-- an update after which there are more rows at the end
pub record IsExtended (old new : TargetValue) : Type 0 where
  pub updated : IsUpdated old new
  pub more : List Row
  pub rows : new.table.rows ≡ old.table.rows ++ more

-- an update that leaves the rows that have an identifier of the request, in their order
pub record KeepsCited (pairs : List KeyValue) (old new : TargetValue) : Type 0 where
  pub updated : IsUpdated old new
  pub cited : cited_rows new.table pairs ≡ cited_rows old.table pairs

-- ---- menus

-- an entry with a link is still the same
abbrev pub KeepsLink : MenuEntry → MenuEntry → Type 0
KeepsLink old new = has_link old ≡ true → new ≡ old

-- without the number of the row
abbrev pub unnumbered : Resolution → Resolution
unnumbered (resolution.Link row link) = resolution.Link 0 link
unnumbered resolution.NoRow = resolution.NoRow
unnumbered resolution.NoLink = resolution.NoLink
unnumbered resolution.NotAWebLink = resolution.NotAWebLink
unnumbered (resolution.OverBudget bytes) = resolution.OverBudget bytes

abbrev pub unnumbered_entry : MenuEntry → MenuEntry
unnumbered_entry entry = record { name = entry.name; resolution = unnumbered entry.resolution }

abbrev pub unnumbered_menu : List MenuEntry → List MenuEntry
unnumbered_menu menu = map unnumbered_entry menu
