-- The menus for all requests.
use Rattle.std.specs.Prelude.{List}
use Rattle.kev_read.specs.Pairs.{KeyValue}
use Rattle.menu.specs.Entries.{MenuEntry}

-- for the pairs of a request, the entries of its menu
abbrev pub Menus : Type 0
Menus = List KeyValue → List MenuEntry
