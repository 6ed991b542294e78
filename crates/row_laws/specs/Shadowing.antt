-- A row over a request: a defined cell hides the request's value of its name.
use Rattle.std.specs.Prelude.{ℕ, Bool, ◌&&◌, not, List, [], ◌∷◌, length, filter, sum_by, get_or, Option, Some, None, is_some, if◌then◌else◌}
use Rattle.text_model.specs.Texts.{Text}
use Rattle.environment_model.specs.Environment.{Environment, Entry, Meaning, is_there}
use Rattle.environment_model.specs.Lists.{is_list}
use Rattle.kev_read.specs.Pairs.{KeyValue, all_of}
use Rattle.kev_read.specs.Filling as by_pairs
use Rattle.kbart_rows.specs.Cells.{NamedCell, Row, is_first, defined}
use Rattle.kbart_rows.specs.Filling as by_cells

-- the entries of the cells, without a request
abbrev pub row_of : List NamedCell → Environment
row_of cells = by_cells.with_named_cells [] cells

-- the entries of the request without a row, if these lists are declared
abbrev pub requested : List Text → List KeyValue → Environment
requested lists pairs = by_pairs.filled lists [] pairs

-- ---- what a row hides

abbrev pub is_hidden : Environment → Entry → Bool
is_hidden row e = is_there row e.name

abbrev pub is_visible : Environment → Entry → Bool
is_visible row e = not (is_there row e.name)

-- the entries whose names the row does not have, and those whose names it has
abbrev pub visible : Environment → Environment → Environment
visible row env = filter (is_visible row) env

abbrev pub hidden : Environment → Environment → Environment
hidden row env = filter (is_hidden row) env

-- ---- what a request has under a name

-- a count of what a look-up found; 0 if it found nothing
abbrev pub found_in : (Meaning → ℕ) → Option Meaning → ℕ
found_in f None = 0
found_in f (Some m) = f m

-- the bytes of the first value, if there is one
abbrev pub first_bytes : List Text → ℕ
first_bytes [] = 0
first_bytes (v ∷ vs) = length v

-- the bytes that the request has under a key: those of all values of a list, and otherwise those of the first value
abbrev pub requested_bytes : List Text → List KeyValue → Text → ℕ
requested_bytes lists pairs key = if is_list lists key then sum_by length (all_of pairs key) else first_bytes (all_of pairs key)

-- the members that the request has under a key
abbrev pub requested_members : List Text → List KeyValue → Text → ℕ
requested_members lists pairs key = if is_list lists key then length (all_of pairs key) else 0

-- ---- what a row hides, column by column

-- the column is the first with its name, and its cell is defined
abbrev pub has_cell : Row → Row → ℕ → Bool
has_cell header cells column = is_first header column && is_some (defined (get_or cells column []))

-- the bytes and the members of the request that the cell of the column hides
abbrev pub hidden_bytes_at : Row → Row → List Text → List KeyValue → ℕ → ℕ
hidden_bytes_at header cells lists pairs column =
    if has_cell header cells column then requested_bytes lists pairs (get_or header column []) else 0

abbrev pub hidden_members_at : Row → Row → List Text → List KeyValue → ℕ → ℕ
hidden_members_at header cells lists pairs column =
    if has_cell header cells column then requested_members lists pairs (get_or header column []) else 0
