-- The rows of a table that are tried for a request, and what rules give on each.
use Rattle.std.specs.Prelude.{ℕ, Bool, false, List, [], ◌∷◌, Option, Some, None, get_or, if◌then◌else◌}
use Rattle.std.specs.List.{list_any}
use Rattle.text_model.specs.Texts.{Text}
use Rattle.environment_model.specs.Environment.{Environment}
use Rattle.kev_read.specs.Pairs.{KeyValue}
use Rattle.kev_read.specs.Filling.{filled}
use Rattle.kbart_rows.specs.Cells.{Holdings, named_cells}
use Rattle.kbart_rows.specs.Identifiers.{ids_of, matching_rows}
use Rattle.row_laws.specs.Shadowing.{row_of}
use Rattle.rule_parser.specs.Rules.{RuleSet}
use Rattle.rule_parser.specs.Meaning.{meaning}
use Rattle.menu.specs.WebLink.{is_web_link}

-- the defined cells of a row and, after them, the pairs of the request, with the lists that the rules declare: the first entry of a name stays, so no pair
-- replaces a cell
abbrev pub environment_of_row : RuleSet → Holdings → List KeyValue → ℕ → Environment
environment_of_row rules table pairs row = filled rules.lists (row_of (named_cells table.header (get_or table.rows row []))) pairs

-- what the rules mean on a row
abbrev pub link_of_row : RuleSet → Holdings → List KeyValue → ℕ → Option Text
link_of_row rules table pairs row = meaning rules (environment_of_row rules table pairs row)

abbrev pub is_web : Option Text → Bool
is_web None = false
is_web (Some link) = is_web_link link

abbrev pub gives_web_link : RuleSet → Holdings → List KeyValue → ℕ → Bool
gives_web_link rules table pairs row = is_web (link_of_row rules table pairs row)

-- the items up to the first that passes the test, and that one
abbrev pub up_to_first : {A : Type 0} → (A → Bool) → List A → List A
up_to_first test [] = []
up_to_first test (x ∷ xs) = if test x then (x ∷ []) else (x ∷ up_to_first test xs)

-- the matching rows in order, up to the first with a web link
abbrev pub tried_rows : RuleSet → Holdings → List KeyValue → List ℕ
tried_rows rules table pairs = up_to_first (gives_web_link rules table pairs) (matching_rows table (ids_of pairs))

-- a matching row has a web link
abbrev pub has_web_link : RuleSet → Holdings → List KeyValue → Bool
has_web_link rules table pairs = list_any (gives_web_link rules table pairs) (matching_rows table (ids_of pairs))
