-- The first row of a target on which its rules mean a web link.
use Rattle.std.specs.Prelude.{◌≡◌, ◌≤◌, ◌<◌, ℕ, Bool, true, List, Some, length}
use Rattle.text_model.specs.Texts.{Text}
use Rattle.kev_read.specs.Pairs.{KeyValue}
use Rattle.kbart_rows.specs.Identifiers.{identifier_columns, ids_of, is_match}
use Rattle.row_scope.specs.RowEnvironments.{cells_of_row}
use Rattle.rule_parser.specs.Meaning.{meaning}
use Rattle.verified_runs.specs.declared.run.TheConstants.{MAX_LINK_BYTES}
use Rattle.menu.specs.WebLink.{is_web_link}
use Rattle.rule_menus.specs.RuleMenus.{RuleTarget, environment_by_rules, most_bytes_of_row}

-- an identifier of the row is one of the request's
abbrev pub is_cited_row : RuleTarget → List KeyValue → ℕ → Bool
is_cited_row target pairs row =
    is_match (identifier_columns target.table.header) (ids_of pairs) (cells_of_row target.table row)

-- the row matches, the code cannot print too many bytes, and the rules give this link, which is a web link
pub record MeansWebLink (target : RuleTarget) (pairs : List KeyValue) (row : ℕ) (link : Text) : Type 0 where
  pub there : row < length target.table.rows
  pub cited : is_cited_row target pairs row ≡ true
  pub within : most_bytes_of_row target pairs row ≤ MAX_LINK_BYTES
  pub means : meaning target.rules (environment_by_rules target pairs row) ≡ Some link
  pub web : is_web_link link ≡ true

-- the row has such a link, and no earlier row has one
pub record IsFirstWebLink (target : RuleTarget) (pairs : List KeyValue) (row : ℕ) (link : Text) : Type 0 where
  pub here : MeansWebLink target pairs row link
  pub first : (other : ℕ) (before : Text) → MeansWebLink target pairs other before → row ≤ other
