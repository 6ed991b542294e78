-- Templates by what a request can do to their hosts, computed by the definitions.
use Rattle.std.proofs.Common.{◌≡◌, ℕ, true, false, List, [], ◌∷◌, ◌++◌, Option, Some, get_or, map, refl, codes}
use Rattle.text_model.specs.Texts.{Text, is_reserved, is_unreserved}
use Rattle.text_model.specs.Writing.{written_u, written_ur}
use Rattle.environment_model.specs.Environment.{look_up}
use Rattle.kev_read.specs.Pairs.{KeyValue}
use Rattle.uri_grammar.specs.declared.parts.Op.TheVariants as operator
use Rattle.uri_grammar.specs.declared.parts.Part.{Part}
use Rattle.uri_grammar.specs.declared.parts.Part.TheVariants.{Literal}
use Rattle.kbart_rows.specs.Cells.{Holdings}
use Rattle.kbart_rows.specs.declared.keys.Keys.{Keys}
use Rattle.rule_parser.specs.Meaning.{meaning}
use Rattle.rule_parser.specs.Rules.{RuleSet}
use Rattle.rule_lint.specs.declared.place.Place.TheVariants as place
use Rattle.lint_laws.specs.Browsers.{backslash, browsers_host}
use Rattle.lint_laws.specs.RowLinks.{environment_of_cells, has_open_host, has_open_hosts, host_of_row_alone, host_on_row, link_on_row}
use Rattle.rule_lint.proofs.Examples.{rule_of, rules_of, table_of, variable}

-- every row has an address, a title and a path; the second has no note
abbrev table : Keys → Holdings
table keys = table_of keys (codes "url" ∷ codes "title" ∷ codes "path" ∷ codes "note" ∷ []) (
    (codes "http://e.org/a" ∷ codes "tides" ∷ codes "/b" ∷ codes "n" ∷ [])
    ∷ (codes "http://f.org/" ∷ codes "waves" ∷ codes "/" ∷ [] ∷ []) ∷ [])

abbrev x_is : Text → List KeyValue
x_is value = record { key = codes "x"; value = value } ∷ []

-- the requests have their own title and note as well
abbrev other_title : List KeyValue
other_title = record { key = codes "title"; value = codes "t" } ∷ record { key = codes "note"; value = codes "m" } ∷ []

-- ---- templates

-- `https://e.org{x}`
abbrev extended : List Part
extended = Literal (codes "https://e.org") ∷ variable operator.Simple (codes "x") ∷ []

-- `https://e.org{/x}foo`
abbrev ended : List Part
ended = Literal (codes "https://e.org") ∷ variable operator.Slash (codes "x") ∷ Literal (codes "foo") ∷ []

-- `http:/{/x}`
abbrev second_slash : List Part
second_slash = Literal (codes "http:/") ∷ variable operator.Slash (codes "x") ∷ []

-- `{+url}{x}`
abbrev address : List Part
address = variable operator.Plus (codes "url") ∷ variable operator.Simple (codes "x") ∷ []

-- `https://{title}{x}`
abbrev cell_extended : List Part
cell_extended = Literal (codes "https://") ∷ variable operator.Simple (codes "title") ∷ variable operator.Simple (codes "x") ∷ []

-- `https://{title}{/x}`
abbrev cell_ended : List Part
cell_ended = Literal (codes "https://") ∷ variable operator.Simple (codes "title") ∷ variable operator.Slash (codes "x") ∷ []

-- `https://{note}/`
abbrev by_note : List Part
by_note = Literal (codes "https://") ∷ variable operator.Simple (codes "note") ∷ Literal (codes "/") ∷ []

-- `http://{+path}{/x}`
abbrev by_path : List Part
by_path = Literal (codes "http://") ∷ variable operator.Plus (codes "path") ∷ variable operator.Slash (codes "x") ∷ []

-- `https://e.org{/x}/foo`
abbrev ended_twice : List Part
ended_twice = Literal (codes "https://e.org") ∷ variable operator.Slash (codes "x") ∷ Literal (codes "/foo") ∷ []

-- `https:///e.org/`, `https://u@e.org/` and `https://e.org/{x}`
abbrev begun_with_an_end : List Part
begun_with_an_end = Literal (codes "https:///e.org/") ∷ []

abbrev with_a_user : List Part
with_a_user = Literal (codes "https://u@e.org/") ∷ []

abbrev fixed : List Part
fixed = Literal (codes "https://e.org/") ∷ variable operator.Simple (codes "x") ∷ []

-- what a fixed host needs
fixed_hosts : (keys : Keys) → map (has_open_host (rules_of [] []) (table keys) (place.Link 1)) (begun_with_an_end ∷ with_a_user ∷ fixed ∷ [])
    ≡ true ∷ true ∷ false ∷ []
fixed_hosts keys = refl

open_hosts : (keys : Keys) → map (has_open_host (rules_of [] []) (table keys) (place.Link 1)) (
    extended ∷ ended ∷ second_slash ∷ address ∷ cell_extended ∷ cell_ended ∷ by_note ∷ by_path ∷ ended_twice ∷ [])
    ≡ true ∷ true ∷ true ∷ false ∷ true ∷ false ∷ true ∷ true ∷ false ∷ []
open_hosts keys = refl

-- ---- hosts that a request sets

-- for the row alone and for requests
abbrev hosts : Keys → ℕ → List Part → List (List KeyValue) → List Text
hosts keys row parts requests = map (host_on_row (rules_of [] []) (table keys) parts row) ([] ∷ requests)

longer : (keys : Keys) → hosts keys 0 extended (x_is (codes ".evil") ∷ x_is (codes "-") ∷ []) ≡ codes "e.org" ∷ codes "e.org.evil" ∷ codes "e.org-" ∷ []
unfolding look_up written_u is_unreserved
longer keys = refl

-- with and without a slash
shorter : (keys : Keys) → hosts keys 0 ended (x_is (codes "a") ∷ x_is (codes "") ∷ other_title ∷ [])
    ≡ codes "e.orgfoo" ∷ codes "e.org" ∷ codes "e.org" ∷ codes "e.orgfoo" ∷ []
unfolding look_up written_u is_unreserved
shorter keys = refl

started_by_request : (keys : Keys) → hosts keys 0 second_slash (x_is (codes "evil") ∷ []) ≡ [] ∷ codes "evil" ∷ []
unfolding look_up written_u is_unreserved
started_by_request keys = refl

-- a cell that one row lacks: the request has it there
filled_by_request : (keys : Keys) → map (λ (row : ℕ). host_on_row (rules_of [] []) (table keys) by_note row other_title) (0 ∷ 1 ∷ [])
    ≡ codes "n" ∷ codes "m" ∷ []
unfolding look_up written_u is_unreserved
filled_by_request keys = refl

-- a cell that begins with a slash: the host is empty, and a browser has another one after the slashes
empty_host : (keys : Keys) → link_on_row (rules_of [] []) (table keys) by_path 1 (x_is (codes "evil")) ≡ codes "http:////evil"
unfolding look_up written_u written_ur is_reserved is_unreserved
empty_host keys = refl

empty_host_alone : (keys : Keys) → host_of_row_alone (rules_of [] []) (table keys) by_path 1 ≡ []
unfolding look_up written_ur is_reserved is_unreserved
empty_host_alone keys = refl

-- ---- hosts that none sets

of_the_cell : (keys : Keys) → hosts keys 1 cell_ended (x_is (codes "a") ∷ other_title ∷ []) ≡ codes "waves" ∷ codes "waves" ∷ codes "waves" ∷ []
unfolding look_up written_u is_unreserved
of_the_cell keys = refl

of_the_address : (keys : Keys) → hosts keys 1 address (x_is (codes ".evil") ∷ other_title ∷ []) ≡ codes "f.org" ∷ codes "f.org" ∷ codes "f.org" ∷ []
unfolding look_up written_u written_ur is_reserved is_unreserved
of_the_address keys = refl

of_both : (keys : Keys) → hosts keys 0 ended_twice (x_is (codes "a") ∷ x_is (codes "") ∷ []) ≡ codes "e.org" ∷ codes "e.org" ∷ codes "e.org" ∷ []
unfolding look_up written_u is_unreserved
of_both keys = refl

-- ---- links of which nothing is found, and which lack another premise of `no_request_sets_the_host`

-- `https://e.org\f.org/`, which no template text gives
abbrev with_backslash : List Part
with_backslash = Literal (codes "https://e.org" ++ backslash ∷ codes "f.org/") ∷ []

-- `e.org/{x}`, which gives no web link
abbrev without_scheme : List Part
without_scheme = Literal (codes "e.org/") ∷ variable operator.Simple (codes "x") ∷ []

not_found : (keys : Keys) → map (has_open_host (rules_of [] []) (table keys) (place.Link 1)) (with_backslash ∷ without_scheme ∷ cell_ended ∷ [])
    ≡ false ∷ false ∷ false ∷ []
not_found keys = refl

-- a browser has another host
host_with_backslash : (keys : Keys) → hosts keys 0 with_backslash [] ≡ (codes "e.org" ++ backslash ∷ codes "f.org") ∷ []
host_with_backslash keys = refl

browsers_host_with_backslash : (keys : Keys) → browsers_host (link_on_row (rules_of [] []) (table keys) with_backslash 0 []) ≡ codes "e.org"
browsers_host_with_backslash keys = refl

-- there is no host
hosts_without_scheme : (keys : Keys) → hosts keys 0 without_scheme (x_is (codes "a") ∷ []) ≡ [] ∷ [] ∷ []
unfolding look_up written_u is_unreserved
hosts_without_scheme keys = refl

-- the request has the cell that a row after the last one lacks
after_the_last_row : (keys : Keys) → hosts keys 2 cell_ended (other_title ∷ []) ≡ [] ∷ codes "t" ∷ []
unfolding look_up written_u is_unreserved
after_the_last_row keys = refl

-- ---- the same of rules that have one of these templates each, and what they mean

abbrev alone : List Part → RuleSet
alone parts = rules_of [] (rule_of [] parts ∷ [])

not_found_in_rules : (keys : Keys) → map (λ (parts : List Part). has_open_hosts (alone parts) (table keys)) (
    with_backslash ∷ without_scheme ∷ cell_ended ∷ [])
    ≡ false ∷ false ∷ false ∷ []
not_found_in_rules keys = refl

abbrev meaning_on_row : Keys → List Part → ℕ → List KeyValue → Option Text
meaning_on_row keys parts row pairs = meaning (alone parts) (environment_of_cells (alone parts) (table keys) (get_or (table keys).rows row []) pairs)

meanings : (keys : Keys) → meaning_on_row keys with_backslash 0 [] ∷ meaning_on_row keys without_scheme 0 [] ∷ meaning_on_row keys cell_ended 2 other_title ∷ []
    ≡ Some (codes "https://e.org" ++ backslash ∷ codes "f.org/") ∷ Some (codes "e.org/") ∷ Some (codes "https://t") ∷ []
unfolding look_up written_u is_unreserved
meanings keys = refl
