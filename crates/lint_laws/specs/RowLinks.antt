-- The link that a rule gives on a row of the table, and what a request can do to its host.
use Rattle.std.specs.Prelude.{◌≡◌, ◌≢◌, ◌⊎◌, ◌<◌, ℕ, Bool, true, false, List, [], Option, Some, codes, get_or, length}
use Rattle.std.specs.List.{find, list_any}
use Rattle.text_model.specs.Texts.{Text}
use Rattle.environment_model.specs.Environment.{Environment}
use Rattle.kev_read.specs.Pairs.{KeyValue}
use Rattle.kev_read.specs.Filling.{filled}
use Rattle.kbart_rows.specs.Cells.{Holdings, Row, named_cells}
use Rattle.row_laws.specs.Shadowing.{row_of}
use Rattle.uri_grammar.specs.declared.parts.Part.{Part}
use Rattle.uri_template.specs.Expansion.{expansion}
use Rattle.rule_parser.specs.declared.rule.Rule.{Rule}
use Rattle.rule_parser.specs.Rules.{RuleSet}
use Rattle.rule_parser.specs.Meaning.{guards_hold, seen}
use Rattle.rule_lint.specs.declared.place.Place.{Place}
use Rattle.rule_lint.specs.Host.{host_of}
use Rattle.rule_lint.specs.Findings.{RuleFinding, HostByRequest, Hostless, findings, in_link}
use Rattle.lint_laws.specs.Browsers.{browsers_host, is_at_sign}

-- ---- links

-- the defined cells of a row and, after them, the pairs of the request, by the lists that the rules declare: the
-- first entry of a name stays, so no pair replaces a cell
abbrev pub environment_of_cells : RuleSet → Holdings → Row → List KeyValue → Environment
environment_of_cells rules table cells pairs = filled rules.lists (row_of (named_cells table.header cells)) pairs

-- what a template gives on a row for a request
abbrev pub link_on_row : RuleSet → Holdings → List Part → ℕ → List KeyValue → Text
link_on_row rules table parts row pairs =
    expansion (seen rules (environment_of_cells rules table (get_or table.rows row []) pairs)) parts

-- its host
abbrev pub host_on_row : RuleSet → Holdings → List Part → ℕ → List KeyValue → Text
host_on_row rules table parts row pairs = host_of (link_on_row rules table parts row pairs)

-- its host for a request without pairs, made of the template's own text and the row's cells alone
abbrev pub host_of_row_alone : RuleSet → Holdings → List Part → ℕ → Text
host_of_row_alone rules table parts row = host_on_row rules table parts row []

-- the rule that is taken
abbrev pub rule_on_row : RuleSet → Holdings → ℕ → List KeyValue → Option Rule
rule_on_row rules table row pairs =
    find (guards_hold (seen rules (environment_of_cells rules table (get_or table.rows row []) pairs))) rules.rules

-- ---- what is found of a link's host

-- the finding says that a request can set the host, or that a row may give none
abbrev pub is_of_host : RuleFinding → Bool
is_of_host (HostByRequest at name) = true
is_of_host (Hostless at) = true
is_of_host other = false

-- a finding in a link says so
abbrev pub has_open_host : RuleSet → Holdings → Place → List Part → Bool
has_open_host rules table at parts = list_any is_of_host (in_link rules table at parts)

-- a finding in the rules says so
abbrev pub has_open_hosts : RuleSet → Holdings → Bool
has_open_hosts rules table = list_any is_of_host (findings rules table)

-- ---- what a host should be

-- the text between `//` and the next `/`, `?` or `#` is not empty, and has no `@`
pub record IsPlainHost (host : Text) : Type 0 where
  pub some : host ≢ []
  pub no_user : list_any is_at_sign host ≡ false

abbrev pub IsWebScheme : Text → Type 0
IsWebScheme scheme = (scheme ≡ codes "http://") ⊎ (scheme ≡ codes "https://")

-- the row alone decides the host of a template's link, it is plain, and a browser has the same host, whose triplets it then decodes
pub record IsHostOfRow (rules : RuleSet) (table : Holdings) (parts : List Part) (row : ℕ) (link : Text) : Type 0 where
  pub same : host_of link ≡ host_of_row_alone rules table parts row
  pub plain : IsPlainHost (host_of link)
  pub browser : browsers_host link ≡ host_of link

-- the row is in the table, the rule that is taken on it gives the link, and the row alone decides the link's host, which is plain
pub record HasHostOfRow (rules : RuleSet) (table : Holdings) (row : ℕ) (pairs : List KeyValue) (link : Text) : Type 0 where
  pub there : row < length table.rows
  pub rule : Rule
  pub taken : rule_on_row rules table row pairs ≡ Some rule
  pub gives : link_on_row rules table rule.template.parts row pairs ≡ link
  pub host : IsHostOfRow rules table rule.template.parts row link
