-- The host of a link (RFC 3986, section 3.2), and the names by which a request can set it.
use Rattle.std.specs.Prelude.{ℕ, ◌==◌, ◌&&◌, ◌||◌, not, Bool, true, false, List, [], ◌∷◌, ◌++◌, filter, map, Option, Some, None, is_some}
use Rattle.std.specs.Prelude.{if◌then◌else◌}
use Rattle.std.specs.List.{list_all, before_first, filter_map}
use Rattle.std.specs.Option.{unwrap_or}
use Rattle.text_model.specs.Texts.{Text}
use Rattle.environment_model.specs.Lists.{is_list}
use Rattle.uri_grammar.specs.declared.parts.Op.{Op}
use Rattle.uri_grammar.specs.declared.parts.Op.TheVariants as operator
use Rattle.uri_grammar.specs.declared.parts.Spec.{Spec}
use Rattle.uri_grammar.specs.declared.parts.Part.{Part}
use Rattle.uri_grammar.specs.declared.parts.Part.TheVariants.{Literal, Expression}
use Rattle.kbart_rows.specs.Cells.{Row, Holdings, cell_of}
use Rattle.rule_parser.specs.Names.{each_once}
use Rattle.rule_parser.specs.Rules.{RuleSet}
use Rattle.rule_lint.specs.declared.host_state.HostState.{HostState}
use Rattle.rule_lint.specs.declared.host_state.HostState.TheVariants.{Outside, Inside, Past, Lost}
use Rattle.rule_lint.specs.HostStates.{slash, ends_host, is_past, is_inside, is_hostless, after_byte, after_text, after_texts}
use Rattle.rule_lint.specs.Names.{is_column}

-- ---- the host of a text

-- what follows the first `//`
abbrev pub after_slashes : Text → Option Text
after_slashes [] = None
after_slashes (b ∷ []) = None
after_slashes (b ∷ c ∷ t) = if b == slash && c == slash then Some t else after_slashes (c ∷ t)

-- the host: the bytes after the slashes up to the byte that ends the host, or to the end
abbrev pub host_after : Option Text → Text
host_after None = []
host_after (Some t) = before_first ends_host t

abbrev pub host_of : Text → Text
host_of link = host_after (after_slashes link)

-- ---- what a row decides

abbrev pub has_cell : Holdings → Text → Row → Bool
has_cell table name cells = is_some (cell_of table.header cells name)

-- the name is that of a column, and not of a list of the rules, and the column's cell is defined in every row: so the row decides the name, and never the
-- request
abbrev pub is_rows_own : RuleSet → Holdings → Text → Bool
is_rows_own rules table name =
    is_column table name && (not (is_list rules.lists name) && list_all (has_cell table name) table.rows)

abbrev pub spec_name : Spec → Text
spec_name spec = spec.name

abbrev pub names_of : List Spec → List Text
names_of specs = map spec_name specs

abbrev pub is_specs_own : RuleSet → Holdings → Spec → Bool
is_specs_own rules table spec = is_rows_own rules table spec.name

-- the row decides all names
abbrev pub are_rows_own : RuleSet → Holdings → List Spec → Bool
are_rows_own rules table specs = list_all (is_specs_own rules table) specs

-- the names that the row does not decide
abbrev pub open_among : RuleSet → Holdings → List Spec → List Text
open_among rules table specs = names_of (filter (λ spec. not (is_specs_own rules table spec)) specs)

-- the cells of a name that are defined, row by row
abbrev pub cells_of_name : Holdings → Text → List Text
cells_of_name table name = filter_map (λ cells. cell_of table.header cells name) table.rows

-- ---- parts of a template

-- the operator writes `/`, `?` or `#` before the values, which ends the host
abbrev pub leads_past_host : Op → Bool
leads_past_host operator.Slash = true
leads_past_host operator.Question = true
leads_past_host operator.Hash = true
leads_past_host other = false

-- whether `/`, `?` or `#` comes first; none if the text is empty
abbrev pub begins_with_end : Text → Option Bool
begins_with_end [] = None
begins_with_end (b ∷ text) = Some (ends_host b)

-- whether `/`, `?` or `#` comes first in what a part writes; none if it writes nothing or begins with one of these
abbrev pub decides_end : Part → Option Bool
decides_end (Literal text) = begins_with_end text
decides_end (Expression op specs) = if leads_past_host op then None else Some false

-- whatever is defined, the parts write nothing, or `/`, `?` or `#` comes first
abbrev pub ends_next : List Part → Bool
ends_next [] = true
ends_next (part ∷ parts) = unwrap_or (decides_end part) (ends_next parts)

-- the host has begun, and it ends before the expression, which comes before these parts, whatever is defined
abbrev pub is_ended : HostState → Op → List Part → Bool
is_ended state op parts = is_inside state && (leads_past_host op && ends_next parts)

-- any byte that begins no host, and ends none
abbrev pub letter : ℕ
letter = 0x78

-- neither past the host nor lost
abbrev pub is_early : HostState → Bool
is_early Past = false
is_early Lost = false
is_early other = true

-- the state after the whole cell of a single name without a prefix, as it is in each row
abbrev pub after_whole_cells : Holdings → HostState → List Spec → HostState
after_whole_cells table state (spec ∷ []) =
    if spec.cut == 0 then after_texts state (cells_of_name table spec.name) else Lost
after_whole_cells table state specs = Lost

-- the state after an expression that the row decides: after one letter in place of values without reserved characters; after the whole cell in each row; or
-- after the operator's first character, if that ends the host. Of other values nothing is known
abbrev pub after_own : Holdings → HostState → Op → List Spec → HostState
after_own table Past op specs = Past
after_own table Lost op specs = Lost
after_own table state operator.Simple specs = after_byte state letter
after_own table state operator.Dot specs = after_byte state letter
after_own table state operator.Plus specs = after_whole_cells table state specs
after_own table Inside operator.Slash specs = Past
after_own table Inside operator.Question specs = Past
after_own table Inside operator.Hash specs = Past
after_own table state op specs = Lost

-- a value that the row does not decide changes nothing
abbrev pub after_expression : RuleSet → Holdings → HostState → Op → List Spec → List Part → HostState
after_expression rules table state op specs parts =
    if are_rows_own rules table specs then after_own table state op specs
    else (if is_ended state op parts then Past else state)

-- the state after a part that comes before these parts
abbrev pub after_part : RuleSet → Holdings → HostState → Part → List Part → HostState
after_part rules table state (Literal text) parts = after_text state text
after_part rules table state (Expression op specs) parts = after_expression rules table state op specs parts

abbrev pub after_parts : RuleSet → Holdings → HostState → List Part → HostState
after_parts rules table state [] = state
after_parts rules table state (part ∷ parts) = after_parts rules table (after_part rules table state part parts) parts

-- ---- what is found of the host

-- the names of a part that the row does not decide, unless the host has ended before the part
abbrev pub open_names : RuleSet → Holdings → HostState → Part → List Part → List Text
open_names rules table state (Literal text) parts = []
open_names rules table state (Expression op specs) parts =
    if is_past state || is_ended state op parts then [] else open_among rules table specs

abbrev pub open_names_after : RuleSet → Holdings → HostState → List Part → List Text
open_names_after rules table state [] = []
open_names_after rules table state (part ∷ parts) =
    open_names rules table state part parts ++ open_names_after rules table (after_part rules table state part parts) parts

-- the names by which a request can set the host, in order, each once
abbrev pub host_names : RuleSet → Holdings → List Part → List Text
host_names rules table parts = each_once (open_names_after rules table Outside parts)

-- in some row the host may be empty, or have an `@`
abbrev pub may_be_hostless : RuleSet → Holdings → List Part → Bool
may_be_hostless rules table parts = is_hostless (after_parts rules table Outside parts)
