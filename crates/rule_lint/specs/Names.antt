-- Which names are defined for a target, and which of these another name resembles.
use Rattle.std.specs.Prelude.{◌==◌, ◌&&◌, ◌||◌, not, nat_le, length, Bool, true, false, List, [], ◌∷◌, ◌++◌, codes, filter, Option, is_some}
use Rattle.std.specs.Prelude.{if◌then◌else◌}
use Rattle.std.specs.List.{find}
use Rattle.std.specs.Str.{bytes_eq, str_eq_ignore_ascii_case}
use Rattle.text_model.specs.Texts.{Text, is_hexadecimal, percent}
use Rattle.environment_model.specs.Environment.{is_among}
use Rattle.environment_model.specs.Lists.{is_list, list_names}
use Rattle.uri_grammar.specs.Names.{is_name_character}
use Rattle.uri_grammar.specs.Characters.{dot}
use Rattle.uri_grammar.specs.declared.names.TheConstants.{MAX_NAME_BYTES}
use Rattle.kbart_rows.specs.Cells.{Holdings, column_of}
use Rattle.standard_names.specs.Columns.{column_names}
use Rattle.standard_names.specs.Keys.{request_keys}
use Rattle.rule_parser.specs.Names.{each_once}
use Rattle.rule_parser.specs.Rules.{RuleSet}

-- ---- names that are known

-- a column of the table has the name
abbrev pub is_column : Holdings → Text → Bool
is_column table name = is_some (column_of table.header name)

-- a list of the rules, a column of the table, or a key of a request
abbrev pub is_known : RuleSet → Holdings → Text → Bool
is_known rules table name =
    is_list rules.lists name || (is_column table name || is_among name request_keys)

-- one of the columns that KBART defines (NISO RP-9-2014)
abbrev pub is_standard_column : Text → Bool
is_standard_column name = is_among name column_names

-- ---- misspelt names

-- the second text is the first with one more byte before it
abbrev pub has_one_before : Text → Text → Bool
has_one_before t [] = false
has_one_before t (c ∷ u) = bytes_eq t u

-- the texts are the same after their first bytes
abbrev pub has_one_replaced : Text → Text → Bool
has_one_replaced (b ∷ t) (c ∷ u) = bytes_eq t u
has_one_replaced t u = false

-- the texts begin with the same two bytes, but in another order, and are the same after these
abbrev pub has_two_exchanged : Text → Text → Bool
has_two_exchanged (a ∷ b ∷ t) (c ∷ d ∷ u) = (a == d && b == c) && bytes_eq t u
has_two_exchanged t u = false

-- at the beginning one byte is inserted, deleted or replaced, or two neighbours are exchanged; the rest is the same
abbrev pub is_edited_first : Text → Text → Bool
is_edited_first t u = (has_one_before t u || has_one_before u t) || (has_one_replaced t u || has_two_exchanged t u)

-- after any bytes that are the same, the texts differ by one such edit
abbrev pub is_one_edit : Text → Text → Bool
is_one_edit (b ∷ t) (c ∷ u) = is_edited_first (b ∷ t) (c ∷ u) || (b == c && is_one_edit t u)
is_one_edit t u = is_edited_first t u

-- the other name is `rft.` and the name
abbrev pub adds_prefix : Text → Text → Bool
adds_prefix name other = bytes_eq other (codes "rft." ++ name)

-- the other name differs in the case of its letters, by the prefix `rft.`, or by one edit
abbrev pub resembles : Text → Text → Bool
resembles name other =
    str_eq_ignore_ascii_case name other || (adds_prefix name other || is_one_edit name other)

-- letters, digits, `_` and triplets, with at most one dot before each (RFC 6570, section 2.3). The flags say whether one of these must come next, whether a
-- hexadecimal digit of a triplet must come next, and whether another one after it
abbrev pub are_varchars : Bool → Bool → Bool → Text → Bool
are_varchars due digit second [] = not due && not digit
are_varchars due digit second (c ∷ t) =
    if digit then (is_hexadecimal c && are_varchars false second false t)
    else (if is_name_character c then are_varchars false false false t
    else (if c == percent then are_varchars false true true t
    else ((c == dot && not due) && are_varchars true false false t)))

-- the text is a name of the template grammar
abbrev pub is_name : Text → Bool
is_name text = nat_le (length text) MAX_NAME_BYTES && are_varchars true false false text

-- the names that a misspelt name is compared with: the columns, the lists of the rules and the keys
abbrev pub possible_names : RuleSet → Holdings → List Text
possible_names rules table = filter is_name table.header ++ (each_once (list_names rules.lists) ++ request_keys)

-- the first of these names that resembles the name
abbrev pub resembled : RuleSet → Holdings → Text → Option Text
resembled rules table name = find (resembles name) (possible_names rules table)
