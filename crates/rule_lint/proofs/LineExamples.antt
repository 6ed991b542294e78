-- Each kind of line, and similar cases that are not reported, computed from the definitions.
use Rattle.std.proofs.Common.{◌≡◌, true, false, List, [], ◌∷◌, map, refl, codes}
use Rattle.std.specs.Fmt.{digits}
use Rattle.text_model.specs.Texts.{Text}
use Rattle.text_model.specs.Number.{leading_number, value_from}
use Rattle.uri_grammar.specs.declared.parts.Op.TheVariants as operator
use Rattle.uri_grammar.specs.declared.parts.Part.{Part}
use Rattle.uri_grammar.specs.declared.parts.Part.TheVariants.{Literal}
use Rattle.kbart_rows.specs.Cells.{Holdings}
use Rattle.kbart_rows.specs.declared.keys.Keys.{Keys}
use Rattle.rule_parser.specs.declared.rule.Bound.{Bound}
use Rattle.rule_parser.specs.declared.rule.Bound.TheVariants as bound
use Rattle.rule_parser.specs.declared.rule.Guard.{Guard}
use Rattle.rule_parser.specs.declared.rule.Guard.TheVariants as guard
use Rattle.rule_parser.specs.declared.rule.Rule.{Rule}
use Rattle.rule_lint.specs.Names.{resembles, is_name, is_known}
use Rattle.rule_lint.specs.Reach.{is_never_reached, never_holds}
use Rattle.rule_lint.specs.WebLink.{is_never_web_link}
use Rattle.rule_lint.specs.declared.host_state.HostState.TheVariants.{Outside, Slash, Opened, Inside, Past, Lost}
use Rattle.rule_lint.specs.HostStates.{state_of}
use Rattle.rule_lint.specs.Host.{host_of, host_names, may_be_hostless}
use Rattle.rule_lint.specs.Findings.{has_rule_warning, lint_text}
use Rattle.rule_lint.proofs.Examples.{variable, rule_of, rules_of, table_of}

-- ---- rules and warnings

no_rules_warn : (keys : Keys) → lint_text (rules_of [] []) (table_of keys [] []) ≡ codes "rules 0\n"
unfolding digits
no_rules_warn keys = refl

warnings : (keys : Keys) → map (λ rules. has_rule_warning (rules_of [] rules) (table_of keys [] [])) (
    [] ∷ (rule_of [] (Literal (codes "none:") ∷ []) ∷ []) ∷ (rule_of (guard.Has (codes "a") ∷ []) (Literal (codes "none:") ∷ []) ∷ []) ∷ [])
    ≡ true ∷ false ∷ true ∷ []
warnings keys = refl

-- ---- names

-- letters in another case, the prefix, and one edit; two edits are too many
like_the_issn : map (resembles (codes "issn")) (
    codes "ISSN" ∷ codes "rft.issn" ∷ codes "issnn" ∷ codes "isn" ∷ codes "isbn" ∷ codes "sisn" ∷ codes "isns" ∷ codes "ssni" ∷ codes "isbm" ∷ codes "" ∷ [])
    ≡ true ∷ true ∷ true ∷ true ∷ true ∷ true ∷ true ∷ false ∷ false ∷ false ∷ []
like_the_issn = refl

names_of_templates : map is_name (
    codes "a" ∷ codes "rft.issn" ∷ codes "a%20b" ∷ codes "" ∷ codes ".a" ∷ codes "a." ∷ codes "a..b" ∷ codes "a b" ∷ codes "a%2" ∷ codes "%2f.x" ∷ [])
    ≡ true ∷ true ∷ true ∷ false ∷ false ∷ false ∷ false ∷ false ∷ false ∷ true ∷ []
names_of_templates = refl

-- lists, columns and keys
known : (keys : Keys) → map (is_known (rules_of (codes "by" ∷ []) []) (table_of keys (codes "Title_URL" ∷ []) [])) (
    codes "by" ∷ codes "rft.au" ∷ codes "rft_id" ∷ codes "x.doi" ∷ codes "x.to" ∷ codes "Title_URL" ∷ codes "rft.eisbn"
    ∷ codes "title_url" ∷ codes "x.note" ∷ codes "rft.isssn" ∷ [])
    ≡ true ∷ true ∷ true ∷ true ∷ true ∷ true ∷ true ∷ false ∷ false ∷ false ∷ []
known keys = refl

-- ---- reach

abbrev guarded : Rule
guarded = rule_of (guard.Has (codes "x") ∷ []) []

abbrev unguarded : Rule
unguarded = rule_of [] []

-- all rules after one without guards
reached : map (is_never_reached (guarded ∷ unguarded ∷ guarded ∷ unguarded ∷ guarded ∷ [])) (0 ∷ 1 ∷ 2 ∷ 3 ∷ 4 ∷ [])
    ≡ false ∷ false ∷ true ∷ true ∷ true ∷ []
reached = refl

abbrev from_to : Bound → Bound → Guard
from_to low high = guard.Between (codes "rft.volume") low high

-- the bounds count as numbers, and may be equal
empty_ranges : map never_holds (
    from_to (bound.Digits (codes "5")) (bound.Digits (codes "4")) ∷ from_to (bound.Digits (codes "5")) (bound.Digits (codes "5"))
    ∷ from_to (bound.Digits (codes "9")) (bound.Digits (codes "10")) ∷ from_to (bound.Digits (codes "5")) bound.Open
    ∷ from_to (bound.Name (codes "a")) (bound.Digits (codes "0")) ∷ guard.Counts (codes "rft.au") (bound.Digits (codes "002")) (bound.Digits (codes "1"))
    ∷ guard.Has (codes "x") ∷ [])
    ≡ true ∷ false ∷ false ∷ false ∷ false ∷ true ∷ false ∷ []
unfolding leading_number value_from
empty_ranges = refl

-- ---- web links

abbrev x : Part
x = variable operator.Simple (codes "x")

never_links : map is_never_web_link (
    (Literal (codes "none:") ∷ []) ∷ (Literal (codes "HTTP://e.org") ∷ []) ∷ (Literal (codes "http") ∷ []) ∷ (Literal (codes "htTp") ∷ x ∷ []) ∷ (x ∷ [])
    ∷ [] ∷ (Literal (codes "http:/e.org/") ∷ x ∷ []) ∷ (Literal (codes "https:/") ∷ x ∷ []) ∷ (Literal (codes "ftp:") ∷ x ∷ []) ∷ [])
    ≡ true ∷ false ∷ true ∷ false ∷ false ∷ true ∷ true ∷ false ∷ true ∷ []
never_links = refl

-- ---- hosts

hosts : map host_of (codes "http://e.org/a" ∷ codes "https://e.org" ∷ codes "http:///a" ∷ codes "http://e.org?a#b"
    ∷ codes "http:/e.org" ∷ codes "http://e#//a/" ∷ [])
    ≡ codes "e.org" ∷ codes "e.org" ∷ [] ∷ codes "e.org" ∷ [] ∷ codes "e" ∷ []
hosts = refl

states : map state_of (codes "http://e" ∷ codes "http://" ∷ codes "http:/e" ∷ codes "http:///e" ∷ codes "http://?e" ∷ codes "http://e/" ∷ codes "http://e?"
    ∷ codes "http://e#" ∷ codes "http:/" ∷ codes "http://a@e/" ∷ codes "http://e/@" ∷ codes "http://@" ∷ [])
    ≡ Inside ∷ Opened ∷ Outside ∷ Lost ∷ Lost ∷ Past ∷ Past ∷ Past ∷ Slash ∷ Lost ∷ Past ∷ Lost ∷ []
states = refl

-- a table in which one row has no title_id
abbrev holdings : Keys → Holdings
holdings keys = table_of keys (codes "title_url" ∷ codes "title_id" ∷ codes "publisher_name" ∷ codes "rft.au" ∷ []) (
    (codes "http://e.org/a" ∷ codes "j1" ∷ codes "P" ∷ codes "A" ∷ []) ∷ (codes "http://e.org/b" ∷ [] ∷ codes "P" ∷ codes "A" ∷ []) ∷ [])

abbrev named : Keys → List Part → List Text
named keys parts = host_names (rules_of [] []) (holdings keys) parts

-- a key is not a column, every row needs the cell, one slash begins no host, and a column does not end one by itself
open_hosts : (keys : Keys) → map (named keys) (
    (Literal (codes "https://") ∷ variable operator.Simple (codes "rft.issn") ∷ Literal (codes "/") ∷ [])
    ∷ (Literal (codes "https://") ∷ variable operator.Simple (codes "title_id") ∷ Literal (codes "/") ∷ [])
    ∷ (Literal (codes "https:/") ∷ variable operator.Slash (codes "x") ∷ [])
    ∷ (Literal (codes "https://") ∷ variable operator.Simple (codes "publisher_name") ∷ x ∷ x ∷ [])
    ∷ (Literal (codes "https://") ∷ variable operator.Simple (codes "rft.au") ∷ Literal (codes "/") ∷ [])
    ∷ (Literal (codes "https://e.org") ∷ variable operator.Ampersand (codes "x") ∷ variable operator.Question (codes "y") ∷ [])
    ∷ [])
    ≡ (codes "rft.issn" ∷ []) ∷ (codes "title_id" ∷ []) ∷ (codes "x" ∷ []) ∷ (codes "x" ∷ []) ∷ (codes "rft.au" ∷ []) ∷ (codes "x" ∷ []) ∷ []
open_hosts keys = refl

-- a slash that is written only if x is defined
optional_slashes : (keys : Keys) → map (named keys) (
    (Literal (codes "https://e.org") ∷ variable operator.Slash (codes "x") ∷ Literal (codes "foo") ∷ [])
    ∷ (Literal (codes "https://e.org") ∷ variable operator.Slash (codes "x") ∷ variable operator.Dot (codes "y") ∷ [])
    ∷ (Literal (codes "https://e.org") ∷ variable operator.Slash (codes "x") ∷ Literal (codes "/foo") ∷ x ∷ [])
    ∷ (Literal (codes "https://e.org") ∷ variable operator.Slash (codes "x") ∷ variable operator.Question (codes "y") ∷ [])
    ∷ [])
    ≡ (codes "x" ∷ []) ∷ (codes "x" ∷ codes "y" ∷ []) ∷ [] ∷ [] ∷ []
optional_slashes keys = refl

-- a column of every row, a slash, a question mark or a number sign after the host, and an address in every row
closed_hosts : (keys : Keys) → map (named keys) (
    (Literal (codes "https://") ∷ variable operator.Simple (codes "publisher_name") ∷ Literal (codes ".e.org/") ∷ x ∷ [])
    ∷ (Literal (codes "https://e.org") ∷ variable operator.Slash (codes "x") ∷ [])
    ∷ (Literal (codes "https://e.org") ∷ variable operator.Question (codes "x") ∷ [])
    ∷ (Literal (codes "https://e.org") ∷ variable operator.Hash (codes "x") ∷ [])
    ∷ (Literal (codes "https://e.org/") ∷ x ∷ [])
    ∷ (variable operator.Plus (codes "title_url") ∷ x ∷ [])
    ∷ [])
    ≡ [] ∷ [] ∷ [] ∷ [] ∷ [] ∷ [] ∷ []
closed_hosts keys = refl

-- ---- the whole cell, as it is in each row

abbrev two_hosts : Keys → Text → Text → Holdings
two_hosts keys first second = table_of keys (codes "host" ∷ []) ((first ∷ []) ∷ (second ∷ []) ∷ [])

-- the host is the first row's cell or the second's, and the rest comes from the request
abbrev by_host : List Part
by_host = Literal (codes "https://") ∷ variable operator.Plus (codes "host") ∷ Literal (codes "/") ∷ x ∷ []

abbrev by_hosts : Keys → Text → Text → List Text
by_hosts keys first second = host_names (rules_of [] []) (two_hosts keys first second) by_host

-- a cell may end the host, or leave that to the template; a cell of `/` alone has none, and what is before an `@` is no host
cells_with_hosts : (keys : Keys) → by_hosts keys (codes "e.org") (codes "f.org/a") ∷ by_hosts keys (codes "e.org") (codes "/")
    ∷ by_hosts keys (codes "me@e.org") (codes "f.org") ∷ by_hosts keys (codes "e.org/@") (codes "f.org?@") ∷ by_hosts keys (codes "#") (codes "f.org") ∷ []
    ≡ [] ∷ (codes "x" ∷ []) ∷ (codes "x" ∷ []) ∷ [] ∷ (codes "x" ∷ []) ∷ []
cells_with_hosts keys = refl

-- no name follows, but a browser has another host than the template, or none
without_a_host : (keys : Keys) → map (λ parts. may_be_hostless (rules_of [] []) (two_hosts keys (codes "e.org") (codes "/")) parts) (
    (Literal (codes "https://") ∷ variable operator.Plus (codes "host") ∷ Literal (codes "/a/") ∷ [])
    ∷ (Literal (codes "https://") ∷ [])
    ∷ (Literal (codes "https:///e.org") ∷ [])
    ∷ (Literal (codes "https://me@e.org/") ∷ [])
    ∷ (Literal (codes "https://e.org") ∷ [])
    ∷ (Literal (codes "https://e.org/@") ∷ [])
    ∷ [])
    ≡ true ∷ true ∷ true ∷ true ∷ false ∷ false ∷ []
without_a_host keys = refl

-- what is printed of the first
hostless_line : (keys : Keys) → lint_text
    (rules_of [] (rule_of [] (Literal (codes "https://") ∷ variable operator.Plus (codes "host") ∷ Literal (codes "/a/") ∷ []) ∷ []))
    (two_hosts keys (codes "e.org") (codes "/")) ≡ codes "rules 1\nrule 1, link: a row may give no host, or one with @\n"
unfolding digits
hostless_line keys = refl
