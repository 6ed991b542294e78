-- Two small registries, requests and tables that meet the premises of the laws, and what the laws say of them, computed: `targets_are_independent`,
-- `text_is_read_as_its_links`, `readers_keys_stay_out`, `appended_rows_keep_links`, `other_rows_change_numbers_alone`, `rows_over_requests_are_small`,
-- `work_of_a_request_is_bounded` and `clean_tables_have_no_dead_row`.
use Rattle.std.proofs.Common.{List, [], arith, codes, false, refl, ℕ, ◌++◌, ◌∷◌, ◌≡◌, ◌≤◌}
use Rattle.std.specs.Fmt.{digits}
use Rattle.std.proofs.lemmas.List.Elements.{All-cons, All-nil}
use Rattle.std.proofs.lemmas.Str.{IsUtf8-from_is_utf8}
use Rattle.csv.specs.Reading.{Reached}
use Rattle.text_model.specs.Texts.{Text}
use Rattle.environment_model.specs.Environment.{byte_count, member_count}
use Rattle.code_model.specs.Code.{row}
use Rattle.kev_read.specs.Pairs.{KeyValue, all_of, pairs_of}
use Rattle.kev_read.specs.ReadQuery.{IsBounded, ReadQuery}
use Rattle.kbart_rows.specs.Cells.{Holdings, row_bytes}
use Rattle.kbart_rows.specs.Reading.{IsTable}
use Rattle.kbart_rows.specs.Identifiers.{ids_of, matching_rows}
use Rattle.kbart_rows.proofs.OnLiterals.{kbart_rows_on_literals}
use Rattle.menu.specs.Printed.{report, text}
use Rattle.menu.specs.declared.entry.Resolution.TheVariants as resolution
use Rattle.registry.specs.Entries.{entry_of, menu_of}
use Rattle.registry.specs.Targets.{TargetValue}
use Rattle.http_request.specs.declared.route.Page.TheVariants as page
use Rattle.http_exchange.specs.RouteReplies.{menu_reply}
use Rattle.table_inspection.specs.Findings.{have_table_warning}
use Rattle.table_inspection.specs.Inspection.{findings_in_identifiers}
use Rattle.table_inspection.proofs.OnLiterals.{on_literals}
use Rattle.link_menu.specs.RowsByRound.{longest}
use Rattle.menu_laws.specs.Lines.{links_in_text}
use Rattle.menu_laws.specs.OneKey.{by_issn}
use Rattle.menu_laws.specs.Shares.{other_lines, other_targets}
use Rattle.menu_laws.specs.Updates.{IsExtended, KeepsCited, with_rows}
use Rattle.menu_laws.specs.Work.{most_steps_of_request, runs_in_rounds, runs_of_request}
use Rattle.verified_runs.specs.declared.run.TheConstants.{MAX_LINK_BYTES}
use Rattle.verified_runs.specs.Fates.{fate_in, most_bytes_in}
use Rattle.registry.specs.RowEnvironments.{row_environment}
use Rattle.menu_laws.specs.Keys.{HaveSameValues, IsWithinBudget}
use Rattle.menu_laws.proofs.SmallRegistries.{alpha, beta, registry, request, run_on_literals, spoilt_registry, table, url_code}

-- ---- targets are independent

same_others : other_targets (codes "alpha") registry ≡ other_targets (codes "alpha") spoilt_registry
same_others = refl

text_with_alpha : text (menu_of registry request) ≡ codes "alpha\thttp://e.org/a\nbeta\thttp://e.org/b\n"
unfolding kbart_rows_on_literals run_on_literals fate_in
text_with_alpha = refl

other_line_with_alpha : other_lines (codes "alpha") (menu_reply (menu_of registry) page.Text request).body ≡ codes "beta\thttp://e.org/b" ∷ []
unfolding kbart_rows_on_literals run_on_literals fate_in
other_line_with_alpha = refl

other_line_with_spoilt_alpha : other_lines (codes "alpha") (menu_reply (menu_of spoilt_registry) page.Text request).body ≡ codes "beta\thttp://e.org/b" ∷ []
unfolding kbart_rows_on_literals run_on_literals fate_in
other_line_with_spoilt_alpha = refl

-- ---- the text is read as its links

text_is_read : links_in_text (text (menu_of registry request))
    ≡ record { name = codes "alpha"; link = codes "http://e.org/a" } ∷ record { name = codes "beta"; link = codes "http://e.org/b" } ∷ []
unfolding kbart_rows_on_literals run_on_literals fate_in
text_is_read = refl

-- ---- readers' keys stay out

abbrev request_of : Text → List KeyValue
request_of reader = request ++ record { key = codes "email"; value = reader } ∷ []

same_values : HaveSameValues url_code (request_of (codes "a@e.org")) (request_of (codes "bb@e.org"))
unfolding kbart_rows_on_literals
same_values =
    All-cons (λ name. all_of (request_of (codes "a@e.org")) name.text ≡ all_of (request_of (codes "bb@e.org")) name.text)
    (record { list = false; text = codes "title_url" }) [] refl
    (All-nil (λ name. all_of (request_of (codes "a@e.org")) name.text ≡ all_of (request_of (codes "bb@e.org")) name.text))

same_identifiers : ids_of (request_of (codes "a@e.org")) ≡ ids_of (request_of (codes "bb@e.org"))
unfolding kbart_rows_on_literals
same_identifiers = refl

abbrev within : List KeyValue → ℕ → Type 0
within pairs row = most_bytes_in url_code (row_environment beta pairs row) ≤ MAX_LINK_BYTES

first_within_budget : IsWithinBudget beta (request_of (codes "a@e.org"))
unfolding kbart_rows_on_literals run_on_literals
first_within_budget = All-cons (within (request_of (codes "a@e.org"))) 1 [] (omega arith) (All-nil (within (request_of (codes "a@e.org"))))

second_within_budget : IsWithinBudget beta (request_of (codes "bb@e.org"))
unfolding kbart_rows_on_literals run_on_literals
second_within_budget = All-cons (within (request_of (codes "bb@e.org"))) 1 [] (omega arith) (All-nil (within (request_of (codes "bb@e.org"))))

same_entries : entry_of beta (request_of (codes "a@e.org")) ∷ entry_of beta (request_of (codes "bb@e.org")) ∷ []
    ≡ record { name = codes "beta"; resolution = resolution.Link 1 (codes "http://e.org/b") }
    ∷ record { name = codes "beta"; resolution = resolution.Link 1 (codes "http://e.org/b") } ∷ []
unfolding kbart_rows_on_literals run_on_literals fate_in
same_entries = refl

-- ---- updates

abbrev extended_beta : TargetValue
extended_beta = with_rows beta (beta.table.rows ++ (codes "1" ∷ codes "http://e.org/c" ∷ []) ∷ [])

beta_is_extended : IsExtended beta extended_beta
beta_is_extended = record { updated = record { name = refl; code = refl; header = refl }; more = (codes "1" ∷ codes "http://e.org/c" ∷ []) ∷ []; rows = refl }

link_is_kept : menu_of (extended_beta ∷ []) request ≡ menu_of (beta ∷ []) request
unfolding kbart_rows_on_literals run_on_literals fate_in
link_is_kept = refl

-- the row before the cited one is removed
abbrev shorter_beta : TargetValue
shorter_beta = with_rows beta ((codes "1" ∷ codes "http://e.org/b" ∷ []) ∷ [])

cited_rows_are_kept : KeepsCited request beta shorter_beta
unfolding kbart_rows_on_literals
cited_rows_are_kept = record { updated = record { name = refl; code = refl; header = refl }; cited = refl }

report_before : report (menu_of (beta ∷ []) request) ≡ codes "beta\tlink 1\n"
unfolding kbart_rows_on_literals run_on_literals fate_in digits
report_before = refl

report_after : report (menu_of (shorter_beta ∷ []) request) ≡ codes "beta\tlink 0\n"
unfolding kbart_rows_on_literals run_on_literals fate_in digits
report_after = refl

text_after : text (menu_of (shorter_beta ∷ []) request) ≡ codes "beta\thttp://e.org/b\n"
unfolding kbart_rows_on_literals run_on_literals fate_in
text_after = refl

-- ---- rows over requests

-- the row has a number and an address, and the request a number and two authors
abbrev authors : ReadQuery
authors = record { pairs = pairs_of (codes "rft.issn=1&rft.au=Li&rft.au=Wu"); query_bytes = 30 }

alpha_is_read : IsTable (codes "print_identifier\ttitle_url\n1\thttp://e.org/a\n") alpha.table
unfolding kbart_rows_on_literals Reached
alpha_is_read =
    record {
      text = (omega arith, IsUtf8-from_is_utf8 _ refl);
      lines = (_, _, (_, refl, refl, (_, refl, refl, (refl, refl))), refl);
      few = omega arith;
      fit = All-cons (λ line. row_bytes line ≤ 65536) alpha.table.header alpha.table.rows (omega arith)
          (All-cons (λ line. row_bytes line ≤ 65536) (codes "1" ∷ codes "http://e.org/a" ∷ []) [] (omega arith) (All-nil (λ line. row_bytes line ≤ 65536)));
    }

authors_are_bounded : IsBounded authors
unfolding kbart_rows_on_literals
authors_are_bounded = record { query_bytes = omega arith; pairs = omega arith; values = omega arith }

members_of_the_row : member_count (row_environment alpha authors.pairs 0) ≡ 2
unfolding kbart_rows_on_literals
members_of_the_row = refl

bytes_of_the_row : byte_count (row_environment alpha authors.pairs 0) ≡ 20
unfolding kbart_rows_on_literals
bytes_of_the_row = refl

-- ---- work

-- each of the two runs has four steps, of the five that its code allows
steps_of_two_runs : runs_of_request registry request ≡ 4 ∷ 4 ∷ []
unfolding kbart_rows_on_literals run_on_literals fate_in runs_in_rounds longest
steps_of_two_runs = refl

most_steps_of_two_runs : most_steps_of_request registry request ≡ 10
unfolding kbart_rows_on_literals run_on_literals
most_steps_of_two_runs = refl

-- ---- clean tables

abbrev clean : Holdings
clean = table ((codes "1234-5679" ∷ []) ∷ (codes "2049-363X" ∷ []) ∷ [])

no_warning : have_table_warning (findings_in_identifiers clean) ≡ false
unfolding on_literals
no_warning = refl

second_row_is_found : matching_rows clean (ids_of (by_issn (codes "2049363X"))) ≡ 1 ∷ []
unfolding kbart_rows_on_literals
second_row_is_found = refl
