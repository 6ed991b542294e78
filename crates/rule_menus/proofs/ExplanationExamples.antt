-- An explanation and a menu, both computed, of a rule on dates of coverage and a table of two rows.
use Rattle.std.proofs.Common.{◌≡◌, List, [], ◌∷◌, false, Some, None, refl, codes}
use Rattle.std.specs.Char.{encode_utf8}
use Rattle.std.specs.Fmt.{digits}
use Rattle.kbart_rows.specs.Hashing.{keys_of}
use Rattle.std.specs.Prelude.{map}
use Rattle.std.specs.Str.{chars}
use Rattle.text_model.specs.Texts.{Text, is_unreserved}
use Rattle.text_model.specs.Number.{leading_number, value_from as value}
use Rattle.text_model.specs.Writing.{written_u}
use Rattle.environment_model.specs.Environment.{look_up, with_member}
use Rattle.code_model.specs.Code.{reading}
use Rattle.machine_model.specs.Budget.{longest_compared as longest, total}
use Rattle.machine_model.specs.Form.{body_at}
use Rattle.machine_model.specs.Next.{course_from}
use Rattle.machine_model.specs.Operands.{has_right_operands as right_operands}
use Rattle.kev_read.specs.Pairs.{KeyValue}
use Rattle.kbart_rows.specs.Cells.{Holdings}
use Rattle.uri_grammar.specs.declared.parts.Op.TheVariants as operator
use Rattle.uri_grammar.specs.declared.parts.Part.TheVariants.{Literal, Expression}
use Rattle.rule_parser.specs.declared.rule.Bound.TheVariants as bound
use Rattle.rule_parser.specs.declared.rule.Guard.TheVariants as guard
use Rattle.rule_parser.specs.Rules.{RuleSet}
use Rattle.menu.specs.Entries.{MenuEntry}
use Rattle.menu.specs.declared.entry.Resolution.{Resolution}
use Rattle.menu.specs.declared.entry.Resolution.TheVariants as resolution
use Rattle.verified_runs.specs.Fates.{fate_in}
use Rattle.registry.specs.Entries.{menu_of}
use Rattle.rule_explanation.specs.Explanation.{explanation}
use Rattle.rule_menus.specs.RuleMenus.{RuleTarget, coded}
use Rattle.rule_menus.specs.Explanations.{last_line, last_row_line, lines_of}

-- rule; when rft.date from date_first_issue_online to date_last_issue_online; link http://e.org/{rft.date}
abbrev coverage : RuleSet
coverage =
    record {
      lists = [];
      rules =
          record {
            guards =
                guard.Between (codes "rft.date") (bound.Name (codes "date_first_issue_online")) (bound.Name (codes "date_last_issue_online")) ∷ [];
            template =
                record {
                  text = codes "http://e.org/{rft.date}";
                  parts =
                      Literal (codes "http://e.org/")
                      ∷ Expression operator.Simple (record { name = codes "rft.date"; cut = 0; explode = false } ∷ [])
                      ∷ [];
                };
          }
          ∷ [];
    }

abbrev table : Holdings
table =
    record {
      header = codes "print_identifier" ∷ codes "title_url" ∷ codes "date_first_issue_online" ∷ codes "date_last_issue_online" ∷ [];
      rows =
          (codes "1234-567X" ∷ codes "http://e.org/a" ∷ codes "1990" ∷ codes "1995" ∷ [])
          ∷ (codes "1234-567X" ∷ codes "http://e.org/b" ∷ codes "2000" ∷ [] ∷ []) ∷ [];
      keys = keys_of 0 0;
    }

abbrev alpha : RuleTarget
alpha = record { name = codes "alpha"; rules = coverage; table = table }

abbrev request : Text → Text → List KeyValue
request issn date = record { key = codes "rft.issn"; value = issn } ∷ record { key = codes "rft.date"; value = date } ∷ []

abbrev cited : Text → List KeyValue
cited date = request (codes "1234567x") date

abbrev entry : Resolution → List MenuEntry
entry r = record { name = codes "alpha"; resolution = r } ∷ []

-- ---- the second row covers the date

last_row_2003 : last_row_line (lines_of (explanation coverage table (cited (codes "2003")))) ≡ Some (codes "row 1")
unfolding look_up with_member chars encode_utf8 is_unreserved written_u leading_number value digits
last_row_2003 = refl

last_line_2003 : last_line (lines_of (explanation coverage table (cited (codes "2003")))) ≡ Some (codes "  rule 1 holds: http://e.org/2003")
unfolding look_up with_member chars encode_utf8 is_unreserved written_u leading_number value digits
last_line_2003 = refl

menu_2003 : menu_of (map coded (alpha ∷ [])) (cited (codes "2003")) ≡ entry (resolution.Link 1 (codes "http://e.org/2003"))
unfolding fate_in course_from reading right_operands look_up with_member is_unreserved written_u chars encode_utf8 longest total body_at leading_number value
menu_2003 = refl

-- ---- neither row covers it

last_line_1998 : last_line (lines_of (explanation coverage table (cited (codes "1998")))) ≡ Some (codes "  no rule holds")
unfolding look_up with_member chars encode_utf8 is_unreserved written_u leading_number value digits
last_line_1998 = refl

menu_1998 : menu_of (map coded (alpha ∷ [])) (cited (codes "1998")) ≡ entry resolution.NoLink
unfolding fate_in course_from reading right_operands look_up with_member chars encode_utf8 longest total body_at leading_number value
menu_1998 = refl

-- ---- no row is cited

last_line_of_none : last_line (lines_of (explanation coverage table (request (codes "0000-0000") (codes "1998")))) ≡ Some (codes "no row")
unfolding look_up with_member chars encode_utf8
last_line_of_none = refl

menu_of_none : menu_of (map coded (alpha ∷ [])) (request (codes "0000-0000") (codes "1998")) ≡ entry resolution.NoRow
unfolding fate_in course_from reading right_operands look_up with_member chars encode_utf8
menu_of_none = refl

-- ---- lines

two_lines : lines_of (codes "row 0\n  no rule holds\n") ≡ codes "row 0" ∷ codes "  no rule holds" ∷ []
two_lines = refl

-- a line that is not ended is one too, and an empty line another
unended_line : lines_of (codes "a\n\nb") ≡ codes "a" ∷ [] ∷ codes "b" ∷ []
unended_line = refl

-- the row that is named last, after indented lines
named_last : last_row_line (lines_of (codes "row 0\n  no rule holds\nrow 7\n    row 9\n")) ≡ Some (codes "row 7")
named_last = refl

-- an empty line is not indented
empty_line_last : last_row_line (lines_of (codes "row 0\n\n")) ≡ Some []
empty_line_last = refl

none_named : last_row_line (codes "  no rule holds" ∷ []) ≡ None
none_named = refl
