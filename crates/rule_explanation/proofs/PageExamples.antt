-- What is printed for two rows and a rule on dates of coverage, computed from the definitions.
use Rattle.std.proofs.Common.{◌≡◌, ◌++◌, List, [], ◌∷◌, true, false, refl, codes}
use Rattle.std.specs.Char.{encode_utf8}
use Rattle.std.specs.Fmt.{digits}
use Rattle.kbart_rows.specs.Hashing.{keys_of}
use Rattle.std.specs.Str.{chars}
use Rattle.text_model.specs.Texts.{Text, is_unreserved}
use Rattle.text_model.specs.Number.{leading_number, value_from}
use Rattle.text_model.specs.Writing.{written_u}
use Rattle.environment_model.specs.Environment.{look_up, with_member}
use Rattle.kev_read.specs.Pairs.{KeyValue}
use Rattle.kbart_rows.specs.Cells.{Holdings}
use Rattle.uri_grammar.specs.declared.parts.Op.TheVariants as operator
use Rattle.uri_grammar.specs.declared.parts.Part.TheVariants.{Literal, Expression}
use Rattle.rule_parser.specs.declared.rule.Bound.TheVariants as bound
use Rattle.rule_parser.specs.declared.rule.Guard.TheVariants as guard
use Rattle.rule_parser.specs.Rules.{RuleSet}
use Rattle.rule_explanation.specs.Rows.{has_web_link, tried_rows}
use Rattle.rule_explanation.specs.Explanation.{explanation}

-- rule; when rft.date from date_first_issue_online to date_last_issue_online; link http://e.org/{rft.date}
abbrev coverage : RuleSet
coverage =
    record {
      lists = [];
      rules =
          record {
            guards =
                guard.Between (codes "rft.date") (bound.Name (codes "date_first_issue_online")) (bound.Name (codes "date_last_issue_online")) ∷ [];
            template =
                record {
                  text = codes "http://e.org/{rft.date}";
                  parts =
                      Literal (codes "http://e.org/")
                      ∷ Expression operator.Simple (record { name = codes "rft.date"; cut = 0; explode = false } ∷ [])
                      ∷ [];
                };
          }
          ∷ [];
    }

abbrev table : Holdings
table =
    record {
      header = codes "print_identifier" ∷ codes "title_url" ∷ codes "date_first_issue_online" ∷ codes "date_last_issue_online" ∷ [];
      rows =
          (codes "1234-567X" ∷ codes "http://e.org/a" ∷ codes "1990" ∷ codes "1995" ∷ [])
          ∷ (codes "1234-567X" ∷ codes "http://e.org/b" ∷ codes "2000" ∷ [] ∷ []) ∷ [];
      keys = keys_of 0 0;
    }

abbrev request : Text → List KeyValue
request date =
    record { key = codes "rft.issn"; value = codes "1234567x" } ∷ record { key = codes "rft.date"; value = date } ∷ []

-- a date between the years that the two rows cover
abbrev between_years : Text
between_years =
    codes "row 0\n  rule 1, guard 1 fails: rft.date from date_first_issue_online to date_last_issue_online\n    rft.date \"1998\"\n"
    ++ codes "    date_first_issue_online \"1990\"\n    date_last_issue_online \"1995\"\n  no rule holds\n"
    ++ codes "row 1\n  rule 1, guard 1 fails: rft.date from date_first_issue_online to date_last_issue_online\n    rft.date \"1998\"\n"
    ++ codes "    date_first_issue_online \"2000\"\n    date_last_issue_online undefined\n  no rule holds\n"

neither_row_covers : explanation coverage table (request (codes "1998")) ≡ between_years
unfolding look_up with_member chars encode_utf8 is_unreserved written_u leading_number value_from digits
neither_row_covers = refl

no_link_between_years : has_web_link coverage table (request (codes "1998")) ≡ false
unfolding look_up with_member chars encode_utf8 is_unreserved written_u leading_number value_from
no_link_between_years = refl

-- a date that the second row covers
abbrev in_later_years : Text
in_later_years =
    codes "row 0\n  rule 1, guard 1 fails: rft.date from date_first_issue_online to date_last_issue_online\n    rft.date \"2003\"\n"
    ++ codes "    date_first_issue_online \"1990\"\n    date_last_issue_online \"1995\"\n  no rule holds\n"
    ++ codes "row 1\n  rule 1 holds: http://e.org/2003\n"

second_row_covers : explanation coverage table (request (codes "2003")) ≡ in_later_years
unfolding look_up with_member chars encode_utf8 is_unreserved written_u leading_number value_from digits
second_row_covers = refl

link_in_later_years : has_web_link coverage table (request (codes "2003")) ≡ true
unfolding look_up with_member chars encode_utf8 is_unreserved written_u leading_number value_from
link_in_later_years = refl

-- no row after the one with a web link is tried
abbrev in_early_years : Text
in_early_years = codes "row 0\n  rule 1 holds: http://e.org/1990\n"

first_row_covers : explanation coverage table (request (codes "1990")) ≡ in_early_years
unfolding look_up with_member chars encode_utf8 is_unreserved written_u leading_number value_from digits
first_row_covers = refl

one_row_is_tried : tried_rows coverage table (request (codes "1990")) ≡ 0 ∷ []
unfolding look_up with_member chars encode_utf8 is_unreserved written_u leading_number value_from
one_row_is_tried = refl

-- no row has the identifier
abbrev other_title : List KeyValue
other_title = record { key = codes "rft.issn"; value = codes "0000-0000" } ∷ []

no_row_matches : explanation coverage table other_title ≡ codes "no row\n"
unfolding look_up with_member chars encode_utf8
no_row_matches = refl
