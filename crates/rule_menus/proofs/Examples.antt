-- One menu computed twice: from the code of rules, and from what the rules mean.
use Rattle.std.proofs.Common.{◌≡◌, ℕ, List, [], ◌∷◌, false, refl, codes}
use Rattle.std.specs.Char.{encode_utf8}
use Rattle.kbart_rows.specs.Hashing.{keys_of}
use Rattle.std.specs.Prelude.{map}
use Rattle.std.specs.Str.{chars}
use Rattle.text_model.specs.Texts.{Text, is_unreserved}
use Rattle.text_model.specs.Writing.{written_u}
use Rattle.environment_model.specs.Environment.{byte_count, look_up, member_count, with_member}
use Rattle.code_model.specs.Code.{reading}
use Rattle.machine_model.specs.Budget.{longest_compared, total}
use Rattle.machine_model.specs.Form.{body_at}
use Rattle.machine_model.specs.Next.{course_from}
use Rattle.machine_model.specs.Operands.{has_right_operands}
use Rattle.kev_read.specs.Pairs.{KeyValue}
use Rattle.kbart_rows.specs.Cells.{Holdings}
use Rattle.uri_grammar.specs.declared.parts.Op.TheVariants as operator
use Rattle.uri_grammar.specs.declared.parts.Part.TheVariants.{Literal, Expression}
use Rattle.rule_parser.specs.declared.rule.Guard.TheVariants as guard
use Rattle.rule_parser.specs.Rules.{RuleSet}
use Rattle.menu.specs.Entries.{MenuEntry}
use Rattle.menu.specs.declared.entry.Resolution.TheVariants as resolution
use Rattle.verified_runs.specs.Fates.{fate_in}
use Rattle.registry.specs.Entries.{menu_of}
use Rattle.rule_menus.specs.RuleMenus.{RuleTarget, coded, environment_by_code, environment_by_rules, menu_by_rules}

-- the list `tags` is declared, and no rule uses it
abbrev rules : RuleSet
rules =
    record {
      lists = codes "tags" ∷ [];
      rules =
          record {
            guards = guard.Given (codes "site") ∷ [];
            template =
                record {
                  text = codes "http://e.org/{code}";
                  parts =
                      Literal (codes "http://e.org/")
                      ∷ Expression operator.Simple (record { name = codes "code"; cut = 0; explode = false } ∷ [])
                      ∷ [];
                };
          }
          ∷ [];
    }

-- row 0 is not cited, row 1 has no site, and row 2 has a site and a code
abbrev table : Holdings
table =
    record {
      header = codes "print_identifier" ∷ codes "site" ∷ codes "code" ∷ [];
      rows = (codes "1111-1111" ∷ codes "x" ∷ codes "a" ∷ []) ∷ (codes "1234-567X" ∷ [] ∷ []) ∷ (codes "1234-567X" ∷ codes "x" ∷ codes "b" ∷ []) ∷ [];
      keys = keys_of 0 0;
    }

abbrev alpha : RuleTarget
alpha = record { name = codes "alpha"; rules = rules; table = table }

abbrev pair : Text → Text → KeyValue
pair key value = record { key = key; value = value }

abbrev request : List KeyValue
request =
    pair (codes "rft.issn") (codes "1234567x") ∷ pair (codes "code") (codes "z") ∷ pair (codes "tags") (codes "red") ∷ pair (codes "tags") (codes "green") ∷ []

-- the row that has a link
abbrev linked_row : ℕ
linked_row = 2

-- ---- the environments differ: `tags` is a text for the code, and a list for the rules

members_by_code : member_count (environment_by_code alpha request linked_row) ≡ 0
unfolding look_up with_member
members_by_code = refl

members_by_rules : member_count (environment_by_rules alpha request linked_row) ≡ 2
unfolding look_up with_member
members_by_rules = refl

bytes_by_code : byte_count (environment_by_code alpha request linked_row) ≡ 22
unfolding look_up with_member
bytes_by_code = refl

bytes_by_rules : byte_count (environment_by_rules alpha request linked_row) ≡ 27
unfolding look_up with_member
bytes_by_rules = refl

-- ---- the menus do not

-- the cell of the row hides the request's code
abbrev expected : List MenuEntry
expected = record { name = codes "alpha"; resolution = resolution.Link linked_row (codes "http://e.org/b") } ∷ []

menu_computed_by_code : menu_of (map coded (alpha ∷ [])) request ≡ expected
unfolding fate_in course_from reading has_right_operands look_up with_member is_unreserved written_u chars encode_utf8 longest_compared total body_at
menu_computed_by_code = refl

menu_computed_by_rules : menu_by_rules (alpha ∷ []) request ≡ expected
unfolding reading look_up with_member is_unreserved written_u chars encode_utf8 longest_compared total body_at
menu_computed_by_rules = refl
