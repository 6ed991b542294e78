-- What is printed for rules on one environment, and for the rows after the first hundred, computed from the definitions.
use Rattle.std.proofs.Common.{◌≡◌, ◌++◌, List, [], ◌∷◌, Bool, true, false, map, refl, codes}
use Rattle.std.specs.Fmt.{digits}
use Rattle.text_model.specs.Texts.{Text}
use Rattle.text_model.specs.Number.{leading_number, value_from}
use Rattle.environment_model.specs.Environment.{Environment, Single, Several, look_up}
use Rattle.uri_grammar.specs.declared.parts.Part.TheVariants.{Literal}
use Rattle.rule_parser.specs.declared.rule.Bound.TheVariants as bound
use Rattle.rule_parser.specs.declared.rule.Guard.{Guard}
use Rattle.rule_parser.specs.declared.rule.Guard.TheVariants as guard
use Rattle.rule_parser.specs.declared.rule.Rule.{Rule}
use Rattle.rule_parser.specs.Rules.{RuleSet}
use Rattle.rule_explanation.specs.Rows.{up_to_first}
use Rattle.rule_explanation.specs.Explanation.{is_detailed, row_text}

-- a text, authors, a list without members, a text whose name the rules declare a list, and a list that they do not
variables : Environment
variables =
    record { name = codes "x"; meaning = Single (codes "1") }
    ∷ record { name = codes "rft.au"; meaning = Several (codes "Wu" ∷ codes "Li" ∷ []) }
    ∷ record { name = codes "rft_id"; meaning = Several [] }
    ∷ record { name = codes "by"; meaning = Single (codes "a") }
    ∷ record { name = codes "other"; meaning = Several (codes "b" ∷ []) }
    ∷ []

abbrev rule_of : List Guard → Text → Rule
rule_of guards link = record { guards = guards; template = record { text = link; parts = Literal link ∷ [] } }

abbrev rules_of : List Rule → RuleSet
rules_of rules = record { lists = codes "by" ∷ []; rules = rules }

abbrev printed : List Rule → Text
printed rules = row_text (rules_of rules) variables true 7

-- of two guards that fail the first is printed; its number counts the guards before it that hold
first_guard_that_fails :
    printed (rule_of (guard.Has (codes "x") ∷ guard.Has (codes "y") ∷ guard.Lacks (codes "x") ∷ []) (codes "a") ∷ [])
    ≡ codes "row 7\n  rule 1, guard 2 fails: has y\n    y undefined\n  no rule holds\n"
unfolding variables look_up digits
first_guard_that_fails = refl

-- the rules before the one that holds are printed, and none after it
first_rule_that_holds :
    printed
    (rule_of (guard.Has (codes "y") ∷ []) (codes "http://a") ∷ rule_of (guard.Lacks (codes "x") ∷ []) (codes "http://b")
    ∷ rule_of (guard.Has (codes "x") ∷ []) (codes "http://c") ∷ rule_of (guard.Has (codes "y") ∷ []) (codes "http://d") ∷ [])
    ≡ codes "row 7\n  rule 1, guard 1 fails: has y\n    y undefined\n  rule 2, guard 1 fails: lacks x\n    x \"1\"\n"
    ++ codes "  rule 3 holds: http://c\n"
unfolding variables look_up digits
first_rule_that_holds = refl

-- names as the rules see them: a text under the name of a list is undefined, and so are a list under the name of a text and a list without members
kinds_of_names :
    printed
    (rule_of (guard.Counts (codes "rft.au") (bound.Digits (codes "3")) bound.Open ∷ []) [] ∷ rule_of (guard.Holds (codes "by") (codes "a") ∷ []) []
    ∷ rule_of (guard.Given (codes "other") ∷ []) [] ∷ rule_of (guard.Counts (codes "rft_id") (bound.Name (codes "x")) (bound.Name (codes "x")) ∷ []) [] ∷ [])
    ≡ codes "row 7\n  rule 1, guard 1 fails: rft.au counts 3 to *\n    rft.au list of 2\n"
    ++ codes "  rule 2, guard 1 fails: by holds \"a\"\n    by undefined\n  rule 3, guard 1 fails: given other\n    other undefined\n"
    ++ codes "  rule 4, guard 1 fails: rft_id counts x to x\n    rft_id undefined\n    x \"1\"\n  no rule holds\n"
unfolding variables look_up leading_number value_from digits
kinds_of_names = refl

-- bytes of a guard's text that are not printable, and a quotation mark that the rule file escapes
visible_guard :
    printed (rule_of (guard.Same (codes "x") (0x1b ∷ codes "[2J\"" ++ 0xc3 ∷ 0xa9 ∷ []) ∷ []) [] ∷ [])
    ≡ codes "row 7\n  rule 1, guard 1 fails: x is \"\\x1b[2J\\\"\\xc3\\xa9\"\n    x \"1\"\n  no rule holds\n"
unfolding variables look_up digits
visible_guard = refl

-- a link of another scheme
other_link :
    printed (rule_of [] (codes "mailto:a") ∷ []) ≡ codes "row 7\n  rule 1 holds: mailto:a\n  not a web link\n"
unfolding variables look_up digits
other_link = refl

-- without the rules that fail
not_detailed :
    row_text (rules_of (rule_of (guard.Has (codes "y") ∷ []) [] ∷ [])) variables false 7 ≡ codes "row 7\n  no rule holds\n"
unfolding variables look_up digits
not_detailed = refl

-- a hundred rows are detailed
hundred_rows : map is_detailed (1 ∷ 99 ∷ 100 ∷ 101 ∷ []) ≡ true ∷ true ∷ true ∷ false ∷ []
hundred_rows = refl

-- the first that passes is the last that is tried
ends_at_the_first : up_to_first (λ (b : Bool). b) (false ∷ false ∷ true ∷ false ∷ true ∷ []) ≡ false ∷ false ∷ true ∷ []
ends_at_the_first = refl

tries_all : up_to_first (λ (b : Bool). b) (false ∷ false ∷ []) ≡ false ∷ false ∷ []
tries_all = refl
