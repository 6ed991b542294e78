-- Guards at their bounds, and guards and parts that fit the kinds of names, computed from the definitions.
use Rattle.std.proofs.Common.{◌≡◌, ℕ, List, [], ◌∷◌, Bool, true, false, map, refl, codes}
use Rattle.text_model.specs.Texts.{Text}
use Rattle.text_model.specs.Number.{leading_number, value_from}
use Rattle.environment_model.specs.Environment.{Environment, Single, Several, look_up}
use Rattle.uri_grammar.specs.declared.parts.Op.TheVariants as operator
use Rattle.uri_grammar.specs.declared.parts.Part.TheVariants.{Literal, Expression}
use Rattle.uri_grammar.specs.declared.parts.Spec.{Spec}
use Rattle.rule_parser.specs.declared.rule.Bound.TheVariants as bound
use Rattle.rule_parser.specs.declared.rule.Guard.{Guard}
use Rattle.rule_parser.specs.declared.rule.Guard.TheVariants as guard
use Rattle.rule_parser.specs.Rules.{guard_fits, parts_fit}
use Rattle.rule_parser.specs.Meaning.{guard_holds, seen}

-- texts, a list with members, one without; a text whose name the rules declare a list, and a list that they do not declare
variables : Environment
variables =
    record { name = codes "x"; meaning = Single (codes "7b") }
    ∷ record { name = codes "empty"; meaning = Single [] }
    ∷ record { name = codes "word"; meaning = Single (codes "b7") }
    ∷ record { name = codes "two"; meaning = Single (codes "2") }
    ∷ record { name = codes "nine"; meaning = Single (codes "999999999") }
    ∷ record { name = codes "ten"; meaning = Single (codes "1234567890") }
    ∷ record { name = codes "plus"; meaning = Single (codes "+5") }
    ∷ record { name = codes "minus"; meaning = Single (codes "-5") }
    ∷ record { name = codes "blank"; meaning = Single (codes " 5") }
    ∷ record { name = codes "letter"; meaning = Single (codes "a") }
    ∷ record { name = codes "rft.au"; meaning = Several (codes "Wu" ∷ codes "Li" ∷ []) }
    ∷ record { name = codes "rft_id"; meaning = Several [] }
    ∷ record { name = codes "by"; meaning = Single (codes "a") }
    ∷ record { name = codes "other"; meaning = Several (codes "a" ∷ []) }
    ∷ []

abbrev declared : List Text
declared = codes "by" ∷ []

-- which of the guards hold
abbrev answers : List Guard → List Bool
answers guards = map (guard_holds (seen (record { lists = declared; rules = [] }) variables)) guards

abbrev names : List Text
names = codes "x" ∷ codes "X" ∷ codes "empty" ∷ codes "missing" ∷ codes "rft.au" ∷ codes "rft_id" ∷ codes "by" ∷ codes "other" ∷ []

has : answers (map (λ name. guard.Has name) names) ≡ true ∷ false ∷ true ∷ false ∷ true ∷ false ∷ false ∷ false ∷ []
unfolding variables look_up
has = refl

lacks : answers (map (λ name. guard.Lacks name) names) ≡ false ∷ true ∷ false ∷ true ∷ false ∷ true ∷ true ∷ true ∷ []
unfolding variables look_up
lacks = refl

given : answers (map (λ name. guard.Given name) names) ≡ true ∷ false ∷ false ∷ false ∷ false ∷ false ∷ false ∷ false ∷ []
unfolding variables look_up
given = refl

is :
    answers (
    guard.Same (codes "x") (codes "7b") ∷ guard.Same (codes "x") (codes "7") ∷ guard.Same (codes "empty") [] ∷ guard.Same (codes "missing") []
    ∷ guard.Same (codes "rft.au") (codes "Wu") ∷ guard.Same (codes "by") (codes "a") ∷ [])
    ≡ true ∷ false ∷ true ∷ false ∷ false ∷ false ∷ []
unfolding variables look_up
is = refl

-- texts are equal byte by byte, in case, length and spaces
is_exactly :
    answers (map (guard.Same (codes "letter")) (codes "a" ∷ codes "A" ∷ codes "" ∷ codes "a " ∷ codes " a" ∷ codes "ab" ∷ codes "%61" ∷ []))
    ≡ true ∷ false ∷ false ∷ false ∷ false ∷ false ∷ false ∷ []
unfolding variables look_up
is_exactly = refl

holds_exactly :
    answers (map (guard.Holds (codes "rft.au")) (codes "Li" ∷ codes "li" ∷ codes "LI" ∷ codes "L" ∷ codes "Li " ∷ codes "Wu,Li" ∷ codes "" ∷ []))
    ≡ true ∷ false ∷ false ∷ false ∷ false ∷ false ∷ false ∷ []
unfolding variables look_up
holds_exactly = refl

holds :
    answers (
    guard.Holds (codes "rft.au") (codes "Wu") ∷ guard.Holds (codes "rft.au") (codes "Li") ∷ guard.Holds (codes "rft.au") (codes "W")
    ∷ guard.Holds (codes "rft_id") [] ∷ guard.Holds (codes "missing") [] ∷ guard.Holds (codes "by") (codes "a") ∷ guard.Holds (codes "other") (codes "a") ∷ [])
    ≡ true ∷ true ∷ false ∷ false ∷ false ∷ false ∷ false ∷ []
unfolding variables look_up
holds = refl

-- on each bound, and next to it
from_digits :
    answers (
    guard.Between (codes "x") (bound.Digits (codes "7")) (bound.Digits (codes "007"))
    ∷ guard.Between (codes "x") (bound.Digits (codes "8")) bound.Open ∷ guard.Between (codes "x") bound.Open (bound.Digits (codes "6"))
    ∷ guard.Between (codes "x") (bound.Digits (codes "6")) (bound.Digits (codes "8")) ∷ guard.Between (codes "x") bound.Open bound.Open
    ∷ guard.Between (codes "nine") (bound.Digits (codes "999999999")) bound.Open ∷ [])
    ≡ true ∷ false ∷ false ∷ true ∷ true ∷ true ∷ []
unfolding variables look_up leading_number value_from
from_digits = refl

-- a text without a number, and bounds that are names
from_names :
    answers (
    guard.Between (codes "word") bound.Open bound.Open ∷ guard.Between (codes "empty") bound.Open bound.Open ∷ guard.Between (codes "ten") bound.Open bound.Open
    ∷ guard.Between (codes "missing") bound.Open bound.Open ∷ guard.Between (codes "rft.au") bound.Open bound.Open
    ∷ guard.Between (codes "two") (bound.Name (codes "x")) bound.Open ∷ guard.Between (codes "two") (bound.Name (codes "two")) (bound.Name (codes "two"))
    ∷ guard.Between (codes "x") bound.Open (bound.Name (codes "two")) ∷ guard.Between (codes "two") (bound.Name (codes "ten")) (bound.Name (codes "word"))
    ∷ guard.Between (codes "two") (bound.Name (codes "missing")) (bound.Name (codes "empty")) ∷ [])
    ≡ false ∷ false ∷ false ∷ false ∷ false ∷ false ∷ true ∷ false ∷ true ∷ true ∷ []
unfolding variables look_up leading_number value_from
from_names = refl

-- a text with a sign or a space before the digits is not a number, and a bound with such a text is open
signs :
    answers (
    guard.Between (codes "plus") bound.Open bound.Open ∷ guard.Between (codes "minus") bound.Open bound.Open
    ∷ guard.Between (codes "blank") bound.Open bound.Open
    ∷ guard.Between (codes "two") (bound.Name (codes "plus")) bound.Open ∷ guard.Between (codes "x") bound.Open (bound.Name (codes "plus"))
    ∷ guard.Between (codes "two") (bound.Name (codes "minus")) bound.Open ∷ guard.Between (codes "x") bound.Open (bound.Name (codes "minus"))
    ∷ guard.Between (codes "two") (bound.Name (codes "blank")) bound.Open ∷ guard.Between (codes "x") bound.Open (bound.Name (codes "blank"))
    ∷ guard.Counts (codes "rft.au") (bound.Name (codes "plus")) bound.Open ∷ [])
    ≡ false ∷ false ∷ false ∷ true ∷ true ∷ true ∷ true ∷ true ∷ true ∷ true ∷ []
unfolding variables look_up leading_number value_from
signs = refl

-- two members
counts :
    answers (
    guard.Counts (codes "rft.au") (bound.Digits (codes "2")) (bound.Digits (codes "2"))
    ∷ guard.Counts (codes "rft.au") (bound.Digits (codes "3")) bound.Open ∷ guard.Counts (codes "rft.au") bound.Open (bound.Digits (codes "1"))
    ∷ guard.Counts (codes "rft.au") (bound.Digits (codes "1")) (bound.Digits (codes "3")) ∷ guard.Counts (codes "rft.au") bound.Open bound.Open
    ∷ guard.Counts (codes "rft.au") (bound.Name (codes "two")) (bound.Name (codes "two")) ∷ guard.Counts (codes "rft.au") (bound.Name (codes "x")) bound.Open
    ∷ guard.Counts (codes "rft.au") (bound.Name (codes "word")) (bound.Name (codes "missing")) ∷ [])
    ≡ true ∷ false ∷ false ∷ true ∷ true ∷ true ∷ false ∷ true ∷ []
unfolding variables look_up leading_number value_from
counts = refl

-- a list that is undefined has no members
counts_nothing :
    answers (
    guard.Counts (codes "missing") (bound.Digits (codes "0")) (bound.Digits (codes "0")) ∷ guard.Counts (codes "missing") (bound.Digits (codes "1")) bound.Open
    ∷ guard.Counts (codes "missing") bound.Open bound.Open ∷ guard.Counts (codes "rft_id") bound.Open (bound.Digits (codes "0"))
    ∷ guard.Counts (codes "by") (bound.Digits (codes "1")) bound.Open ∷ guard.Counts (codes "by") (bound.Digits (codes "0")) (bound.Digits (codes "0"))
    ∷ guard.Counts (codes "other") (bound.Digits (codes "1")) bound.Open ∷ [])
    ≡ true ∷ false ∷ true ∷ true ∷ false ∷ true ∷ false ∷ []
unfolding variables look_up leading_number value_from
counts_nothing = refl

-- ---- kinds

-- the guards of one name, `by` as a list and `x` as a text
abbrev of_one_name : Text → List Bool
of_one_name name =
    map (guard_fits declared) (
    guard.Has name ∷ guard.Lacks name ∷ guard.Given name ∷ guard.Same name [] ∷ guard.Holds name []
    ∷ guard.Between name bound.Open bound.Open ∷ guard.Counts name bound.Open bound.Open ∷ [])

text_fits : of_one_name (codes "x") ≡ true ∷ true ∷ true ∷ true ∷ false ∷ true ∷ false ∷ []
text_fits = refl

list_fits : of_one_name (codes "by") ≡ true ∷ true ∷ false ∷ false ∷ true ∷ false ∷ true ∷ []
list_fits = refl

authors_fit : of_one_name (codes "rft.au") ≡ of_one_name (codes "by")
authors_fit = refl

identifiers_fit : of_one_name (codes "rft_id") ≡ of_one_name (codes "by")
identifiers_fit = refl

bounds_fit :
    map (guard_fits declared) (
    guard.Between (codes "x") (bound.Name (codes "y")) (bound.Digits (codes "1")) ∷ guard.Between (codes "x") (bound.Name (codes "by")) bound.Open
    ∷ guard.Between (codes "x") bound.Open (bound.Name (codes "rft_id")) ∷ guard.Counts (codes "by") (bound.Digits (codes "1")) (bound.Name (codes "y"))
    ∷ guard.Counts (codes "by") (bound.Name (codes "by")) bound.Open ∷ guard.Counts (codes "by") bound.Open (bound.Name (codes "rft.au")) ∷ [])
    ≡ true ∷ false ∷ false ∷ true ∷ false ∷ false ∷ []
bounds_fit = refl

abbrev spec_of : Text → ℕ → Bool → Spec
spec_of name cut explode = record { name = name; cut = cut; explode = explode }

-- a prefix fits only texts, in any part and at any place; an explode fits both
prefixes_fit :
    map (parts_fit declared) (
    (Literal (codes "by") ∷ Expression operator.Simple (spec_of (codes "by") 0 true ∷ spec_of (codes "x") 3 false ∷ []) ∷ [])
    ∷ (Expression operator.Simple (spec_of (codes "x") 0 true ∷ spec_of (codes "y") 9999 false ∷ []) ∷ [])
    ∷ (Expression operator.Simple (spec_of (codes "by") 1 false ∷ []) ∷ [])
    ∷ (Literal (codes "a") ∷ Expression operator.Plus (spec_of (codes "x") 0 false ∷ spec_of (codes "rft.au") 9999 false ∷ []) ∷ []) ∷ [])
    ≡ true ∷ true ∷ false ∷ false ∷ []
prefixes_fit = refl
