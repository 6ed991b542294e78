-- Which texts are equal for DIFFER, and which numbers LESS compares: runs over pairs of texts.
use Rattle.std.proofs.Common.{◌≡◌, List, [], ◌∷◌, refl}
use Rattle.std.specs.Prelude.{codes, map}
use Rattle.text_model.specs.Texts.{Text, is_unreserved}
use Rattle.text_model.specs.Writing.{written_u}
use Rattle.text_model.specs.Number.{leading_number, value_from}
use Rattle.code_model.specs.Code.{Code, reading}
use Rattle.environment_model.specs.Environment.{look_up}
use Rattle.code_model.specs.declared.code.Instruction.TheVariants as instruction
use Rattle.machine_model.specs.Operands.{has_right_operands}
use Rattle.machine_model.specs.Runs.{Outcome, Link, NoLink}
use Rattle.machine_model.specs.Next.{course, course_from, course_of, outcome_of}
use Rattle.machine_model.proofs.Listings.{code, compared_text, element_written, colours}

record Pair : Type 0 where
  first : Text
  second : Text

abbrev pair : Text → Text → Pair
pair t u = record { first = t; second = u }

-- the empty link if the two texts differ, and no link if they are equal
abbrev comparing : Pair → Code
comparing x =
    code [] (compared_text x.first ∷ compared_text x.second ∷ [])
    (instruction.Const 0 0
    ∷ instruction.Const 1 1
    ∷ instruction.Differ 0 1 4
    ∷ instruction.Fail
    ∷ instruction.Halt
    ∷ [])

-- by case, by length, by a space, by a digit, and by the form of `é`: one character, or `e` and an accent
abbrev different : List Pair
different =
    pair (codes "a") (codes "A")
    ∷ pair (codes "A") (codes "a")
    ∷ pair (codes "a") (codes "ab")
    ∷ pair (codes "ab") (codes "a")
    ∷ pair [] (codes "a")
    ∷ pair (codes "a") []
    ∷ pair (codes "ab") (codes "ba")
    ∷ pair (codes "a ") (codes "a")
    ∷ pair (codes "7") (codes "07")
    ∷ pair (codes "%41") (codes "A")
    ∷ pair (0xC3 ∷ 0xA9 ∷ []) (0x65 ∷ 0xCC ∷ 0x81 ∷ [])
    ∷ []

different_texts : map (λ x. course_of (comparing x) []) different ≡ map (λ x. course 4 (Link [])) different
unfolding course_from reading has_right_operands
different_texts = refl

abbrev equal : List Pair
equal = pair [] [] ∷ pair (codes "a") (codes "a") ∷ pair (codes "1234-567X") (codes "1234-567X") ∷ pair (0xC3 ∷ 0xA9 ∷ []) (0xC3 ∷ 0xA9 ∷ []) ∷ []

equal_texts : map (λ x. course_of (comparing x) []) equal ≡ map (λ x. course 4 NoLink) equal
unfolding course_from reading has_right_operands
equal_texts = refl

-- ---- numbers

-- `b` if the first number is below the second, `n` if it is not, and `-` if a text has no number
abbrev ordering : Pair → Code
ordering x =
    code [] (compared_text x.first ∷ compared_text x.second ∷ compared_text (codes "b") ∷ compared_text (codes "n") ∷ compared_text (codes "-") ∷ [])
    (instruction.Const 0 0
    ∷ instruction.Const 1 1
    ∷ instruction.Number 2 0 9
    ∷ instruction.Number 3 1 9
    ∷ instruction.Const 4 2
    ∷ instruction.Less 2 3 7
    ∷ instruction.Const 4 3
    ∷ instruction.Put 4 0
    ∷ instruction.Halt
    ∷ instruction.Const 4 4
    ∷ instruction.Put 4 0
    ∷ instruction.Halt
    ∷ [])

abbrev outcomes : List Pair → List Outcome
outcomes pairs = map (λ x. outcome_of (ordering x) []) pairs

-- by value and not by bytes or by length: 9 is below 10, and 007 is not below 7
below : outcomes (pair (codes "9") (codes "10") ∷ pair (codes "007") (codes "08") ∷ pair (codes "0") (codes "1x") ∷ [])
    ≡ Link (codes "b") ∷ Link (codes "b") ∷ Link (codes "b") ∷ []
unfolding course_from reading has_right_operands is_unreserved written_u leading_number value_from
below = refl

not_below : outcomes (pair (codes "10") (codes "9") ∷ pair (codes "007") (codes "7") ∷ pair (codes "7") (codes "007") ∷ pair (codes "12a") (codes "12b") ∷ [])
    ≡ Link (codes "n") ∷ Link (codes "n") ∷ Link (codes "n") ∷ Link (codes "n") ∷ []
unfolding course_from reading has_right_operands is_unreserved written_u leading_number value_from
not_below = refl

-- a sign or a space before the digits is not part of a number
no_number : outcomes (pair (codes "+5") (codes "7") ∷ pair (codes "-5") (codes "7") ∷ pair (codes " 5") (codes "7") ∷ pair (codes "7") (codes "+9") ∷ [])
    ≡ Link (codes "-") ∷ Link (codes "-") ∷ Link (codes "-") ∷ Link (codes "-") ∷ []
unfolding course_from reading has_right_operands is_unreserved written_u leading_number value_from
no_number = refl

-- ---- a loop that loads a text into the register of its element

-- each turn prints the text, whatever the member
over_three_members : course_of element_written colours ≡ course 12 (Link (codes "abcabcabc"))
unfolding course_from reading has_right_operands look_up is_unreserved written_u
over_three_members = refl
