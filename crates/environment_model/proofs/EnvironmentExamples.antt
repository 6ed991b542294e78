-- Small environments: how they grow, what their names are bound to, and how large they are.
use Rattle.std.proofs.Common.{◌≡◌, List, [], ◌∷◌, Some, None, true, false, refl}
use Rattle.std.specs.Prelude.{codes, map}
use Rattle.text_model.specs.Texts.{Text}
use Rattle.environment_model.specs.Environment.{Meaning, Single, Several, Entry, Environment, look_up, is_there, text_of, members_of, meaning_bytes}
use Rattle.environment_model.specs.Environment.{meaning_members, byte_count, member_count, with_text, more, with_member}

abbrev a_text : Text → Text → Entry
a_text name t = record { name = name; meaning = Single t }

abbrev a_list : Text → List Text → Entry
a_list name ts = record { name = name; meaning = Several ts }

-- ---- texts and members that are added

-- a name keeps its first text, and gets no member
first_text_stays : with_member (with_member (with_text (with_text [] (codes "a") (codes "x")) (codes "a") (codes "y")) (codes "a") (codes "z")) (codes "b")
    (codes "q")
    ≡ a_text (codes "a") (codes "x") ∷ a_list (codes "b") (codes "q" ∷ []) ∷ []
unfolding look_up with_member
first_text_stays = refl

-- a list keeps its place, and its members are in the order in which they were added; a text does not replace it
list_grows : with_text
    (with_member (with_member (with_text (with_member (with_text [] (codes "a") (codes "x")) (codes "l") (codes "p")) (codes "b") (codes "y")) (codes "m")
    (codes "r")) (codes "l") (codes "q")) (codes "l") (codes "z")
    ≡ a_text (codes "a") (codes "x") ∷ a_list (codes "l") (codes "p" ∷ codes "q" ∷ []) ∷ a_text (codes "b") (codes "y") ∷ a_list (codes "m")
    (codes "r" ∷ []) ∷ []
unfolding look_up with_member
list_grows = refl

-- equal members are all kept, and so is an empty text, which defines its name
doubles_and_empty_texts : with_text (with_text (with_member (with_member (with_member [] (codes "l") (codes "p")) (codes "l") []) (codes "l") (codes "p"))
    (codes "e") []) (codes "e") (codes "x")
    ≡ a_list (codes "l") (codes "p" ∷ [] ∷ codes "p" ∷ []) ∷ a_text (codes "e") [] ∷ []
unfolding look_up with_member
doubles_and_empty_texts = refl

-- names are compared byte for byte: no case, no part of a name, nothing around it
names_that_differ : with_member (with_text (with_text (with_text (with_text [] (codes "ab") (codes "1")) (codes "AB") (codes "2")) (codes "a") (codes "3"))
    (codes "abc") (codes "4")) (codes "ab ") (codes "5")
    ≡ a_text (codes "ab") (codes "1") ∷ a_text (codes "AB") (codes "2") ∷ a_text (codes "a") (codes "3") ∷ a_text (codes "abc") (codes "4") ∷ a_list
    (codes "ab ") (codes "5" ∷ []) ∷ []
unfolding look_up with_member
names_that_differ = refl

members_added : map (λ m. more m (codes "z")) (Single (codes "x") ∷ Single [] ∷ Several [] ∷ Several (codes "p" ∷ codes "q" ∷ []) ∷ [])
    ≡ Single (codes "x") ∷ Single [] ∷ Several (codes "z" ∷ []) ∷ Several (codes "p" ∷ codes "q" ∷ codes "z" ∷ []) ∷ []
members_added = refl

-- ---- look-ups

-- a text, a list, an empty text and a list without members; the last two entries have names that came before
abbrev variables : Environment
variables =
    a_text (codes "x") (codes "one")
    ∷ a_list (codes "l") (codes "red" ∷ codes "blue" ∷ [])
    ∷ a_text (codes "empty") []
    ∷ a_list (codes "none") []
    ∷ a_list (codes "x") (codes "late" ∷ [])
    ∷ a_text (codes "l") (codes "later")
    ∷ []

-- names that are defined, and names that are not
abbrev names : List Text
names = codes "x" ∷ codes "l" ∷ codes "empty" ∷ codes "none" ∷ codes "X" ∷ codes "xx" ∷ codes "emp" ∷ [] ∷ []

meanings : map (look_up variables) names
    ≡ Some (Single (codes "one")) ∷ Some (Several (codes "red" ∷ codes "blue" ∷ [])) ∷ Some (Single []) ∷ Some (Several []) ∷ None ∷ None ∷ None ∷ None ∷ []
unfolding look_up
meanings = refl

defined : map (is_there variables) names ≡ true ∷ true ∷ true ∷ true ∷ false ∷ false ∷ false ∷ false ∷ []
unfolding look_up
defined = refl

-- a list has no text
texts : map (text_of variables) names ≡ Some (codes "one") ∷ None ∷ Some [] ∷ None ∷ None ∷ None ∷ None ∷ None ∷ []
unfolding look_up
texts = refl

-- a text has no members
members : map (members_of variables) names ≡ [] ∷ (codes "red" ∷ codes "blue" ∷ []) ∷ [] ∷ [] ∷ [] ∷ [] ∷ [] ∷ [] ∷ []
unfolding look_up
members = refl

-- ---- M and E

abbrev meanings_to_count : List Meaning
meanings_to_count = Single [] ∷ Single (codes "abc") ∷ Single (0xC3 ∷ 0xA9 ∷ []) ∷ Several [] ∷ Several ([] ∷ []) ∷ Several
    (codes "ab" ∷ [] ∷ codes "c" ∷ []) ∷ []

-- bytes, not characters
bytes_of_meanings : map meaning_bytes meanings_to_count ≡ 0 ∷ 3 ∷ 2 ∷ 0 ∷ 0 ∷ 3 ∷ []
bytes_of_meanings = refl

-- an empty member counts, and a text does not
members_of_meanings : map meaning_members meanings_to_count ≡ 0 ∷ 0 ∷ 0 ∷ 0 ∷ 1 ∷ 3 ∷ []
members_of_meanings = refl

abbrev environments : List Environment
environments =
    []
    ∷ (a_text (codes "a") (codes "x") ∷ a_list (codes "b") (codes "q" ∷ []) ∷ [])
    ∷ (a_text (codes "a long name") [] ∷ [])
    ∷ (a_list (codes "l") (codes "red" ∷ codes "green" ∷ []) ∷ a_text (codes "x") (codes "12") ∷ a_list (codes "m") (codes "blue" ∷ []) ∷ [])
    ∷ []

-- names do not count
bytes : map byte_count environments ≡ 0 ∷ 2 ∷ 0 ∷ 14 ∷ []
bytes = refl

members_counted : map member_count environments ≡ 0 ∷ 1 ∷ 0 ∷ 3 ∷ []
members_counted = refl
