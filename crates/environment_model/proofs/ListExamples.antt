-- Which names are names of lists, and what rules with these names see of an environment.
use Rattle.std.proofs.Common.{◌≡◌, List, [], ◌∷◌, Option, Some, None, true, false, refl}
use Rattle.std.specs.Prelude.{codes, map}
use Rattle.environment_model.specs.Environment.{Meaning, Single, Several, LookUp, is_among, only_text, only_list, view}
use Rattle.environment_model.specs.Lists.{list_names, is_list}

-- ---- names

-- the two keys that may occur more than once; the other keys of a journal article or a book are texts
standard_names : map (is_list []) (codes "rft.au" ∷ codes "rft_id" ∷ codes "rft.aulast" ∷ codes "rft.a" ∷ codes "rft.id" ∷ codes "rfr_id" ∷ codes
    "rft.issn" ∷ codes "rft.genre" ∷ codes "RFT.AU" ∷ codes "rft_ID" ∷ [] ∷ [])
    ≡ true ∷ true ∷ false ∷ false ∷ false ∷ false ∷ false ∷ false ∷ false ∷ false ∷ false ∷ []
standard_names = refl

-- names that are declared come after the two, in their order, and as many times as they are declared
declared_names : list_names (codes "note" ∷ codes "rft_id" ∷ codes "note" ∷ []) ≡ codes "rft.au" ∷ codes "rft_id" ∷ codes "note" ∷ codes "rft_id" ∷ codes
    "note" ∷ []
declared_names = refl

no_declared_names : list_names [] ≡ codes "rft.au" ∷ codes "rft_id" ∷ []
no_declared_names = refl

declared_lists : map (is_list (codes "note" ∷ codes "tag" ∷ [])) (codes "note" ∷ codes "tag" ∷ codes "rft.au" ∷ codes "rft_id" ∷ codes "notes" ∷ codes
    "Note" ∷ codes "x" ∷ [])
    ≡ true ∷ true ∷ true ∷ true ∷ false ∷ false ∷ false ∷ []
declared_lists = refl

among : map (λ name. is_among name (codes "ab" ∷ codes "c" ∷ [])) (codes "ab" ∷ codes "c" ∷ codes "a" ∷ codes "abc" ∷ codes "AB" ∷ [] ∷ [])
    ≡ true ∷ true ∷ false ∷ false ∷ false ∷ false ∷ []
among = refl

among_none : is_among (codes "a") [] ≡ false
among_none = refl

-- ---- what rules see

abbrev meanings : List (Option Meaning)
meanings = None ∷ Some (Single (codes "x")) ∷ Some (Single []) ∷ Some (Several (codes "p" ∷ codes "q" ∷ [])) ∷ Some (Several []) ∷ []

texts_seen : map only_text meanings ≡ None ∷ Some (Single (codes "x")) ∷ Some (Single []) ∷ None ∷ None ∷ []
texts_seen = refl

lists_seen : map only_list meanings ≡ None ∷ None ∷ None ∷ Some (Several (codes "p" ∷ codes "q" ∷ [])) ∷ Some (Several []) ∷ []
lists_seen = refl

-- each name is bound to a text, or each to a list, or none is defined
abbrev a_text : LookUp
a_text name = Some (Single (codes "x"))

abbrev a_list : LookUp
a_list name = Some (Several (codes "x" ∷ []))

abbrev nothing : LookUp
nothing name = None

abbrev seen : LookUp → List (Option Meaning)
seen look = map (view (codes "l" ∷ codes "m" ∷ []) look) (codes "l" ∷ codes "m" ∷ codes "x" ∷ codes "L" ∷ [])

-- a text under the name of a list is undefined, and so is a list under the name of a text
texts_in_view : seen a_text ≡ None ∷ None ∷ Some (Single (codes "x")) ∷ Some (Single (codes "x")) ∷ []
texts_in_view = refl

lists_in_view : seen a_list ≡ Some (Several (codes "x" ∷ [])) ∷ Some (Several (codes "x" ∷ [])) ∷ None ∷ None ∷ []
lists_in_view = refl

nothing_in_view : seen nothing ≡ None ∷ None ∷ None ∷ None ∷ []
nothing_in_view = refl
