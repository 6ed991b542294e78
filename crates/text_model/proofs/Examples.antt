-- The definitions computed: what RFC 3986 (sections 2.1 to 2.3), RFC 6570 (sections 1.5, 2.4.1 and 3.2.1) and the grammar of numbers say about these texts is
-- written out here, and the checker compares.
use Rattle.std.proofs.Common.{◌≡◌, ℕ, List, [], ◌∷◌, ◌++◌, Some, None, refl, codes}
use Rattle.std.specs.Prelude.{map, is_some}
use Rattle.std.specs.List.{filter, range_with_len}
use Rattle.text_model.specs.Texts.{is_unreserved, is_reserved, is_hexadecimal, begins_with_triplet}
use Rattle.text_model.specs.Writing.{triplet_of, written_u, written_ur, written}
use Rattle.text_model.specs.Cut.{is_continuation, code_points, with_triplets, items, cut}
use Rattle.text_model.specs.Number.{value_from, leading_number}
use Rattle.text_model.specs.declared.writing.Writing.TheVariants.{U, UR}

-- ---- which bytes

abbrev all_bytes : List ℕ
all_bytes = range_with_len 0 256

unreserved : filter is_unreserved all_bytes ≡ codes "-.0123456789ABCDEFGHIJKLMNOPQRSTUVWXYZ_abcdefghijklmnopqrstuvwxyz~"
unfolding is_unreserved
unreserved = refl

reserved : filter is_reserved all_bytes ≡ codes "!#$&'()*+,/:;=?@[]"
unfolding is_reserved
reserved = refl

hexadecimal : filter is_hexadecimal all_bytes ≡ codes "0123456789ABCDEFabcdef"
hexadecimal = refl

-- 10xxxxxx in bits
continuation : filter is_continuation all_bytes ≡ range_with_len 0x80 64
continuation = refl

-- only at the beginning, and only a whole one
triplet_at_the_front : filter begins_with_triplet (codes "%41" ∷ codes "%fFx" ∷ codes "%4" ∷ codes "%" ∷ codes "" ∷ codes "%4g" ∷ codes "%g4" ∷ codes
    "a41" ∷ codes "x%41" ∷ [])
    ≡ codes "%41" ∷ codes "%fFx" ∷ []
triplet_at_the_front = refl

-- ---- writing

triplets : map triplet_of (0 ∷ 10 ∷ 32 ∷ 37 ∷ 127 ∷ 160 ∷ 255 ∷ []) ≡ codes "%00" ∷ codes "%0A" ∷ codes "%20" ∷ codes "%25" ∷ codes "%7F" ∷ codes "%A0" ∷ codes
    "%FF" ∷ []
triplets = refl

by_u : map (written U) (codes "" ∷ codes "Hello World!" ∷ codes "/foo/bar" ∷ codes "50%" ∷ codes "%41" ∷ codes "a-b._~" ∷ (0xC3 ∷ 0xA9 ∷ []) ∷ [])
    ≡ codes "" ∷ codes "Hello%20World%21" ∷ codes "%2Ffoo%2Fbar" ∷ codes "50%25" ∷ codes "%2541" ∷ codes "a-b._~" ∷ codes "%C3%A9" ∷ []
unfolding is_unreserved written_u
by_u = refl

by_ur : map (written UR) (codes "" ∷ codes "Hello World!" ∷ codes "/foo/bar" ∷ codes "50%" ∷ codes "%4" ∷ codes "%4g" ∷ codes "{|}^" ∷ (0xC3 ∷ 0xA9 ∷ []) ∷ [])
    ≡ codes "" ∷ codes "Hello%20World!" ∷ codes "/foo/bar" ∷ codes "50%25" ∷ codes "%254" ∷ codes "%254g" ∷ codes "%7B%7C%7D%5E" ∷ codes "%C3%A9" ∷ []
unfolding is_unreserved is_reserved written_ur
by_ur = refl

-- a whole triplet stays as it is, even with lower-case digits
triplets_stay : map (written UR) (codes "%41%4" ∷ codes "%c3%A9" ∷ codes "%%41" ∷ codes "%4%41" ∷ [])
    ≡ codes "%41%254" ∷ codes "%c3%A9" ∷ codes "%25%41" ∷ codes "%254%41" ∷ []
unfolding is_unreserved is_reserved written_ur
triplets_stay = refl

-- the last one or two bytes of a text, by themselves and after a triplet
last_bytes : map (written UR) (codes "!" ∷ codes "%" ∷ codes " " ∷ codes "a!" ∷ codes "!%" ∷ codes "%41!" ∷ codes "%41%" ∷ codes "%41!/" ∷ codes "%41% " ∷ [])
    ≡ codes "!" ∷ codes "%25" ∷ codes "%20" ∷ codes "a!" ∷ codes "!%25" ∷ codes "%41!" ∷ codes "%41%25" ∷ codes "%41!/" ∷ codes "%41%25%20" ∷ []
unfolding is_unreserved is_reserved written_ur
last_bytes = refl

-- ---- items and cuts

-- é€𝄞 are two, three and four bytes of UTF-8
points : items U (codes "a" ++ 0xC3 ∷ 0xA9 ∷ 0xE2 ∷ 0x82 ∷ 0xAC ∷ 0xF0 ∷ 0x9D ∷ 0x84 ∷ 0x9E ∷ codes "b")
    ≡ codes "a" ∷ (0xC3 ∷ 0xA9 ∷ []) ∷ (0xE2 ∷ 0x82 ∷ 0xAC ∷ []) ∷ (0xF0 ∷ 0x9D ∷ 0x84 ∷ 0x9E ∷ []) ∷ codes "b" ∷ []
unfolding code_points
points = refl

points_of_triplets : items U (codes "%4%41") ≡ codes "%" ∷ codes "4" ∷ codes "%" ∷ codes "4" ∷ codes "1" ∷ []
unfolding code_points
points_of_triplets = refl

whole_triplets : map (items UR) (codes "%4%41" ∷ codes "%41%c2x" ∷ codes "%%41" ∷ codes "%4" ∷ [])
    ≡ (codes "%" ∷ codes "4" ∷ codes "%41" ∷ []) ∷ (codes "%41" ∷ codes "%c2" ∷ codes "x" ∷ []) ∷ (codes "%" ∷ codes "%41" ∷ [])
    ∷ (codes "%" ∷ codes "4" ∷ []) ∷ []
unfolding code_points with_triplets
whole_triplets = refl

cuts_by_points : map (cut U (codes "%41%42")) (0 ∷ 1 ∷ 4 ∷ 6 ∷ 7 ∷ []) ≡ [] ∷ codes "%" ∷ codes "%41%" ∷ codes "%41%42" ∷ codes "%41%42" ∷ []
unfolding code_points
cuts_by_points = refl

cuts_by_triplets : map (cut UR (codes "%41%42x")) (0 ∷ 1 ∷ 2 ∷ 3 ∷ 4 ∷ []) ≡ [] ∷ codes "%41" ∷ codes "%41%42" ∷ codes "%41%42x" ∷ codes "%41%42x" ∷ []
unfolding code_points with_triplets
cuts_by_triplets = refl

-- ---- leading numbers

numbers : map leading_number (codes "0" ∷ codes "12(3)" ∷ codes "007x" ∷ codes "999999999" ∷ codes "123456789a" ∷ [])
    ≡ Some 0 ∷ Some 12 ∷ Some 7 ∷ Some 999999999 ∷ Some 123456789 ∷ []
unfolding value_from leading_number
numbers = refl

-- no digit, a sign or a space before the digits, and ten digits
no_numbers : map leading_number (codes "" ∷ codes "a1" ∷ codes "+5" ∷ codes "-5" ∷ codes " 5" ∷ codes "1234567890" ∷ codes "0000000001a" ∷ [])
    ≡ None ∷ None ∷ None ∷ None ∷ None ∷ None ∷ None ∷ []
unfolding value_from leading_number
no_numbers = refl

-- only a digit begins a number, whatever follows it
first_bytes : filter (λ b. is_some (leading_number (b ∷ codes "5"))) all_bytes ≡ codes "0123456789"
unfolding value_from leading_number
first_bytes = refl

-- a number ends before the first byte that is not a digit: a letter, a sign, a point, a space
last_digits : map leading_number (codes "1e3" ∷ codes "0x10" ∷ codes "12-15" ∷ codes "3.9" ∷ codes "4 5" ∷ codes "1,000" ∷ [])
    ≡ Some 1 ∷ Some 0 ∷ Some 12 ∷ Some 3 ∷ Some 4 ∷ Some 1 ∷ []
unfolding value_from leading_number
last_digits = refl
