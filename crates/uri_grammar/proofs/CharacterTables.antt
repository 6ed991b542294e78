-- Which characters are literals, and which may be in names: tables of RFC 6570 (sections 1.5, 2.1, 2.2, 2.3 and 2.4), written out here and compared by the
-- checker with what the definitions say about every ASCII character and both ends of each range beyond ASCII. The apostrophe is a literal, as the erratum of
-- section 2.1 says.
use Rattle.std.proofs.Common.{◌≡◌, ℕ, List, [], ◌∷◌, ◌++◌, Bool, true, false, not, ◌&&◌, ◌==◌, refl, codes}
use Rattle.std.specs.List.{filter, range_with_len, list_all, list_any}
use Rattle.uri_grammar.specs.Literals.{is_literal_character}
use Rattle.uri_grammar.specs.Private.Lengths.{literal_item_len, varchar_len, next_len}
use Rattle.uri_grammar.specs.Names.{is_name_character}
use Rattle.uri_grammar.specs.Expressions.{begins_with_operator, begins_with_reserved}
use Rattle.uri_grammar.specs.Faults.{begins_with_modifier}

abbrev ascii : List ℕ
ascii = range_with_len 0 128

-- ---- ranges beyond ASCII (section 1.5: ucschar and iprivate)

-- the first and the last of each range
abbrev ends_of_ranges : List ℕ
ends_of_ranges =
    0xA0 ∷ 0xD7FF ∷ 0xE000 ∷ 0xF8FF ∷ 0xF900 ∷ 0xFDCF ∷ 0xFDF0 ∷ 0xFFEF
    ∷ 0x10000 ∷ 0x1FFFD ∷ 0x20000 ∷ 0x2FFFD ∷ 0x30000 ∷ 0x3FFFD ∷ 0x40000 ∷ 0x4FFFD ∷ 0x50000 ∷ 0x5FFFD
    ∷ 0x60000 ∷ 0x6FFFD ∷ 0x70000 ∷ 0x7FFFD ∷ 0x80000 ∷ 0x8FFFD ∷ 0x90000 ∷ 0x9FFFD ∷ 0xA0000 ∷ 0xAFFFD
    ∷ 0xB0000 ∷ 0xBFFFD ∷ 0xC0000 ∷ 0xCFFFD ∷ 0xD0000 ∷ 0xDFFFD ∷ 0xE1000 ∷ 0xEFFFD ∷ 0xF0000 ∷ 0xFFFFD
    ∷ 0x100000 ∷ 0x10FFFD ∷ []

-- the characters directly before and directly after the ranges
abbrev beside_ranges : List ℕ
beside_ranges =
    0x80 ∷ 0x9F ∷ 0xFDD0 ∷ 0xFDEF ∷ 0xFFF0 ∷ 0xFFFF
    ∷ 0x1FFFE ∷ 0x1FFFF ∷ 0x2FFFE ∷ 0x2FFFF ∷ 0x3FFFE ∷ 0x3FFFF ∷ 0x4FFFE ∷ 0x4FFFF ∷ 0x5FFFE ∷ 0x5FFFF
    ∷ 0x6FFFE ∷ 0x6FFFF ∷ 0x7FFFE ∷ 0x7FFFF ∷ 0x8FFFE ∷ 0x8FFFF ∷ 0x9FFFE ∷ 0x9FFFF ∷ 0xAFFFE ∷ 0xAFFFF
    ∷ 0xBFFFE ∷ 0xBFFFF ∷ 0xCFFFE ∷ 0xCFFFF ∷ 0xDFFFE ∷ 0xDFFFF ∷ 0xE0000 ∷ 0xE0FFF ∷ 0xEFFFE ∷ 0xEFFFF
    ∷ 0xFFFFE ∷ 0xFFFFF ∷ 0x10FFFE ∷ 0x10FFFF ∷ []

-- ---- literals (section 2.1)

-- the character by itself is a literal
abbrev is_literal : ℕ → Bool
is_literal c = literal_item_len (c ∷ []) == 1

-- no literal begins with the character, whatever follows
abbrev is_no_literal : ℕ → Bool
is_no_literal c = literal_item_len (c ∷ []) == 0 && literal_item_len (c ∷ codes "aa") == 0

-- all of ASCII except controls, space, DEL and "%<>\^`{|}
ascii_literals : filter is_literal ascii ≡ codes "!#$&'()*+,-./0123456789:;=?@ABCDEFGHIJKLMNOPQRSTUVWXYZ[]_abcdefghijklmnopqrstuvwxyz~"
unfolding is_literal_character
ascii_literals = refl

ascii_no_literals : filter is_no_literal ascii ≡ range_with_len 0 33 ++ codes "\"<>\\^`{|}" ++ 127 ∷ []
unfolding is_literal_character
ascii_no_literals = refl

ranges_are_literals : list_all is_literal ends_of_ranges ≡ true
unfolding is_literal_character
ranges_are_literals = refl

no_literals_beside : list_all is_no_literal beside_ranges ≡ true
unfolding is_literal_character
no_literals_beside = refl

-- `%` is a literal only with two hexadecimal digits after it
first_digits : filter (λ c. literal_item_len (37 ∷ c ∷ codes "0") == 3) ascii ≡ codes "0123456789ABCDEFabcdef"
unfolding is_literal_character
first_digits = refl

second_digits : filter (λ c. literal_item_len (37 ∷ 48 ∷ c ∷ []) == 3) ascii ≡ codes "0123456789ABCDEFabcdef"
unfolding is_literal_character
second_digits = refl

lone_percents : list_all (λ cs. literal_item_len cs == 0) (codes "%" ∷ codes "%4" ∷ codes "%4g" ∷ codes "%%41" ∷ []) ≡ true
unfolding is_literal_character
lone_percents = refl

-- ---- names (section 2.3)

-- ALPHA, DIGIT and `_` begin a name
ascii_names : filter (λ c. varchar_len (c ∷ codes "aa") == 1) ascii ≡ codes "0123456789ABCDEFGHIJKLMNOPQRSTUVWXYZ_abcdefghijklmnopqrstuvwxyz"
ascii_names = refl

-- so does a complete triplet, and nothing else
other_begins : filter (λ c. not (varchar_len (c ∷ codes "aa") == 0) && not (is_name_character c)) ascii ≡ codes "%"
other_begins = refl

first_digits_in_names : filter (λ c. varchar_len (37 ∷ c ∷ codes "0") == 3) ascii ≡ codes "0123456789ABCDEFabcdef"
first_digits_in_names = refl

second_digits_in_names : filter (λ c. varchar_len (37 ∷ 48 ∷ c ∷ []) == 3) ascii ≡ codes "0123456789ABCDEFabcdef"
second_digits_in_names = refl

-- a name continues with what can begin a name, also after a dot
names_go_on : filter (λ c. not (next_len (c ∷ codes "aa") == 0)) ascii ≡ codes "%.0123456789ABCDEFGHIJKLMNOPQRSTUVWXYZ_abcdefghijklmnopqrstuvwxyz"
names_go_on = refl

names_continue_after_a_dot : filter (λ c. not (next_len (46 ∷ c ∷ codes "aa") == 0)) ascii
    ≡ codes "%0123456789ABCDEFGHIJKLMNOPQRSTUVWXYZ_abcdefghijklmnopqrstuvwxyz"
names_continue_after_a_dot = refl

-- no name has a character beyond ASCII
no_names_past_ascii : list_any (λ c. not (varchar_len (c ∷ codes "aa") == 0 && next_len (c ∷ codes "aa") == 0)) (ends_of_ranges ++ beside_ranges) ≡ false
no_names_past_ascii = refl

-- ---- other first characters

-- op-level2 and op-level3 (section 2.2)
operators : filter (λ c. begins_with_operator (c ∷ codes "a")) ascii ≡ codes "#&+./;?"
operators = refl

-- op-reserve (section 2.2)
reserved_operators : filter (λ c. begins_with_reserved (c ∷ codes "a")) ascii ≡ codes "!,=@|"
reserved_operators = refl

-- a prefix and an explode (section 2.4)
modifiers : filter (λ c. begins_with_modifier (c ∷ codes "1")) ascii ≡ codes "*:"
modifiers = refl
