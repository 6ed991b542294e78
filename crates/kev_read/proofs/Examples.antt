-- The definitions computed: the results for small queries are written out here, and the checker compares.
use Rattle.std.proofs.Common.{◌≡◌, ℕ, Bool, true, false, List, [], ◌∷◌, ◌++◌, Some, None, refl, codes, bytes_eq}
use Rattle.std.specs.Prelude.{map, filter, not}
use Rattle.std.specs.List.{range_with_len, repeat}
use Rattle.text_model.specs.Texts.{Text}
use Rattle.text_model.specs.Writing.{triplet_of}
use Rattle.kev_read.proofs.OnLiterals.{kev_read_on_literals}
use Rattle.kev_read.specs.Pairs.{KeyValue, pairs_of, decoded, all_of, first_of, value_bytes}
use Rattle.kev_read.specs.Refusal.{is_other_version, refusal}
use Rattle.kev_read.specs.declared.error.KevError.TheVariants.{TooLong, TooManyPairs, WrongVersion}

-- ---- pairs

abbrev pair : Text → Text → KeyValue
pair key value = record { key = key; value = value }

pairs_keep_their_order : pairs_of (codes "x=1&y=2&x=3") ≡ pair (codes "x") (codes "1") ∷ pair (codes "y") (codes "2") ∷ pair (codes "x") (codes "3") ∷ []
unfolding kev_read_on_literals
pairs_keep_their_order = refl

empty_pairs_are_none : map pairs_of ([] ∷ codes "&" ∷ codes "&&a=1&&&b=2&" ∷ [])
    ≡ [] ∷ [] ∷ (pair (codes "a") (codes "1") ∷ pair (codes "b") (codes "2") ∷ []) ∷ []
unfolding kev_read_on_literals
empty_pairs_are_none = refl

-- the key, the value or both may be empty
first_equals_sign_parts_key_and_value : pairs_of (codes "a&b=&=c&=&d=e=f")
    ≡ pair (codes "a") [] ∷ pair (codes "b") [] ∷ pair [] (codes "c") ∷ pair [] [] ∷ pair (codes "d") (codes "e=f") ∷ []
unfolding kev_read_on_literals
first_equals_sign_parts_key_and_value = refl

only_ampersands_part_pairs : pairs_of (codes "?a=1;b=2#c") ≡ pair (codes "?a") (codes "1;b=2#c") ∷ []
unfolding kev_read_on_literals
only_ampersands_part_pairs = refl

-- the query is split before it is decoded
keys_and_values_are_decoded : pairs_of (codes "%61+b=c+%2B%26%3D&%3D=%25") ≡ pair (codes "a b") (codes "c +&=") ∷ pair (codes "=") (codes "%") ∷ []
unfolding kev_read_on_literals
keys_and_values_are_decoded = refl

-- ---- texts

-- whether the bytes are not decoded to this text
abbrev decodes_otherwise : List ℕ → Text → Bool
decodes_otherwise bytes text = not (bytes_eq (decoded bytes) text)

-- a `+` is decoded to a space
of_ascii_only_plus_is_no_text : filter (λ b. decodes_otherwise (b ∷ []) (b ∷ [])) (range_with_len 0 128) ≡ codes "+"
unfolding kev_read_on_literals
of_ascii_only_plus_is_no_text = refl

triplets_of_ascii_are_characters : filter (λ b. decodes_otherwise (triplet_of b) (b ∷ [])) (range_with_len 0 128) ≡ []
unfolding kev_read_on_literals
triplets_of_ascii_are_characters = refl

-- U+FFFD, the replacement character
abbrev replaced : Text
replaced = 0xEF ∷ 0xBF ∷ 0xBD ∷ []

lone_bytes_above_ascii_are_replaced : filter (λ b. decodes_otherwise (b ∷ []) replaced) (range_with_len 128 128) ≡ []
unfolding kev_read_on_literals
lone_bytes_above_ascii_are_replaced = refl

bad_triplets_stay : map decoded (codes "%" ∷ codes "%4" ∷ codes "%zz" ∷ codes "%4g" ∷ codes "a%41%" ∷ codes "%%41" ∷ [])
    ≡ codes "%" ∷ codes "%4" ∷ codes "%zz" ∷ codes "%4g" ∷ codes "aA%" ∷ codes "%A" ∷ []
unfolding kev_read_on_literals
bad_triplets_stay = refl

-- a `+` that is written as a triplet stays a `+`
decoded_once : map decoded (codes "a+b" ∷ codes "a%2Bb" ∷ codes "a%2bb" ∷ codes "%2541" ∷ codes "%20" ∷ []) ≡ codes "a b" ∷ codes "a+b" ∷ codes "a+b" ∷ codes
    "%41" ∷ codes " " ∷ []
unfolding kev_read_on_literals
decoded_once = refl

-- é and €, from triplets, from bytes and from both
decoded_as_utf8 : map decoded (codes "%C3%a9" ∷ (0xC3 ∷ 0xA9 ∷ []) ∷ (0xE2 ∷ codes "%82" ++ 0xAC ∷ []) ∷ [])
    ≡ (0xC3 ∷ 0xA9 ∷ []) ∷ (0xC3 ∷ 0xA9 ∷ []) ∷ (0xE2 ∷ 0x82 ∷ 0xAC ∷ []) ∷ []
unfolding kev_read_on_literals
decoded_as_utf8 = refl

-- a character that ends too early is replaced once, and each byte that begins no character is replaced separately
not_utf8_is_replaced : map decoded (codes "%E2%82" ∷ codes "%FF%FE" ∷ codes "a%C3b" ∷ [])
    ≡ replaced ∷ (replaced ++ replaced) ∷ (codes "a" ++ replaced ++ codes "b") ∷ []
unfolding kev_read_on_literals
not_utf8_is_replaced = refl

byte_order_mark_and_nul_stay : map decoded (codes "%EF%BB%BFa" ∷ codes "a%00" ∷ []) ≡ (0xEF ∷ 0xBB ∷ 0xBF ∷ codes "a") ∷ (codes "a" ++ 0 ∷ []) ∷ []
unfolding kev_read_on_literals
byte_order_mark_and_nul_stay = refl

-- ---- the values of a key

abbrev issns : List KeyValue
issns = pairs_of (codes "rft.issn=&x=1&rft%2Eissn=0028-0836&rft.issn=2")

values_keep_their_order : all_of issns (codes "rft.issn") ≡ [] ∷ codes "0028-0836" ∷ codes "2" ∷ []
unfolding kev_read_on_literals
values_keep_their_order = refl

first_value_may_be_empty : map (first_of issns) (codes "rft.issn" ∷ codes "x" ∷ []) ≡ Some [] ∷ Some (codes "1") ∷ []
unfolding kev_read_on_literals
first_value_may_be_empty = refl

other_keys_have_no_value : map (first_of issns) (codes "RFT.ISSN" ∷ codes "rft.iss" ∷ codes "rft.issn2" ∷ codes "issn" ∷ codes " x" ∷ codes "X" ∷ [] ∷ [])
    ≡ None ∷ None ∷ None ∷ None ∷ None ∷ None ∷ None ∷ []
unfolding kev_read_on_literals
other_keys_have_no_value = refl

keys_are_not_counted : value_bytes (pair (codes "abc") (codes "de") ∷ pair [] (codes "f") ∷ pair (codes "abc") [] ∷ []) ≡ 3
keys_are_not_counted = refl

-- ---- why a query is rejected

one_version_is_read : map is_other_version (None ∷ Some (codes "Z39.88-2004") ∷ Some (codes "z39.88-2004") ∷ Some (codes "Z39.88-2005") ∷ Some
    (codes "Z39.88-2004 ") ∷ Some (codes "Z39.88") ∷ Some [] ∷ [])
    ≡ false ∷ false ∷ true ∷ true ∷ true ∷ true ∷ true ∷ []
one_version_is_read = refl

-- a version may be missing, and versions of other things may be any
accepted_versions : map refusal ([] ∷ codes "rft_ver=1" ∷ codes "ver=1&CTX_VER=1&ctx.ver=1&URL_VER=1&rfr_ver=1" ∷ codes "ctx_ver=Z39.88-2004" ∷ codes
    "url_ver=Z39.88-2004&ctx_ver=Z39%2E88%2d2004" ∷ [])
    ≡ None ∷ None ∷ None ∷ None ∷ None ∷ []
unfolding kev_read_on_literals
accepted_versions = refl

small_letter_is_another_version : map refusal (codes "ctx_ver=z39.88-2004" ∷ codes "url_ver=z39.88-2004" ∷ []) ≡ Some WrongVersion ∷ Some WrongVersion ∷ []
unfolding kev_read_on_literals
small_letter_is_another_version = refl

other_versions : map refusal (codes "ctx_ver=1" ∷ codes "url_ver=1" ∷ codes "ctx_ver" ∷ codes "a=1&url_ver=" ∷ codes "ctx_ver=Z39.88-2004+" ∷ [])
    ≡ Some WrongVersion ∷ Some WrongVersion ∷ Some WrongVersion ∷ Some WrongVersion ∷ Some WrongVersion ∷ []
unfolding kev_read_on_literals
other_versions = refl

both_versions_count : map refusal (codes "ctx_ver=Z39.88-2004&url_ver=1" ∷ codes "ctx_ver=1&url_ver=Z39.88-2004" ∷ [])
    ≡ Some WrongVersion ∷ Some WrongVersion ∷ []
unfolding kev_read_on_literals
both_versions_count = refl

first_version_counts : map refusal (codes "ctx_ver=Z39.88-2004&ctx_ver=1" ∷ codes "ctx_ver=1&ctx_ver=Z39.88-2004" ∷ codes
    "url_ver=Z39.88-2004&url_ver=1" ∷ codes "url_ver=1&url_ver=Z39.88-2004" ∷ [])
    ≡ None ∷ Some WrongVersion ∷ None ∷ Some WrongVersion ∷ []
unfolding kev_read_on_literals
first_version_counts = refl

-- ---- the limits of a query

-- the pair `ctx_ver=1`, and n others
abbrev other_version_and : ℕ → List ℕ
other_version_and n = codes "ctx_ver=1" ++ repeat n (codes "&a")

number_of_pairs_before_version : map refusal (other_version_and 4096 ∷ other_version_and 4095 ∷ []) ≡ Some TooManyPairs ∷ Some WrongVersion ∷ []
unfolding kev_read_on_literals
number_of_pairs_before_version = refl

most_pairs : map refusal (repeat 4096 (codes "a&&") ∷ repeat 4097 (codes "a&&") ∷ []) ≡ None ∷ Some TooManyPairs ∷ []
unfolding kev_read_on_literals
most_pairs = refl

most_bytes : map refusal (repeat 65536 (codes "&") ∷ repeat 65537 (codes "&") ∷ []) ≡ None ∷ Some TooLong ∷ []
unfolding kev_read_on_literals
most_bytes = refl

length_before_number_of_pairs : map refusal (repeat 32768 (codes "&a") ∷ (codes "a" ++ repeat 32768 (codes "&a")) ∷ []) ≡ Some TooManyPairs ∷ Some TooLong ∷ []
unfolding kev_read_on_literals
length_before_number_of_pairs = refl
