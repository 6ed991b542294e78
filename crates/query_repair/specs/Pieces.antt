-- The pieces of a query: pairs, and parts of values that an `&` has split.
use Rattle.std.specs.Prelude.{ℕ, zero, suc, ◌==◌, ◌||◌, ◌&&◌, not, Bool, false, List, [], ◌∷◌, codes, length, take, drop, if◌then◌else◌}
use Rattle.std.specs.List.{list_all, prefix_len, slice_split, flat_map}
use Rattle.text_model.specs.Texts.{Text}
use Rattle.uri_text.specs.AnyCase.{begins_in_any_case}
use Rattle.query_repair.specs.Keys.{is_key_byte, key_of, begins_pair, is_known}

abbrev pub ampersand : ℕ
ampersand = 0x26

-- what is between the `&`s
abbrev pub parts : Text → List Text
parts query = slice_split (λ b. b == ampersand) query

-- ---- before a key: `amp;`, from an `&` escaped as in HTML, and question marks

abbrev pub begins_with_question : Text → Bool
begins_with_question [] = false
begins_with_question (b ∷ t) = b == 0x3f

abbrev pub mark_length : Text → ℕ
mark_length part = if begins_in_any_case part (codes "amp;") then 4 else (if begins_with_question part then 1 else 0)

-- after at most this number of marks
abbrev pub after_marks : ℕ → Text → Text
after_marks zero part = part
after_marks (suc n) part = if mark_length part == 0 then part else after_marks n (drop (mark_length part) part)

unfoldable pub unmarked : Text → Text
unmarked part = after_marks (length part) part

-- before a pair, and before a known key alone, they go; a pair has none
unfoldable pub cleaned : Text → Text
cleaned part =
    if begins_pair part then part
    else (if begins_pair (unmarked part) || is_known (unmarked part) then unmarked part else part)

-- ---- the query of a base URL, which the source's own follows after `?`

abbrev pub base_length : Text → ℕ
base_length part = prefix_len (λ b. not (b == 0x3f)) part

abbrev pub base_of : Text → Text
base_of part = take (base_length part) part

abbrev pub after_base : Text → Text
after_base part = unmarked (drop (base_length part) part)

-- of a key, or one of `:`, `-` and `=`
abbrev pub is_base_byte : ℕ → Bool
is_base_byte b = is_key_byte b || b == 0x3a || b == 0x2d || b == 0x3d

-- a pair of such bytes, whose key is none that sources send
abbrev pub is_base : Text → Bool
is_base base = begins_pair base && not (is_known (key_of base)) && list_all is_base_byte base

-- a pair of a key that sources send
abbrev pub begins_known : Text → Bool
begins_known rest = begins_pair rest && is_known (key_of rest)

unfoldable pub has_base : Text → Bool
has_base part = is_base (base_of part) && begins_known (after_base part)

abbrev pub opened : Text → List Text
opened part = if has_base part then (base_of part ∷ after_base part ∷ []) else (part ∷ [])

-- ---- the pieces

abbrev pub pieces_of : List Text → List Text
pieces_of parts = flat_map (λ part. opened (cleaned part)) parts

abbrev pub pieces : Text → List Text
pieces query = pieces_of (parts query)
