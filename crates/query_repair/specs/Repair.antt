-- The bytes of a query as sources send it, repaired to the key/encoded-value form (ANSI/NISO Z39.88-2004, part 2).
use Rattle.std.specs.Prelude.{ℕ, ◌==◌, not, Bool, true, List, [], ◌∷◌, ◌++◌, if◌then◌else◌}
use Rattle.std.specs.List.{list_any, slice_split, flat_map}
use Rattle.text_model.specs.Texts.{Text}
use Rattle.query_repair.specs.Keys.{begins_pair}
use Rattle.query_repair.specs.Pieces.{ampersand, parts, cleaned, pieces}
use Rattle.query_repair.specs.Joining.{joined}

-- ---- `;` between pairs, as HTML 4.01 recommends (appendix B.2.2)

abbrev pub semicolon : ℕ
semicolon = 0x3b

-- one of them is a pair, as it is or after marks
abbrev pub has_pair : List Text → Bool
has_pair parts = list_any (λ part. begins_pair (cleaned part)) parts

-- no `&` is before a pair
abbrev pub has_no_second_pair : List Text → Bool
has_no_second_pair [] = true
has_no_second_pair (first ∷ others) = not (has_pair others)

abbrev pub between : Text → ℕ
between part = if begins_pair part then ampersand else semicolon

abbrev pub after_first : List Text → Text
after_first others = flat_map (λ part. between part ∷ part) others

abbrev pub separated_parts : List Text → Text
separated_parts [] = []
separated_parts (first ∷ others) = first ++ after_first others

-- each `;` before a pair is `&`
unfoldable pub separated : Text → Text
separated query = separated_parts (slice_split (λ b. b == semicolon) query)

-- ---- the whole query

abbrev pub with_ampersands : Text → Text
with_ampersands query = if has_no_second_pair (parts query) then separated query else query

unfoldable pub repaired : Text → Text
repaired query = joined (pieces (with_ampersands query))
