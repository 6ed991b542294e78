-- Which piece belongs to the pair before it: an `&` of its value was not escaped, or began an entity of HTML.
use Rattle.std.specs.Prelude.{ℕ, ◌==◌, ◌||◌, ◌&&◌, not, nat_le, Bool, List, [], ◌∷◌, ◌++◌, codes, slice_index, if◌then◌else◌}
use Rattle.std.specs.Char.{is_ascii_alphanumeric}
use Rattle.std.specs.List.{list_any, prefix_len}
use Rattle.text_model.specs.Texts.{Text}
use Rattle.query_repair.specs.Keys.{key_of, begins_pair, is_title}
use Rattle.query_repair.specs.Pieces.{ampersand}

-- the pair of a title or a name
abbrev pub is_titled : Text → Bool
is_titled pair = begins_pair pair && is_title (key_of pair)

-- text with a space or an escape, and without `=`: neither a pair nor a key alone
unfoldable pub is_loose : Text → Bool
is_loose piece = not (list_any (λ b. b == 0x3d) piece) && list_any (λ b. b == 0x2b || b == 0x25) piece

-- a letter, a digit or `#`
abbrev pub is_entity_byte : ℕ → Bool
is_entity_byte b = is_ascii_alphanumeric b || b == 0x23

-- the rest of an entity, as `amp;`, `eacute;`, `#39;` or `#x27;`
unfoldable pub begins_entity : Text → Bool
begins_entity piece =
    let n = prefix_len is_entity_byte piece in
    nat_le 2 n && nat_le n 10 && (slice_index piece n == 0x3b)

-- by the pair with which the value began, and the piece
unfoldable pub belongs : Text → Text → Bool
belongs pair piece = is_titled pair && is_loose piece || begins_pair pair && begins_entity piece

-- ---- the pieces as a query again

-- what is written before a piece: an `&` of a value is escaped
abbrev pub separator : Bool → Text
separator is_part = if is_part then codes "%26" else (ampersand ∷ [])

-- the pair to which the next piece may belong
abbrev pub pair_after : Bool → Text → Text → Text
pair_after is_part pair piece = if is_part then pair else piece

abbrev pub joined_after : Text → List Text → Text
joined_after pair [] = []
joined_after pair (piece ∷ pieces) =
    separator (belongs pair piece) ++ piece ++ joined_after (pair_after (belongs pair piece) pair piece) pieces

abbrev pub joined : List Text → Text
joined [] = []
joined (first ∷ others) = first ++ joined_after first others
