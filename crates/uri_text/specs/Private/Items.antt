-- How long the item at the beginning of a text is (RFC 6570, section 2.4.1). For private contracts.
use Rattle.std.specs.Prelude.{ℕ, ◌+◌, [], ◌∷◌, Bool, false, not, ◌&&◌, if◌then◌else◌}
use Rattle.std.specs.List.{prefix_len}
use Rattle.text_model.specs.Texts.{Text, is_triplet}
use Rattle.text_model.specs.Cut.{is_continuation}

-- the text begins with a byte that continues the code point before it
abbrev pub continues : Text → Bool
continues [] = false
continues (b ∷ t) = is_continuation b

abbrev pub code_point_length : Text → ℕ
code_point_length [] = 0
code_point_length (b ∷ t) = prefix_len is_continuation t + 1

-- the first three code points are the characters of a triplet
abbrev pub begins_with_triplet_item : Text → Bool
begins_with_triplet_item [] = false
begins_with_triplet_item (b ∷ []) = false
begins_with_triplet_item (b ∷ c ∷ []) = false
begins_with_triplet_item (b ∷ high ∷ low ∷ rest) = is_triplet b high low && not (continues rest)

abbrev pub item_length : Bool → Text → ℕ
item_length triplets t = if triplets && begins_with_triplet_item t then 3 else code_point_length t
