-- The items of a text; a prefix consists of the first ones (RFC 6570, section 2.4.1).
use Rattle.std.specs.Prelude.{ℕ, List, [], ◌∷◌, ◌++◌, Bool, false, ◌&&◌, nat_le, nat_lt, take, if◌then◌else◌}
use Rattle.std.specs.List.{flat_map}
use Rattle.text_model.specs.Texts.{Text, is_triplet}
use Rattle.text_model.specs.declared.writing.Writing.{Writing}
use Rattle.text_model.specs.declared.writing.Writing.TheVariants.{U, UR}

-- a byte of UTF-8 that continues with the code point before it, 10xxxxxx in bits (RFC 3629, section 3)
abbrev pub is_continuation : ℕ → Bool
is_continuation b = nat_le 0x80 b && nat_lt b 0xC0

-- a byte before code points: one more code point, or the beginning of the first of them
abbrev pub with_byte : ℕ → List Text → List Text
with_byte b [] = (b ∷ []) ∷ []
with_byte b ([] ∷ points) = (b ∷ []) ∷ points
with_byte b ((next ∷ t) ∷ points) = if is_continuation next then ((b ∷ next ∷ t) ∷ points) else ((b ∷ []) ∷ (next ∷ t) ∷ points)

-- the code points of a text, each as its bytes
unfoldable pub code_points : Text → List Text
code_points [] = []
code_points (b ∷ t) = with_byte b (code_points t)

-- the three items are the characters of a triplet
abbrev pub are_triplet : Text → Text → Text → Bool
are_triplet (b ∷ []) (high ∷ []) (low ∷ []) = is_triplet b high low
are_triplet first second third = false

-- each whole triplet becomes one item, read from the left
unfoldable pub with_triplets : List Text → List Text
with_triplets [] = []
with_triplets (p ∷ []) = p ∷ []
with_triplets (p ∷ q ∷ []) = p ∷ q ∷ []
with_triplets (p ∷ q ∷ r ∷ points) =
    if are_triplet p q r then ((p ++ q ++ r) ∷ with_triplets points) else (p ∷ with_triplets (q ∷ r ∷ points))

-- the items of a text: its code points, but under UR each whole triplet is one item
abbrev pub items : Writing → Text → List Text
items U t = code_points t
items UR t = with_triplets (code_points t)

abbrev pub joined : List Text → Text
joined texts = flat_map (λ t. t) texts

-- the first n items of a text
abbrev pub cut : Writing → Text → ℕ → Text
cut w t n = joined (take n (items w t))
