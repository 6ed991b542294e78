-- Texts, and the classes of their bytes (RFC 3986, sections 2.1 to 2.3; RFC 6570, section 1.5).
use Rattle.std.specs.Prelude.{ℕ, List, [], ◌∷◌, Bool, false, ◌&&◌, ◌||◌, ◌==◌, nat_eq, codes, map}
use Rattle.std.specs.Borrow.{Bor}
use Rattle.std.specs.List.{list_any}
use Rattle.std.specs.Char.{is_ascii_alphanumeric, is_digit}

-- a text is the list of its bytes
abbrev pub Text : Type 0
Text = List ℕ

-- the texts that references point to
abbrev pub texts_of : List (Bor Text) → List Text
texts_of references = map (λ reference. reference.now) references

-- `%`, which begins a triplet
abbrev pub percent : ℕ
percent = 0x25

-- a letter, a digit, or one of `-._~`
unfoldable pub is_unreserved : ℕ → Bool
is_unreserved b = is_ascii_alphanumeric b || list_any (nat_eq b) (codes "-._~")

-- a character that delimits the parts of a URI
unfoldable pub is_reserved : ℕ → Bool
is_reserved b = list_any (nat_eq b) (codes ":/?#[]@!$&'()*+,;=")

abbrev pub is_hexadecimal : ℕ → Bool
is_hexadecimal b = is_digit b 16

-- the three bytes are `%` and two hexadecimal digits
abbrev pub is_triplet : ℕ → ℕ → ℕ → Bool
is_triplet b high low = b == percent && (is_hexadecimal high && is_hexadecimal low)

-- the text begins with a whole triplet
abbrev pub begins_with_triplet : Text → Bool
begins_with_triplet [] = false
begins_with_triplet (b ∷ []) = false
begins_with_triplet (b ∷ c ∷ []) = false
begins_with_triplet (b ∷ high ∷ low ∷ rest) = is_triplet b high low
