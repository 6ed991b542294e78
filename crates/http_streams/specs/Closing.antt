-- The empty line that ends the head of a request (RFC 9112, sections 2.1 and 2.2).
use Rattle.std.specs.Prelude.{ℕ, List, [], ◌∷◌, Bool, false, ◌&&◌, ◌||◌, ◌==◌, if◌then◌else◌}

abbrev pub line_feed : ℕ
line_feed = 10

abbrev pub carriage_return : ℕ
carriage_return = 13

-- the next byte is LF
abbrev pub begins_with_lf : List ℕ → Bool
begins_with_lf [] = false
begins_with_lf (b ∷ rest) = b == line_feed

-- an empty line is next: LF, or CR LF
abbrev pub begins_with_empty_line : List ℕ → Bool
begins_with_empty_line [] = false
begins_with_empty_line (b ∷ rest) = (b == line_feed) || ((b == carriage_return) && begins_with_lf rest)

-- some line ends with LF, and an empty line follows directly
abbrev pub has_empty_line : List ℕ → Bool
has_empty_line [] = false
has_empty_line (b ∷ rest) = ((b == line_feed) && begins_with_empty_line rest) || has_empty_line rest

-- after some byte that is neither CR nor LF, an LF is followed directly by LF or by CR LF
abbrev pub is_closed : List ℕ → Bool
is_closed [] = false
is_closed (b ∷ rest) = if (b == line_feed) || (b == carriage_return) then is_closed rest else has_empty_line rest
