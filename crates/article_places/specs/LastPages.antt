-- The last page of a range, in full: after page 2344, `55` is 2355.
use Rattle.std.specs.Prelude.{ℕ, ◌+◌, ◌-◌, ◌==◌, ◌||◌, ◌&&◌, not, nat_lt, Bool, false, [], ◌∷◌, ◌++◌, take, drop, Option, Some, None, if◌then◌else◌}
use Rattle.std.specs.Str.{bytes_eq}
use Rattle.text_model.specs.Texts.{Text}
use Rattle.article_places.specs.Words.{letters}
use Rattle.article_places.specs.PageForms.{digits, roman}

-- the last page has other letters than the first one, or one of them is a Roman numeral
abbrev pub is_apart : Text → Text → Bool
is_apart first last = digits first == 0 || digits last == 0 || (nat_lt 0 (letters last) && not (bytes_eq (roman first) (roman last)))

-- how many digits the last page lacks
abbrev pub missing : Text → Text → ℕ
missing first last = digits first - digits last

-- the digits of a page without the first ones
abbrev pub digits_after : ℕ → Text → Text
digits_after n page = take (digits page - n) (drop (letters page + n) page)

-- the order of digits, if there are equally many
abbrev pub is_less : Text → Text → Bool
is_less [] others = false
is_less (b ∷ bs) [] = false
is_less (b ∷ bs) (c ∷ cs) = nat_lt b c || (b == c && is_less bs cs)

-- the last page is after the first one; a page that is not abbreviated may be the same
abbrev pub is_later : Text → Text → Bool
is_later first last =
    let begins = digits_after (missing first last) first in
    let ends = digits_after 0 last in
    nat_lt (digits first) (digits last) || is_less begins ends || (digits first == digits last && bytes_eq begins ends)

-- an abbreviated last page has its first letters and digits from the first page
abbrev pub last_page : Text → Text → Option Text
last_page first last =
    if is_apart first last then Some last
    else (if is_later first last then Some (take (letters first + missing first last) first ++ drop (letters last) last) else None)
