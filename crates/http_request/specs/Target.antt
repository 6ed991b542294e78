-- The target of a request (RFC 9112, section 3.2): its path and its query, with nothing decoded.
use Rattle.std.specs.Prelude.{ℕ, ◌==◌, ◌||◌, Bool, false, List, [], ◌∷◌, Option, Some, None, codes, drop, length, if◌then◌else◌}
use Rattle.std.specs.List.{after_first, before_first, position_or_len}
use Rattle.std.specs.Str.{bytes_eq}
use Rattle.uri_text.specs.AnyCase.{begins_in_any_case}
use Rattle.http_request.specs.declared.route.Page.{Page}
use Rattle.http_request.specs.declared.route.Page.TheVariants.{Html, Text, Report}

abbrev pub is_slash : ℕ → Bool
is_slash b = b == 47

abbrev pub is_question_mark : ℕ → Bool
is_question_mark b = b == 63

-- ---- origin form (section 3.2.1): a path, and a query after `?`

abbrev pub begins_with_slash : List ℕ → Bool
begins_with_slash [] = false
begins_with_slash (b ∷ bytes) = is_slash b

-- ---- absolute form (section 3.2.2): a scheme, an authority, and then the same, but the path may be empty

-- the letters of a scheme may be in either case
abbrev pub after_scheme : List ℕ → List ℕ → Option (List ℕ)
after_scheme scheme target = if begins_in_any_case target scheme then Some (drop (length scheme) target) else None

-- an authority ends before a `/` or a `?`, or with the target
abbrev pub authority_length : List ℕ → ℕ
authority_length bytes = position_or_len (λ b. is_slash b || is_question_mark b) bytes

-- the bytes after an authority that is not empty
abbrev pub after_authority : List ℕ → Option (List ℕ)
after_authority bytes = if authority_length bytes == 0 then None else Some (drop (authority_length bytes) bytes)

-- ---- either form

abbrev pub resource_by : Option (List ℕ) → Option (List ℕ) → Option (List ℕ)
resource_by (Some after_http) after_https = after_authority after_http
resource_by None (Some after_https) = after_authority after_https
resource_by None None = None

-- the path and the query of a target; none for a target of another form
abbrev pub resource_of : List ℕ → Option (List ℕ)
resource_of target =
    if begins_with_slash target then Some target
    else resource_by (after_scheme (codes "http://") target) (after_scheme (codes "https://") target)

-- the path ends before the first `?`, and the rest is the query
abbrev pub path_of : List ℕ → List ℕ
path_of resource = before_first is_question_mark resource

abbrev pub query_of : List ℕ → List ℕ
query_of resource = after_first is_question_mark resource

-- ---- pages

abbrev pub page_of : List ℕ → Option Page
page_of path =
    if bytes_eq path (codes "/openurl") then Some Html
    else (if bytes_eq path (codes "/openurl.txt") then Some Text
    else (if bytes_eq path (codes "/report") then Some Report else None))
