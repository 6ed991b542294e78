-- The DOI within the address of a page of a publisher.
use Rattle.std.specs.Prelude.{ℕ, ◌+◌, ◌==◌, ◌||◌, ◌&&◌, not, nat_le, Bool, List, [], ◌∷◌, codes, length, take, drop, slice_index}
use Rattle.std.specs.Prelude.{Option, None, if◌then◌else◌}
use Rattle.std.specs.List.{list_any, prefix_len, take_while}
use Rattle.std.specs.Option.{option_or}
use Rattle.std.specs.Str.{bytes_eq, str_eq_ignore_ascii_case}
use Rattle.text_model.specs.Texts.{Text}
use Rattle.work_identifiers.specs.declared.namespace.Namespace.TheVariants.{Doi}
use Rattle.work_identifiers.specs.Forms.{is_digit_or_stop, is_number}
use Rattle.work_identifiers.specs.Places.{identifier_at}

-- how many bytes of an address are read at most
abbrev pub longest_address : ℕ
longest_address = 2000

-- ---- where one may begin and end

-- one of `/=:`
abbrev pub is_opener : ℕ → Bool
is_opener b = b == 0x2f || b == 0x3d || b == 0x3a

-- a space or a control character, a quote, or one of `?#&`
abbrev pub is_closer : ℕ → Bool
is_closer b = nat_le b 0x20 || b == 0x22 || b == 0x27 || b == 0x60 || b == 0x3f || b == 0x23 || b == 0x26

abbrev pub is_no_closer : ℕ → Bool
is_no_closer b = not (is_closer b)

-- ---- what publishers write after a DOI

-- what a page shows of an article, and the forms of its file
abbrev pub views : List Text
views =
    codes "abs" ∷ codes "abstract" ∷ codes "citation" ∷ codes "citations" ∷ codes "epdf" ∷ codes "epdfplus" ∷ codes "epub" ∷ codes "figures" ∷
    codes "full" ∷ codes "full-text" ∷ codes "fulltext" ∷ codes "fullhtml" ∷ codes "htm" ∷ codes "html" ∷ codes "meta" ∷ codes "metadata" ∷
    codes "metrics" ∷ codes "pdf" ∷ codes "pdfdirect" ∷ codes "pdfplus" ∷ codes "references" ∷ codes "summary" ∷ codes "suppl_file" ∷
    codes "tables" ∷ codes "xml" ∷ []

-- neither of `/.+`
abbrev pub is_in_word : ℕ → Bool
is_in_word b = not (b == 0x2f || b == 0x2e || b == 0x2b)

-- in capital or small letters
abbrev pub is_one_of : List Text → Text → Bool
is_one_of words word = list_any (λ one. str_eq_ignore_ascii_case one word) words

-- the first word is a view
abbrev pub begins_with_view : Text → Bool
begins_with_view text = is_one_of views (take_while is_in_word text)

-- a slash or a full stop
abbrev pub is_before_view : ℕ → Bool
is_before_view b = b == 0x2f || b == 0x2e

-- a view begins after the byte
abbrev pub is_cut : ℕ → Text → Bool
is_cut b rest = is_before_view b && begins_with_view rest

-- the text up to the first such byte
abbrev pub without_view : Text → Text
without_view [] = []
without_view (b ∷ t) = if is_cut b t then [] else (b ∷ without_view t)

-- `v` and one to three digits
abbrev pub is_version : Text → Bool
is_version text = (slice_index text 0 == 0x76) && is_number 3 (drop 1 text)

-- where the number of a preprint of bioRxiv or medRxiv ends
abbrev pub preprint_length : Text → ℕ
preprint_length doi = 8 + prefix_len is_digit_or_stop (drop 8 doi)

-- such a preprint without its version
abbrev pub without_version : Text → Text
without_version doi =
    if bytes_eq (take 8 doi) (codes "10.1101/") && is_version (drop (preprint_length doi) doi) then take (preprint_length doi) doi else doi

-- ---- the DOI in an address

abbrev pub doi_at : Text → Option Text
doi_at text = identifier_at Doi (without_version (without_view (take_while is_no_closer text)))

-- after one of `/=:`
abbrev pub doi_after : ℕ → Text → Option Text
doi_after b rest = if is_opener b then doi_at rest else None

-- the first one
abbrev pub first_doi : Text → Option Text
first_doi [] = None
first_doi (b ∷ t) = option_or (doi_after b t) (first_doi t)

abbrev pub doi_in_address : Text → Option Text
doi_in_address address = if nat_le (length address) longest_address then first_doi address else None
