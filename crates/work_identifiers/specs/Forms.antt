-- The forms of identifiers: DOIs (ISO 26324), the numbers of PubMed, of PubMed Central and of OCLC, and the identifiers of arXiv.
use Rattle.std.specs.Prelude.{◌≡◌, ℕ, ◌+◌, ◌==◌, ◌||◌, ◌&&◌, not, nat_le, Bool, true, codes, length, take, drop, slice_index}
use Rattle.std.specs.Char.{is_ascii_digit, is_ascii_alphabetic}
use Rattle.std.specs.List.{list_all, prefix_len}
use Rattle.std.specs.Str.{bytes_eq}
use Rattle.text_model.specs.Texts.{Text}
use Rattle.work_identifiers.specs.declared.namespace.Namespace.{Namespace}
use Rattle.work_identifiers.specs.declared.namespace.Namespace.TheVariants.{Doi, Pmid, Oclc, Pmc, Arxiv}
use Rattle.work_identifiers.specs.Ends.{ends_loosely, first_part}

-- how many bytes an identifier has at most
abbrev pub most_bytes : ℕ
most_bytes = 500

-- at least one number, and at most another one
abbrev pub is_between : ℕ → ℕ → ℕ → Bool
is_between low high n = nat_le low n && nat_le n high

-- ---- DOIs

abbrev pub is_digit_or_stop : ℕ → Bool
is_digit_or_stop b = is_ascii_digit b || b == 0x2e

-- 4 to 20 of them
abbrev pub is_registrant : Text → Bool
is_registrant code = is_between 4 20 (length code) && list_all is_digit_or_stop code

-- `10.` and the code of a registrant
abbrev pub is_doi_prefix : Text → Bool
is_doi_prefix prefix = bytes_eq (take 3 prefix) (codes "10.") && is_registrant (drop 3 prefix)

-- ASCII without spaces and control characters
abbrev pub is_visible : ℕ → Bool
is_visible b = nat_le 0x21 b && nat_le b 0x7e

-- a prefix, `/` and a suffix
abbrev pub is_doi : Text → Bool
is_doi doi =
    let prefix = first_part doi in
    is_doi_prefix prefix && nat_le (length prefix + 2) (length doi) && (slice_index doi (length prefix) == 0x2f) && list_all is_visible doi

-- ---- numbers

-- digits, at least one and at most this number
abbrev pub is_number : ℕ → Text → Bool
is_number most number = is_between 1 most (length number) && list_all is_ascii_digit number

-- ---- the identifiers of arXiv: new ones, as `2101.00001`, and old ones, as `hep-th/9901001` and `math.GT/0309136`

-- a letter or a hyphen, of the name of an archive
abbrev pub is_name_byte : ℕ → Bool
is_name_byte b = is_ascii_alphabetic b || b == 0x2d

-- one of these, a full stop or a slash, before the number of an old identifier
abbrev pub is_lead_byte : ℕ → Bool
is_lead_byte b = is_name_byte b || b == 0x2e || b == 0x2f

-- how many bytes are before the number: none in a new identifier
abbrev pub lead_length : Text → ℕ
lead_length text = prefix_len is_lead_byte text

abbrev pub name_length : Text → ℕ
name_length lead = prefix_len is_name_byte lead

-- four digits, a full stop, and four or five digits
abbrev pub is_new : Text → Bool
is_new n =
    is_between 9 10 (length n) && list_all is_ascii_digit (take 4 n) && (slice_index n 4 == 0x2e) && list_all is_ascii_digit (drop 5 n)

-- a full stop, the two letters of a subject class, and a slash
abbrev pub is_class : Text → Bool
is_class text =
    (length text == 4) && (slice_index text 0 == 0x2e) && is_ascii_alphabetic (slice_index text 1) && is_ascii_alphabetic (slice_index text 2)
    && (slice_index text 3 == 0x2f)

-- a name of 2 to 14 bytes, and a slash or a subject class
abbrev pub is_archive : Text → Bool
is_archive lead =
    let name = name_length lead in
    is_between 2 14 name && (bytes_eq (drop name lead) (codes "/") || is_class (drop name lead))

-- seven digits
abbrev pub is_old_number : Text → Bool
is_old_number number = (length number == 7) && list_all is_ascii_digit number

abbrev pub is_old : Text → Bool
is_old n = is_archive (take (lead_length n) n) && is_old_number (drop (lead_length n) n)

abbrev pub is_arxiv : Text → Bool
is_arxiv n = is_new n || is_old n

-- ---- each namespace

abbrev pub has_form : Namespace → Text → Bool
has_form Doi = is_doi
has_form Pmid = is_number 9
has_form Oclc = is_number 12
has_form Pmc = is_number 9
has_form Arxiv = is_arxiv

-- of that form, of at most 500 bytes, and with nothing loose at its end
abbrev pub is_identifier : Namespace → Text → Bool
is_identifier namespace identifier = nat_le (length identifier) most_bytes && not (ends_loosely identifier) && has_form namespace identifier

abbrev pub IsIdentifier : Namespace → Text → Type 0
IsIdentifier namespace identifier = is_identifier namespace identifier ≡ true
