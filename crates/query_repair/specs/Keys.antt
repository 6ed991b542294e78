-- The keys of pairs (ANSI/NISO Z39.88-2004, and OpenURL 0.1).
use Rattle.std.specs.Prelude.{ℕ, ◌==◌, ◌||◌, ◌&&◌, nat_lt, Bool, List, [], ◌∷◌, codes, length, take, drop, slice_index, if◌then◌else◌}
use Rattle.std.specs.Char.{is_ascii_alphanumeric}
use Rattle.std.specs.List.{list_any, prefix_len}
use Rattle.text_model.specs.Texts.{Text}
use Rattle.uri_text.specs.AnyCase.{begins_in_any_case}

-- a letter, a digit, `_` or `.`
abbrev pub is_key_byte : ℕ → Bool
is_key_byte b = is_ascii_alphanumeric b || b == 0x5f || b == 0x2e

abbrev pub key_length : Text → ℕ
key_length piece = prefix_len is_key_byte piece

abbrev pub key_of : Text → Text
key_of piece = take (key_length piece) piece

-- a key and `=`
unfoldable pub begins_pair : Text → Bool
begins_pair piece = nat_lt 0 (key_length piece) && (slice_index piece (key_length piece) == 0x3d)

-- ---- names of keys, in capital or small letters

abbrev pub is_named : Text → Text → Bool
is_named key name = (length key == length name) && begins_in_any_case key name

abbrev pub is_one_of : List Text → Text → Bool
is_one_of names key = list_any (λ name. is_named key name) names

-- without the `rft.` of OpenURL 1.0
abbrev pub name_of : Text → Text
name_of key = if begins_in_any_case key (codes "rft.") then drop 4 key else key

-- the titles of works, names of persons and groups, and the source of Dublin Core
abbrev pub title_names : List Text
title_names =
    codes "title" ∷ codes "atitle" ∷ codes "btitle" ∷ codes "jtitle" ∷ codes "stitle" ∷ codes "au" ∷ codes "aulast" ∷ codes "aufirst" ∷
    codes "aucorp" ∷ codes "source" ∷ codes "creator" ∷ []

-- keys of a context object, of the metadata formats and of OpenURL 0.1, and other keys of sources, that a reading reads
abbrev pub other_names : List Text
other_names =
    codes "genre" ∷ codes "issn" ∷ codes "eissn" ∷ codes "isbn" ∷ codes "eisbn" ∷ codes "volume" ∷ codes "issue" ∷ codes "spage" ∷
    codes "epage" ∷ codes "pages" ∷ codes "artnum" ∷ codes "date" ∷ codes "year" ∷ codes "auinit" ∷ codes "auinit1" ∷ codes "part" ∷
    codes "ssn" ∷ codes "quarter" ∷ codes "sici" ∷ codes "coden" ∷ codes "sid" ∷ codes "pid" ∷ codes "id" ∷ codes "doi" ∷ codes "pmid" ∷
    codes "pmcid" ∷ codes "number" ∷ codes "identifier" ∷ codes "url" ∷ codes "type" ∷ codes "ctx_ver" ∷ codes "ctx_enc" ∷ codes "url_ver" ∷
    codes "url_ctx_fmt" ∷ codes "rft_id" ∷ codes "rft_dat" ∷ codes "rft_val_fmt" ∷ codes "rfr_id" ∷ []

unfoldable pub is_title : Text → Bool
is_title key = is_one_of title_names (name_of key)

unfoldable pub is_known : Text → Bool
is_known key = is_title key || is_one_of other_names (name_of key)
