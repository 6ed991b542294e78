-- What a request is for: a book, a dissertation or a journal (the formats of Z39.88-2004 for KEV ContextObjects).
use Rattle.std.specs.Prelude.{Bool, not, ◌&&◌, ◌||◌, List, [], ◌∷◌, codes, Option, if◌then◌else◌}
use Rattle.std.specs.List.{find}
use Rattle.std.specs.Option.{option_and_then, is_some, unwrap_or}
use Rattle.std.specs.Str.{trim}
use Rattle.text_model.specs.Texts.{Text}
use Rattle.kev_read.specs.Pairs.{KeyValue, first_of}
use Rattle.openurl_reading.specs.Counting.{is_one_in_any_case}
use Rattle.openurl_reading.specs.declared.kinds.Kind.{Kind}
use Rattle.openurl_reading.specs.declared.kinds.Kind.TheVariants.{Book, Dissertation, Journal}

-- a key has a value
abbrev pub has : List KeyValue → Text → Bool
has pairs key = is_some (first_of pairs key)

-- the genres that are of one kind alone; `conference`, `proceeding` and `unknown` are of books and of journals
abbrev pub genres : Kind → List Text
genres Book = codes "book" ∷ codes "bookitem" ∷ codes "report" ∷ codes "document" ∷ []
genres Dissertation = codes "dissertation" ∷ []
genres Journal = codes "article" ∷ codes "journal" ∷ codes "issue" ∷ codes "preprint" ∷ []

-- in small or capital letters, and without the spaces around it
abbrev pub is_genre_of : Text → Kind → Bool
is_genre_of genre kind = is_one_in_any_case (genres kind) (trim genre)

abbrev pub kind_named : Text → Option Kind
kind_named genre = find (is_genre_of genre) (Book ∷ Dissertation ∷ Journal ∷ [])

-- ---- without a genre that says it

abbrev pub has_isbn : List KeyValue → Bool
has_isbn pairs = has pairs (codes "rft.isbn") || has pairs (codes "rft.eisbn")

abbrev pub has_issn : List KeyValue → Bool
has_issn pairs = has pairs (codes "rft.issn") || has pairs (codes "rft.eissn")

abbrev pub has_book_title : List KeyValue → Bool
has_book_title pairs = has pairs (codes "rft.btitle") && not (has pairs (codes "rft.jtitle"))

-- a book has an ISBN and no ISSN, or the title of a book and none of a journal
abbrev pub kind_by_keys : List KeyValue → Kind
kind_by_keys pairs = if (has_isbn pairs && not (has_issn pairs)) || has_book_title pairs then Book else Journal

-- ---- of a request

abbrev pub kind_of : List KeyValue → Kind
kind_of pairs = unwrap_or (option_and_then kind_named (first_of pairs (codes "rft.genre"))) (kind_by_keys pairs)
