-- Words that say which number is next to them, in the languages of sources.
use Rattle.std.specs.Prelude.{Bool, ◌||◌, List, [], ◌∷◌, codes}
use Rattle.std.specs.List.{list_any}
use Rattle.std.specs.Str.{str_eq_ignore_ascii_case}
use Rattle.text_model.specs.Texts.{Text}

abbrev pub volume_words : List Text
volume_words =
    codes "vol" ∷ codes "vols" ∷ codes "volume" ∷ codes "volumes" ∷ codes "v" ∷ codes "bd" ∷ codes "band" ∷ codes "jg" ∷
    codes "jahrgang" ∷ codes "tom" ∷ codes "tome" ∷ codes "tomo" ∷ codes "t" ∷ []

-- those of an issue, or of a part of a volume; and a bracket, as in `53(2)`
abbrev pub issue_words : List Text
issue_words =
    codes "no" ∷ codes "nos" ∷ codes "nr" ∷ codes "num" ∷ codes "number" ∷ codes "numero" ∷ codes "n" ∷ codes "iss" ∷
    codes "issue" ∷ codes "heft" ∷ codes "h" ∷ codes "fasc" ∷ codes "fascicule" ∷ codes "fascicolo" ∷ codes "pt" ∷
    codes "part" ∷ codes "(" ∷ codes "[" ∷ []

abbrev pub supplement_words : List Text
supplement_words =
    codes "suppl" ∷ codes "supp" ∷ codes "supl" ∷ codes "sup" ∷ codes "supplt" ∷ codes "supplement" ∷ codes "supplementary" ∷
    codes "supplementum" ∷ codes "supplemento" ∷ codes "suplemento" ∷ []

abbrev pub page_labels : List Text
page_labels =
    codes "p" ∷ codes "pp" ∷ codes "pg" ∷ codes "pgs" ∷ codes "page" ∷ codes "pages" ∷ codes "seite" ∷ codes "seiten" ∷ []

-- those between the first page and the last one, in English and German
abbrev pub range_words : List Text
range_words = codes "to" ∷ codes "bis" ∷ []

-- one of these words, in capital or small letters
abbrev pub is_one_of : List Text → Text → Bool
is_one_of words word = list_any (λ other. str_eq_ignore_ascii_case word other) words

abbrev pub is_issue_word : Text → Bool
is_issue_word word = is_one_of issue_words word

abbrev pub is_supplement_word : Text → Bool
is_supplement_word word = is_one_of supplement_words word

abbrev pub is_range_word : Text → Bool
is_range_word word = is_one_of range_words word

-- a word before the first number
abbrev pub is_label : Text → Bool
is_label word = is_one_of volume_words word || is_issue_word word
