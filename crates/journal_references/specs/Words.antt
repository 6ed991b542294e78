-- Words that say which part of a reference is next, in the languages of sources.
use Rattle.std.specs.Prelude.{ℕ, ◌+◌, ◌==◌, ◌||◌, ◌&&◌, not, nat_lt, Bool, List, [], ◌∷◌, codes}
use Rattle.std.specs.Prelude.{length, take, drop, slice_index, Option, Some, None, if◌then◌else◌}
use Rattle.std.specs.Char.{is_ascii_alphabetic, to_ascii_lowercase}
use Rattle.std.specs.List.{list_any, prefix_len}
use Rattle.std.specs.Str.{str_eq_ignore_ascii_case}
use Rattle.text_model.specs.Texts.{Text}
use Rattle.journal_references.specs.declared.words.Word.{Word}
use Rattle.journal_references.specs.declared.words.Word.TheVariants.{OfVolume, OfIssue, OfPages, OfMonth}

-- the words and abbreviations that a source writes before a volume, before an issue, and before pages or the number of an article;
-- and the months in English
abbrev pub words : Word → List Text
words OfVolume =
    codes "vol" ∷ codes "vols" ∷ codes "volume" ∷ codes "volumes" ∷ codes "v" ∷ codes "bd" ∷ codes "band" ∷ codes "jg" ∷
    codes "jahrgang" ∷ codes "tom" ∷ codes "tome" ∷ codes "tomo" ∷ codes "t" ∷ []
words OfIssue =
    codes "no" ∷ codes "nos" ∷ codes "nr" ∷ codes "num" ∷ codes "number" ∷ codes "numero" ∷ codes "n" ∷ codes "iss" ∷
    codes "issue" ∷ codes "heft" ∷ codes "h" ∷ codes "fasc" ∷ codes "fascicule" ∷ codes "fascicolo" ∷ []
words OfPages =
    codes "p" ∷ codes "pp" ∷ codes "pg" ∷ codes "pgs" ∷ codes "page" ∷ codes "pages" ∷ codes "s" ∷ codes "seite" ∷
    codes "seiten" ∷ codes "art" ∷ codes "article" ∷ []
words OfMonth =
    codes "jan" ∷ codes "january" ∷ codes "feb" ∷ codes "february" ∷ codes "mar" ∷ codes "march" ∷ codes "apr" ∷ codes "april" ∷
    codes "may" ∷ codes "jun" ∷ codes "june" ∷ codes "jul" ∷ codes "july" ∷ codes "aug" ∷ codes "august" ∷ codes "sep" ∷
    codes "sept" ∷ codes "september" ∷ codes "oct" ∷ codes "october" ∷ codes "nov" ∷ codes "november" ∷ codes "dec" ∷
    codes "december" ∷ []

-- one of these words, in capital or small letters
abbrev pub is_one_of : List Text → Text → Bool
is_one_of others word = list_any (λ other. str_eq_ignore_ascii_case word other) others

-- how many letters a text begins with
abbrev pub letters : Text → ℕ
letters t = prefix_len is_ascii_alphabetic t

-- a space, a full stop or a colon
abbrev pub is_gap : ℕ → Bool
is_gap b = b == 0x20 || b == 0x2e || b == 0x3a

-- how many of these a text begins with
abbrev pub gap : Text → ℕ
gap t = prefix_len is_gap t

-- one letter, as in `v. 12`, but not `p`, as in `p45`
abbrev pub needs_gap : Text → Bool
needs_gap word = (length word == 1) && not (to_ascii_lowercase (slice_index word 0) == 0x70)

-- the letters are such a word, and these many bytes are between it and what is next
abbrev pub is_word : Word → Text → ℕ → Bool
is_word word name after = is_one_of (words word) name && (nat_lt 0 after || not (needs_gap name))

-- how many bytes the word takes with which a text begins, and what is between it and what is next
abbrev pub word_length : Word → Text → Option ℕ
word_length word t =
    let n = letters t in
    let after = gap (drop n t) in
    if is_word word (take n t) after then Some (n + after) else None
