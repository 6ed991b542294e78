-- The parts of a reference in the sources are put once.
use Rattle.std.proofs.Common.{◌≡◌, ◌⊎◌, List, ◌∷◌, ◌++◌, Bool, true, false, cond, Option, None, refl, ap, ◌∙◌, inl, inr}
use Rattle.std.specs.Prelude.{codes, take, slice_get}
use Rattle.std.specs.List.{All, filter_map}
use Rattle.std.specs.Option.{option_and_then}
use Rattle.std.specs.Str.{bytes_eq}
use Rattle.std.proofs.lemmas.List.Elements.{All-append, All-cons, All-tail}
use Rattle.text_model.specs.Texts.{Text}
use Rattle.kev_read.specs.Pairs.{KeyValue, all_of}
use Rattle.journal_references.specs.References.{Reference}
use Rattle.openurl_reading.specs.Citations.{unless_blank}
use Rattle.openurl_reading.specs.DublinCore.{is_core, core_reference, core_part, dated, year_step, core_parts, of_core_title, is_in_journal, is_of_core_book}
use Rattle.openurl_reading.specs.DublinCore.{core_titles}
use Rattle.openurl_reading.specs.OldKeys.{copying}
use Rattle.openurl_reading.specs.Sources.{most_sources, in_source, first_reference}
use Rattle.openurl_reading.specs.Steps.{Step, unchanged, taken, after}
use Rattle.openurl_reading.specs.Titles.{titlings}
use Rattle.openurl_reading.proofs.Copied.{copying_keeps}
use Rattle.openurl_reading.proofs.CoreFalls.{core_falls}
use Rattle.openurl_reading.proofs.CoreParts.{of_volume, of_issue, of_pages, each_part, no_part}
use Rattle.openurl_reading.proofs.CoreYear.{after_parts, year_settles}
use Rattle.openurl_reading.proofs.Filled.{KeepsKey}
use Rattle.openurl_reading.proofs.Fillings.{filling_settles}
use Rattle.openurl_reading.proofs.FoundAgain.{AreFoundAgain}
use Rattle.openurl_reading.proofs.KeysSettle.{same_after, core_parts_keep, after_core, after_core_keep}

abbrev pub after_article : List Step
after_article = copying is_of_core_book (of_core_title (codes "rft.btitle")) ∷ after_core

pub article_keeps : (key : Text) → bytes_eq (codes "rft.date") key ≡ false → All (KeepsKey key) after_article
article_keeps key h =
    All-cons (KeepsKey key) (copying is_of_core_book (of_core_title (codes "rft.btitle"))) after_core
    (copying_keeps key is_of_core_book (of_core_title (codes "rft.btitle"))) (after_core_keep key h)

titles_keep : (key : Text) → bytes_eq (codes "rft.date") key ≡ false → All (KeepsKey key) after_parts
titles_keep key h =
    All-cons (KeepsKey key) (copying is_in_journal (of_core_title (codes "rft.atitle"))) after_article
    (copying_keeps key is_in_journal (of_core_title (codes "rft.atitle"))) (article_keeps key h)

pub parts_keep : (key : Text) → bytes_eq (codes "rft.date") key ≡ false → All (KeepsKey key) (core_parts ++ after_parts)
parts_keep key h = All-append (KeepsKey key) core_parts after_parts (core_parts_keep key) (titles_keep key h)

-- ---- the reference afterwards

-- there is none, or the same
abbrev IsSameOrNone : List KeyValue → List KeyValue → Type 0
IsSameOrNone before now = (core_reference now ≡ None) ⊎ (core_reference now ≡ core_reference before)

reference_now : (before now : List KeyValue) → (is_core before ≡ false → is_core now ≡ false)
    → all_of now (codes "rft.source") ≡ all_of before (codes "rft.source") → IsSameOrNone before now
reference_now before now falls same =
    by_test (is_core before) (is_core now) (first_reference before) (first_reference now) falls
    (ap (λ values. slice_get (filter_map in_source (take most_sources values)) 0) same)
  where
    by_test : (a a' : Bool) (o o' : Option Reference) → (a ≡ false → a' ≡ false) → o' ≡ o
        → (cond a' o' None ≡ None) ⊎ (cond a' o' None ≡ cond a o None)
    by_test false a' o o' f e = inl (ap (λ c. cond c o' None) (f refl))
    by_test true true o o' f e = inr e
    by_test true false o o' f e = inl refl

part_falls : (part : Reference → Option Text) (before now : List KeyValue) → IsSameOrNone before now → core_part part before ≡ None → core_part part now ≡ None
part_falls part before now (inl none) h = no_part part now none
part_falls part before now (inr same) h = ap (λ r. option_and_then unless_blank (option_and_then part r)) same ∙ h

year_falls : (before now : List KeyValue) → IsSameOrNone before now → option_and_then dated (core_part (λ found. found.year) before) ≡ None
    → option_and_then dated (core_part (λ found. found.year) now) ≡ None
year_falls before now (inl none) h = ap (option_and_then dated) (no_part (λ found. found.year) now none)
year_falls before now (inr same) h = ap (λ r. option_and_then dated (option_and_then unless_blank (option_and_then (λ found. found.year) r))) same ∙ h

pub parts_settle : AreFoundAgain → (before : List KeyValue)
    → All (λ step. step.change (after after_parts (after core_parts before)) ≡ unchanged) core_parts
parts_settle laws before =
    let now = after after_parts (after core_parts before) in
    let first = taken before of_volume in
    let second = taken first of_issue in
    let third = taken second of_pages in
    let of_first = of_issue ∷ of_pages ∷ year_step ∷ after_parts in
    let of_second = of_pages ∷ year_step ∷ after_parts in
    let of_third = year_step ∷ after_parts in
    each_part (λ step. step.change now ≡ unchanged)
    (filling_settles (codes "rft.volume") (core_part (λ found. found.volume)) before now of_first refl (first_keep (codes "rft.volume") refl)
    (part_falls (λ found. found.volume) before now
    (reference_now before now (core_falls (core_parts ++ core_titles ++ titlings) before refl)
    (same_after (core_parts ++ after_parts) before (codes "rft.source") refl))))
    (filling_settles (codes "rft.issue") (core_part (λ found. found.issue)) first now of_second refl (second_keep (codes "rft.issue") refl)
    (part_falls (λ found. found.issue) first now
    (reference_now first now (core_falls (of_issue ∷ of_pages ∷ year_step ∷ core_titles ++ titlings) first refl)
    (same_after of_first first (codes "rft.source") refl))))
    (filling_settles (codes "rft.pages") (core_part (λ found. found.pages)) second now of_third refl (third_keep (codes "rft.pages") refl)
    (part_falls (λ found. found.pages) second now
    (reference_now second now (core_falls (of_pages ∷ year_step ∷ core_titles ++ titlings) second refl)
    (same_after of_second second (codes "rft.source") refl))))
    (year_settles laws third now refl
    (year_falls third now
    (reference_now third now (core_falls (year_step ∷ core_titles ++ titlings) third refl) (same_after of_third third (codes "rft.source") refl))))
  where
    first_keep : (key : Text) → bytes_eq (codes "rft.date") key ≡ false → All (KeepsKey key) (of_issue ∷ of_pages ∷ year_step ∷ after_parts)
    first_keep key h = All-tail (KeepsKey key) of_volume (of_issue ∷ of_pages ∷ year_step ∷ after_parts) (parts_keep key h)

    second_keep : (key : Text) → bytes_eq (codes "rft.date") key ≡ false → All (KeepsKey key) (of_pages ∷ year_step ∷ after_parts)
    second_keep key h = All-tail (KeepsKey key) of_issue (of_pages ∷ year_step ∷ after_parts) (first_keep key h)

    third_keep : (key : Text) → bytes_eq (codes "rft.date") key ≡ false → All (KeepsKey key) (year_step ∷ after_parts)
    third_keep key h = All-tail (KeepsKey key) of_pages (year_step ∷ after_parts) (second_keep key h)
