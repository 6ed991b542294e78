-- The fields of a form give their values to one of two keys each.
use Rattle.std.proofs.Common.{◌≡◌, List, ◌++◌, true, false, refl, ap, ◌∙◌, subst, get_or, inr, inl}
use Rattle.std.specs.Prelude.{codes, slice_get}
use Rattle.std.specs.List.{All}
use Rattle.std.specs.Option.{option_map_or}
use Rattle.std.specs.Str.{bytes_eq}
use Rattle.std.proofs.lemmas.List.Sums.{fold-append}
use Rattle.std.proofs.lemmas.List.Elements.{All-append, All-map}
use Rattle.text_model.specs.Texts.{Text}
use Rattle.kev_read.specs.Pairs.{KeyValue, all_of}
use Rattle.openurl_reading.specs.Fields.{has_isbn, is_of_book, of_number, number_fields, is_pubmed_number, is_of_pubmed, of_identifier}
use Rattle.openurl_reading.specs.Fields.{identifier_fields, fields}
use Rattle.openurl_reading.specs.OldKeys.{old_keys, copy, copies}
use Rattle.openurl_reading.specs.Steps.{Step, unchanged, taken, after}
use Rattle.openurl_reading.proofs.Copied.{IsCopyOf, copy_of_passes, choosing_first, choosing_second, choosing-is, choosing_keeps, choosing_settles}
use Rattle.openurl_reading.proofs.Filled.{KeepsKey, filled-keeps}
use Rattle.openurl_reading.proofs.KeysSettle.{apart, same_after, later_steps, later_keep}
use Rattle.openurl_reading.proofs.Passing.{AreAccepted}
use Rattle.openurl_reading.proofs.Stages.{kind_steps, last_steps}
use Rattle.openurl_reading.proofs.Values.{all_of-taken}

-- ---- the tests depend on the fields alone

book_by : (pairs other : List KeyValue) → all_of pairs (codes "number") ≡ all_of other (codes "number") → is_of_book pairs ≡ is_of_book other
book_by pairs other same = ap (λ values. option_map_or has_isbn (slice_get values 0) false) same

pubmed_by : (pairs other : List KeyValue) → all_of pairs (codes "identifier") ≡ all_of other (codes "identifier") → is_of_pubmed pairs ≡ is_of_pubmed other
pubmed_by pairs other same = ap (λ values. option_map_or is_pubmed_number (slice_get values 0) false) same

book_still : (pairs : List KeyValue) → is_of_book (taken pairs (copy (of_number (codes "rft.isbn")))) ≡ is_of_book pairs
book_still pairs =
    let step = copy (of_number (codes "rft.isbn")) in
    book_by (taken pairs step) pairs (all_of-taken step pairs (codes "number") refl)

pubmed_still : (pairs : List KeyValue) → is_of_pubmed (taken pairs (copy (of_identifier (codes "pmid")))) ≡ is_of_pubmed pairs
pubmed_still pairs =
    let step = copy (of_identifier (codes "pmid")) in
    pubmed_by (taken pairs step) pairs (all_of-taken step pairs (codes "identifier") refl)

-- ---- by the tests of the code

pub number_of_book : (pairs : List KeyValue) → is_of_book pairs ≡ true → after number_fields pairs ≡ taken pairs (copy (of_number (codes "rft.isbn")))
number_of_book pairs is = choosing_first is_of_book (of_number (codes "rft.isbn")) (of_number (codes "rft.issn")) pairs (book_still pairs) is

pub number_of_journal : (pairs : List KeyValue) → is_of_book pairs ≡ false → after number_fields pairs ≡ taken pairs (copy (of_number (codes "rft.issn")))
number_of_journal pairs is = choosing_second is_of_book (of_number (codes "rft.isbn")) (of_number (codes "rft.issn")) pairs is

pub number_of_pubmed : (pairs : List KeyValue) → is_of_pubmed pairs ≡ true
    → after identifier_fields pairs ≡ taken pairs (copy (of_identifier (codes "pmid")))
number_of_pubmed pairs is = choosing_first is_of_pubmed (of_identifier (codes "pmid")) (of_identifier (codes "id")) pairs (pubmed_still pairs) is

pub other_identifier : (pairs : List KeyValue) → is_of_pubmed pairs ≡ false
    → after identifier_fields pairs ≡ taken pairs (copy (of_identifier (codes "id")))
other_identifier pairs is = choosing_second is_of_pubmed (of_identifier (codes "pmid")) (of_identifier (codes "id")) pairs is

-- ---- what they copy

pub number-is : (pairs : List KeyValue) → IsCopyOf (codes "number") pairs (after number_fields pairs)
number-is pairs = choosing-is is_of_book (codes "number") (codes "rft.isbn") (codes "rft.issn") pairs refl refl (book_still pairs)

pub identifier-is : (pairs : List KeyValue) → IsCopyOf (codes "identifier") pairs (after identifier_fields pairs)
identifier-is pairs = choosing-is is_of_pubmed (codes "identifier") (codes "pmid") (codes "id") pairs refl refl (pubmed_still pairs)

pub fields_pass : (pairs : List KeyValue) → AreAccepted pairs → AreAccepted (after fields pairs)
fields_pass pairs all =
    let next = after number_fields pairs in
    copy_of_passes (codes "identifier") next (after identifier_fields next) (identifier-is next)
    (copy_of_passes (codes "number") pairs next (number-is pairs) all)

-- ---- they are not copied again

-- the steps after the number, and after both
abbrev after_fields : List Step
after_fields = copies ++ later_steps

abbrev after_number : List Step
after_number = identifier_fields ++ after_fields

copies_keep_key : (key : Text) → All (KeepsKey key) copies
copies_keep_key key =
    All-map (KeepsKey key) copy old_keys (λ k d h. inr (λ p. inl (filled-keeps _ (all_of p (get_or old_keys k d).new))))

fields_keep : (key : Text) → bytes_eq (codes "rft.date") key ≡ false → All (KeepsKey key) after_fields
fields_keep key h = All-append (KeepsKey key) copies later_steps (copies_keep_key key) (later_keep key h)

number_keeps : (key : Text) → bytes_eq (codes "rft.date") key ≡ false → All (KeepsKey key) after_number
number_keeps key h =
    All-append (KeepsKey key) identifier_fields after_fields (choosing_keeps key is_of_pubmed (of_identifier (codes "pmid")) (of_identifier (codes "id")))
    (fields_keep key h)

pub number_settles : (before : List KeyValue) → All (λ step. step.change (after after_number (after number_fields before)) ≡ unchanged) number_fields
number_settles before =
    let book = of_number (codes "rft.isbn") in
    let journal = of_number (codes "rft.issn") in
    choosing_settles is_of_book book journal before after_number (book_still before)
    (book_by (after after_number (after number_fields before)) before
    (same_after after_number (after number_fields before) (codes "number") refl ∙ same_after number_fields before (codes "number") refl))
    refl refl (apart after_number (codes "number") refl) (apart after_number (codes "number") refl)
    (number_keeps (codes "rft.isbn") refl) (number_keeps (codes "rft.issn") refl)

pub identifier_settles : (before : List KeyValue)
    → All (λ step. step.change (after after_fields (after identifier_fields before)) ≡ unchanged) identifier_fields
identifier_settles before =
    let pubmed = of_identifier (codes "pmid") in
    let other = of_identifier (codes "id") in
    choosing_settles is_of_pubmed pubmed other before after_fields (pubmed_still before)
    (pubmed_by (after after_fields (after identifier_fields before)) before
    (same_after after_fields (after identifier_fields before) (codes "identifier") refl ∙ same_after identifier_fields before (codes "identifier") refl))
    refl refl (apart after_fields (codes "identifier") refl) (apart after_fields (codes "identifier") refl)
    (fields_keep (codes "pmid") refl) (fields_keep (codes "id") refl)

pub fields_settle : (before : List KeyValue)
    → All (λ step. step.change (after last_steps (after kind_steps (after copies (after fields before)))) ≡ unchanged) fields
fields_settle before =
    let all = after fields before in
    subst (λ now. All (λ step. step.change now ≡ unchanged) fields) (fold-append taken all copies later_steps)
    (All-append (λ step. step.change (after after_fields all) ≡ unchanged) number_fields identifier_fields (number_settles before)
    (identifier_settles (after number_fields before)))
