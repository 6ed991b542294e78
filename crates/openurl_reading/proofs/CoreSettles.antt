-- The elements of Dublin Core give their values to other keys once.
use Rattle.std.proofs.Common.{◌≡◌, List, [], ◌∷◌, ◌++◌, Bool, true, false, cond, not, ◌&&◌, Option, None, refl, sym, ap, ◌∙◌, subst, inl, inr, lit<, take}
use Rattle.std.specs.Prelude.{codes, slice_get}
use Rattle.std.specs.List.{All, list_all}
use Rattle.std.specs.Option.{option_map_or, is_some}
use Rattle.std.specs.Str.{bytes_eq}
use Rattle.std.proofs.lemmas.List.Elements.{All-append, All-cons}
use Rattle.text_model.specs.Texts.{Text}
use Rattle.kev_read.specs.Pairs.{KeyValue, all_of}
use Rattle.openurl_reading.specs.declared.kinds.Kind.{Kind}
use Rattle.openurl_reading.specs.DublinCore.{is_core, creator, core_type, is_genre, is_typed, of_core_title}
use Rattle.openurl_reading.specs.DublinCore.{core_journal, core_source, core_parts}
use Rattle.openurl_reading.specs.DublinCore.{is_in_journal, is_book, is_of_core_book, core_titles, core_steps}
use Rattle.openurl_reading.specs.Formats.{format_step}
use Rattle.openurl_reading.specs.Kinds.{has, kind_of}
use Rattle.openurl_reading.specs.OldKeys.{OldKey, copying}
use Rattle.openurl_reading.specs.Sources.{most_sources, journal_in, first_journal, first_reference}
use Rattle.openurl_reading.specs.Steps.{Step, unchanged, taken, after}
use Rattle.openurl_reading.specs.Values.{most_values}
use Rattle.openurl_reading.specs.Titles.{titlings}
use Rattle.openurl_reading.proofs.CitingKeeps.{filling_keeps}
use Rattle.openurl_reading.proofs.CoreParts.{unfound_stays}
use Rattle.openurl_reading.proofs.CoreYear.{after_parts}
use Rattle.openurl_reading.proofs.PartsSettle.{after_article, parts_keep, parts_settle}
use Rattle.openurl_reading.proofs.FoundAgain.{AreFoundAgain}
use Rattle.openurl_reading.proofs.CitingSteps.{before_name}
use Rattle.openurl_reading.proofs.Copied.{copying-none, copying-failed, copying-made, not_copied}
use Rattle.openurl_reading.proofs.Copied.{copying_keeps, copying_settles, copying-filled, still_some}
use Rattle.openurl_reading.proofs.Each.{one_has}
use Rattle.openurl_reading.proofs.Fillings.{filling-none, filling_settles}
use Rattle.openurl_reading.proofs.Identified.{first_found}
use Rattle.openurl_reading.proofs.Filled.{HasSome, IsFilled, KeepsKey, keeps_filled, fill-fills}
use Rattle.openurl_reading.proofs.KeysSettle.{apart, same_after, after_core, format_keeps, last_keep}
use Rattle.openurl_reading.proofs.KindStays.{AreKindsSame, kind_same, kind_stays, kinds_after}
use Rattle.openurl_reading.proofs.Stages.{titled_steps, led_steps, last_steps}
use Rattle.openurl_reading.proofs.TextsSome.{has_some, last_some, last_none}
use Rattle.openurl_reading.proofs.Titled.{some_values}
use Rattle.openurl_reading.proofs.Values.{all_of-taken}
use Rattle.openurl_reading.proofs.CoreFalls.{core_falls, and-false, and_falls, IsTitleApart, all_kept, no_title, of_dissertation, title_apart}

-- ---- they are not copied again

abbrev after_source : List Step
after_source = core_parts ++ after_parts

abbrev after_type : List Step
after_type = core_source ∷ after_source

abbrev after_creator : List Step
after_creator = copying is_typed core_type ∷ after_type

type_keeps : (key : Text) → bytes_eq (codes "rft.date") key ≡ false → All (KeepsKey key) after_type
type_keeps key h = All-cons (KeepsKey key) core_source after_source (filling_keeps key (codes "rft.jtitle") core_journal) (parts_keep key h)

creator_keeps : (key : Text) → bytes_eq (codes "rft.date") key ≡ false → All (KeepsKey key) after_creator
creator_keeps key h = All-cons (KeepsKey key) (copying is_typed core_type) after_type (copying_keeps key is_typed core_type) (type_keeps key h)

creator_settles : (before : List KeyValue)
    → (copying is_core creator).change (after after_creator (taken before (copying is_core creator))) ≡ unchanged
creator_settles before =
    copying_settles is_core creator before after_creator refl (apart after_creator (codes "rft.creator") refl) (creator_keeps (codes "rft.au") refl)
    (λ fails. copying-failed is_core creator (after after_creator (taken before (copying is_core creator)))
    (core_falls (core_steps ++ titlings) before refl fails))

type_settles : (before : List KeyValue) → (copying is_typed core_type).change (after after_type (taken before (copying is_typed core_type))) ≡ unchanged
type_settles before =
    let now = after after_type (taken before (copying is_typed core_type)) in
    copying_settles is_typed core_type before after_type refl (apart after_type (codes "rft.type") refl) (type_keeps (codes "rft.genre") refl)
    (λ fails. copying-failed is_typed core_type now
    (and_falls (is_core before) (is_core now) _ _
    (core_falls (copying is_typed core_type ∷ core_source ∷ core_parts ++ core_titles ++ titlings) before refl)
    (ap (λ values. option_map_or is_genre (slice_get values 0) false)
    (same_after (copying is_typed core_type ∷ after_type) before (codes "rft.type") refl)) fails))

journal_falls : (a a' : Bool) (o o' : Option Text) → (a ≡ false → a' ≡ false) → o' ≡ o → cond a o None ≡ None → cond a' o' None ≡ None
journal_falls false a' o o' f e h = ap (λ c. cond c o' None) (f refl)
journal_falls true true o o' f e h = e ∙ h
journal_falls true false o o' f e h = refl

source_settles : (before : List KeyValue) → core_source.change (after after_source (taken before core_source)) ≡ unchanged
source_settles before =
    let now = after after_source (taken before core_source) in
    filling_settles (codes "rft.jtitle") core_journal before now after_source refl (parts_keep (codes "rft.jtitle") refl)
    (journal_falls (is_core before) (is_core now) (first_journal before) (first_journal now)
    (core_falls (core_source ∷ core_parts ++ core_titles ++ titlings) before refl)
    (ap (λ values. first_found journal_in (take most_sources values)) (same_after (core_source ∷ after_source) before (codes "rft.source") refl)))

-- ---- the titles

abbrev after_titles : List Step
after_titles = format_step ∷ last_steps

titles_keep : (key : Text) → bytes_eq (codes "rft.date") key ≡ false → All (KeepsKey key) after_titles
titles_keep key h = All-cons (KeepsKey key) format_step last_steps (format_keeps key) (last_keep key h)

titles_some : (key : Text) (pairs : List KeyValue) → list_all (λ step. not (bytes_eq step.key key)) led_steps ≡ true
    → list_all (λ step. not (bytes_eq step.key key)) before_name ≡ true
    → bytes_eq (codes "rft_val_fmt") key ≡ false → has_some (after after_titles pairs) key ≡ has_some pairs key
titles_some key pairs h g apart =
    last_some key (taken pairs format_step) h g ∙ ap (λ values. is_some (slice_get values 0)) (all_of-taken format_step pairs key apart)

titles_none : (key : Text) (pairs : List KeyValue) → list_all (λ step. not (bytes_eq step.key key)) led_steps ≡ true
    → list_all (λ step. not (bytes_eq step.key key)) before_name ≡ true
    → bytes_eq (codes "rft_val_fmt") key ≡ false → all_of pairs key ≡ [] → all_of (after after_titles pairs) key ≡ []
titles_none key pairs h g apart none = last_none key (taken pairs format_step) h g (all_of-taken format_step pairs key apart ∙ none)

still_filled : (key : Text) (before now : List KeyValue) → bytes_eq (codes "rft.date") key ≡ false → now ≡ before → IsFilled (of_core_title key) before
    → IsFilled (of_core_title key) (after after_titles now)
unfolding IsFilled
still_filled key before now h same (inl none) =
    inl (titles_none (codes "rft.title") now refl refl refl (ap (λ p. all_of p (codes "rft.title")) same ∙ none))
still_filled key before now h same (inr some) =
    inr (still_some key after_titles now (titles_keep key h) (subst (λ p. HasSome (all_of p key)) (sym same) some))

copy_filled : (test : List KeyValue → Bool) (key : OldKey) (before : List KeyValue) → bytes_eq key.new key.old ≡ false → test before ≡ true
    → IsFilled key (taken before (copying test key))
copy_filled test key before apart passes =
    subst (IsFilled key) (sym (copying-made test key before passes)) (fill-fills (take most_values) key before some_values apart)

article_settles : (before : List KeyValue) → let key = of_core_title (codes "rft.atitle") in
    (copying is_in_journal key).change (after after_article (taken before (copying is_in_journal key))) ≡ unchanged
article_settles before = settles (title_apart next)
  where
    article : OldKey
    article = of_core_title (codes "rft.atitle")

    book : OldKey
    book = of_core_title (codes "rft.btitle")

    first : List KeyValue
    first = taken before (copying is_in_journal article)

    next : List KeyValue
    next = taken first (copying is_of_core_book book)

    titled : List KeyValue
    titled = after titlings next

    now : List KeyValue
    now = after after_titles titled

    journals : all_of next (codes "rft.jtitle") ≡ all_of before (codes "rft.jtitle")
    journals = same_after core_titles before (codes "rft.jtitle") refl

    by_test : (b : Bool) → is_in_journal before ≡ b → titled ≡ next → (copying is_in_journal article).change now ≡ unchanged
    by_test true e same =
        copying-filled is_in_journal article now
        (still_filled (codes "rft.atitle") next titled refl same
        (keeps_filled article (copying is_of_core_book book) first refl (copying_keeps (codes "rft.atitle") is_of_core_book book)
        (copy_filled is_in_journal article before refl e)))
    by_test false e same =
        copying-failed is_in_journal article now
        (and_falls (is_core before) (is_core now) (has before (codes "rft.jtitle")) (has now (codes "rft.jtitle"))
        (core_falls (core_titles ++ titlings) before refl)
        (titles_some (codes "rft.jtitle") titled refl refl refl
        ∙ ap (λ values. is_some (slice_get values 0)) (ap (λ p. all_of p (codes "rft.jtitle")) same ∙ journals)) e)

    settles : IsTitleApart next titled → (copying is_in_journal article).change now ≡ unchanged
    settles (all_kept same) = by_test (is_in_journal before) refl same
    settles (no_title none) = copying-none is_in_journal article now (titles_none (codes "rft.title") titled refl refl refl none)
    settles (of_dissertation same kind none) =
        copying-failed is_in_journal article now
        (ap (λ values. is_core now && is_some (slice_get values 0)) (titles_none (codes "rft.jtitle") titled refl refl refl (same 6 [] (lit< tt) ∙ none))
        ∙ and-false (is_core now))

book_settles : (before : List KeyValue) → let key = of_core_title (codes "rft.btitle") in
    (copying is_of_core_book key).change (after after_core (taken before (copying is_of_core_book key))) ≡ unchanged
book_settles before = settles (title_apart next)
  where
    book : OldKey
    book = of_core_title (codes "rft.btitle")

    next : List KeyValue
    next = taken before (copying is_of_core_book book)

    titled : List KeyValue
    titled = after titlings next

    now : List KeyValue
    now = after after_titles titled

    kinds : AreKindsSame titled next → kind_of now ≡ kind_of next
    kinds same =
        kind_stays (taken titled format_step) ∙ kind_same (taken titled format_step) titled (kinds_after (format_step ∷ []) titled refl)
        ∙ kind_same titled next same

    same_test : (some some' : Bool) (kind kind' : Kind) → some ≡ some' → kind ≡ kind' → not some && is_book kind ≡ not some' && is_book kind'
    same_test some some' kind kind' e g = rw (e, g) refl

    by_test : (b : Bool) → is_of_core_book before ≡ b → titled ≡ next → (copying is_of_core_book book).change now ≡ unchanged
    by_test true e same =
        copying-filled is_of_core_book book now
        (still_filled (codes "rft.btitle") next titled refl same (copy_filled is_of_core_book book before refl e))
    by_test false e same =
        let still = same ∙ not_copied is_of_core_book book before e in
        copying-failed is_of_core_book book now
        (and_falls (is_core before) (is_core now) _ _ (core_falls (copying is_of_core_book book ∷ titlings) before refl)
        (same_test (has_some now (codes "rft.jtitle")) (has_some before (codes "rft.jtitle")) (kind_of now) (kind_of before)
        (titles_some (codes "rft.jtitle") titled refl refl refl ∙ ap (λ p. has_some p (codes "rft.jtitle")) still)
        (kinds (subst (λ p. AreKindsSame p next) (sym same) (kinds_after [] next refl)) ∙ ap kind_of (not_copied is_of_core_book book before e))) e)

    settles : IsTitleApart next titled → (copying is_of_core_book book).change now ≡ unchanged
    settles (all_kept same) = by_test (is_of_core_book before) refl same
    settles (no_title none) = copying-none is_of_core_book book now (titles_none (codes "rft.title") titled refl refl refl none)
    settles (of_dissertation same kind none) =
        let known = is_core now in
        let free = not (has now (codes "rft.jtitle")) in
        copying-failed is_of_core_book book now
        (ap (λ k. known && (free && is_book k)) (kinds same ∙ kind) ∙ ap (λ b. known && b) (and-false free) ∙ and-false known)

pub core_settles : AreFoundAgain → (before : List KeyValue) → All (λ step. step.change (after last_steps (after titled_steps before)) ≡ unchanged) core_steps
core_settles laws before =
    let first = taken before (copying is_core creator) in
    let second = taken first (copying is_typed core_type) in
    let sourced = taken second core_source in
    let filled = after core_parts sourced in
    let third = taken filled (copying is_in_journal (of_core_title (codes "rft.atitle"))) in
    let P : Step → Type 0 = λ step. step.change (after last_steps (after titled_steps before)) ≡ unchanged in
    All-cons P (copying is_core creator) (copying is_typed core_type ∷ core_source ∷ core_parts ++ core_titles) (creator_settles before)
    (All-cons P (copying is_typed core_type) (core_source ∷ core_parts ++ core_titles) (type_settles first)
    (All-cons P core_source (core_parts ++ core_titles) (source_settles second)
    (All-append P core_parts core_titles (parts_settle laws sourced)
    (All-cons P (copying is_in_journal (of_core_title (codes "rft.atitle"))) (copying is_of_core_book (of_core_title (codes "rft.btitle")) ∷ [])
    (article_settles filled) (one_has P (copying is_of_core_book (of_core_title (codes "rft.btitle"))) (book_settles third))))))

-- ---- a request that is not Dublin Core

pub not_core_stays : (pairs : List KeyValue) → is_core pairs ≡ false → All (λ step. step.change pairs ≡ unchanged) core_steps
not_core_stays pairs fails =
    let P : Step → Type 0 = λ step. step.change pairs ≡ unchanged in
    let article = of_core_title (codes "rft.atitle") in
    let book = of_core_title (codes "rft.btitle") in
    All-cons P (copying is_core creator) (copying is_typed core_type ∷ core_source ∷ core_parts ++ core_titles)
    (copying-failed is_core creator pairs fails)
    (All-cons P (copying is_typed core_type) (core_source ∷ core_parts ++ core_titles)
    (copying-failed is_typed core_type pairs (ap (λ b. b && option_map_or is_genre (slice_get (all_of pairs (codes "rft.type")) 0) false) fails))
    (All-cons P core_source (core_parts ++ core_titles)
    (filling-none (codes "rft.jtitle") core_journal pairs (ap (λ b. cond b (first_journal pairs) None) fails))
    (All-append P core_parts core_titles (unfound_stays pairs (ap (λ b. cond b (first_reference pairs) None) fails))
    (All-cons P (copying is_in_journal article) (copying is_of_core_book book ∷ [])
    (copying-failed is_in_journal article pairs (ap (λ b. b && has pairs (codes "rft.jtitle")) fails))
    (one_has P (copying is_of_core_book book)
    (copying-failed is_of_core_book book pairs (ap (λ b. b && (not (has pairs (codes "rft.jtitle")) && is_book (kind_of pairs))) fails)))))))
