-- After all steps, those of versions and old keys change nothing.
use Rattle.std.proofs.Common.{◌≡◌, List, [], ◌∷◌, ◌++◌, Bool, true, false, cond, not, ◌&&◌, refl, sym, ◌∙◌, subst, inl, inr, get_or, take, map}
use Rattle.std.specs.Prelude.{codes, slice_get}
use Rattle.std.specs.List.{All, list_all}
use Rattle.std.specs.Str.{bytes_eq}
use Rattle.std.proofs.lemmas.Bool.{not-true}
use Rattle.std.proofs.lemmas.List.Sums.{AllPass-from_list_all}
use Rattle.std.proofs.lemmas.List.Elements.{All-append, All-cons, All-map}
use Rattle.text_model.specs.Texts.{Text}
use Rattle.kev_read.specs.Pairs.{KeyValue, all_of, first_of}
use Rattle.openurl_reading.specs.Steps.{Step, unchanged, replacing, taken, after}
use Rattle.openurl_reading.specs.Values.{most_values}
use Rattle.openurl_reading.specs.Versions.{is_other, correction}
use Rattle.openurl_reading.specs.OldKeys.{OldKey, old_keys, copies, copied, copying}
use Rattle.openurl_reading.specs.IdentifiedNumbers.{identified_steps}
use Rattle.openurl_reading.specs.DublinCore.{is_core, creator, is_typed, core_type, core_journal, core_source, core_part, core_year, year_step}
use Rattle.openurl_reading.specs.DublinCore.{core_parts, of_core_title, is_in_journal, is_of_core_book, core_titles, core_steps}
use Rattle.openurl_reading.specs.Titles.{is_titled, title_key, title_keys, of_title, titling, titlings}
use Rattle.openurl_reading.specs.Formats.{formatted, format_of, format_step}
use Rattle.openurl_reading.specs.Kinds.{kind_of}
use Rattle.openurl_reading.specs.Citations.{without_date, citing_steps}
use Rattle.openurl_reading.specs.Texts.{text_steps}
use Rattle.openurl_reading.specs.Referrers.{referrer_of, referrer_step}
use Rattle.openurl_reading.specs.Numbers.{first_issn, first_eissn, first_isbn, issn_step, eissn_step, isbn_step}
use Rattle.openurl_reading.specs.Dates.{date_keys, first_date, date_step}
use Rattle.work_identifiers.specs.declared.namespace.Namespace.{Namespace}
use Rattle.work_identifiers.specs.declared.namespace.Namespace.TheVariants.{Doi, Pmid, Oclc, Pmc, Arxiv}
use Rattle.openurl_reading.specs.Identifiers.{nameable, naming, namings}
use Rattle.openurl_reading.specs.Pages.{first_page, last_page, first_page_step, last_page_step}
use Rattle.openurl_reading.specs.Volumes.{filling, added_issue, volume, issue, added_issue_step, volume_step, issue_step}
use Rattle.openurl_reading.proofs.CitingKeeps.{filling_keeps, citing_keep}
use Rattle.openurl_reading.proofs.Copied.{copied-keeps, copying_keeps}
use Rattle.openurl_reading.proofs.Each.{one_has}
use Rattle.openurl_reading.proofs.Filled.{MakesSome, KeepsKey, filled_unchanged, filled-keeps, all_keep_filled, copies_fill}
use Rattle.openurl_reading.proofs.IdentifiedNumbers.{identified_steps_keep}
use Rattle.openurl_reading.proofs.Led.{led-keeps}
use Rattle.openurl_reading.proofs.NamedPreprints.{named-keeps}
use Rattle.openurl_reading.proofs.Others.{bytes_eq-same}
use Rattle.openurl_reading.proofs.Stages.{after_dates, after_volumes, kind_steps, led_steps, last_steps}
use Rattle.openurl_reading.proofs.TextsKept.{texts_keep}
use Rattle.openurl_reading.proofs.Values.{values_after, all_of-taken-own, all_of-after}

-- steps of other keys, by a test over a list
pub apart : (steps : List Step) (key : Text) → list_all (λ step. not (bytes_eq step.key key)) steps ≡ true → All (λ step. bytes_eq step.key key ≡ false) steps
apart steps key h k d g = not-true _ (AllPass-from_list_all (λ step. not (bytes_eq step.key key)) steps h k d g)

-- steps of other keys leave the values of a key
pub same_after : (steps : List Step) (pairs : List KeyValue) (key : Text) → list_all (λ step. not (bytes_eq step.key key)) steps ≡ true
    → all_of (after steps pairs) key ≡ all_of pairs key
same_after steps pairs key h = all_of-after steps pairs key (apart steps key h)

-- ---- versions and encoding

corrected-own : (value : Text) (values : List Text) (b : Bool) → is_other value (slice_get values 0) ≡ b
    → is_other value (slice_get (values_after (cond b (replacing (value ∷ [])) unchanged) values) 0) ≡ false
corrected-own value values true h = rw (bytes_eq-same value) refl
corrected-own value values false h = h

pub correction_settles : (key value : Text) (before now : List KeyValue) → all_of now key ≡ all_of (taken before (correction key value)) key
    → is_other value (first_of now key) ≡ false
correction_settles key value before now e =
    subst (λ values. is_other value (slice_get values 0) ≡ false) (sym (e ∙ all_of-taken-own (correction key value) before))
    (corrected-own value (all_of before key) (is_other value (first_of before key)) refl)

-- ---- keys that are filled from others

first_values : MakesSome (take most_values)
first_values v vs = (v, take 19 vs, refl)

pub first_referrer : MakesSome (λ sids. map referrer_of (take 1 sids))
first_referrer v vs = (referrer_of v, map referrer_of (take 0 vs), refl)

abbrev pub referral : OldKey
referral = record { old = codes "sid"; new = codes "rfr_id" }

naming_keeps : (key : Text) (namespace : Namespace) → KeepsKey key (naming namespace)
naming_keeps key namespace = inr (λ p. inl (named-keeps namespace (nameable namespace p) (all_of p (codes "rft_id"))))

namings_keep : (key : Text) → All (KeepsKey key) namings
namings_keep key =
    All-cons (KeepsKey key) (naming Oclc) (naming Pmc ∷ naming Pmid ∷ naming Arxiv ∷ naming Doi ∷ []) (naming_keeps key Oclc)
    (All-cons (KeepsKey key) (naming Pmc) (naming Pmid ∷ naming Arxiv ∷ naming Doi ∷ []) (naming_keeps key Pmc)
    (All-cons (KeepsKey key) (naming Pmid) (naming Arxiv ∷ naming Doi ∷ []) (naming_keeps key Pmid)
    (All-cons (KeepsKey key) (naming Arxiv) (naming Doi ∷ []) (naming_keeps key Arxiv) (one_has (KeepsKey key) (naming Doi) (naming_keeps key Doi)))))

pub led_keep : (key : Text) → bytes_eq (codes "rft.date") key ≡ false → All (KeepsKey key) led_steps
led_keep key h =
    All-cons (KeepsKey key) referrer_step (issn_step ∷ eissn_step ∷ isbn_step ∷ date_step ∷ after_dates)
    (inr (λ p. inl (filled-keeps _ (all_of p (codes "rfr_id")))))
    (All-cons (KeepsKey key) issn_step (eissn_step ∷ isbn_step ∷ date_step ∷ after_dates)
    (inr (λ p. inl (led-keeps (first_issn p) (first_of p (codes "rft.issn")))))
    (All-cons (KeepsKey key) eissn_step (isbn_step ∷ date_step ∷ after_dates) (inr (λ p. inl (led-keeps (first_eissn p) (first_of p (codes "rft.eissn")))))
    (All-cons (KeepsKey key) isbn_step (date_step ∷ after_dates) (inr (λ p. inl (led-keeps (first_isbn p) (first_of p (codes "rft.isbn")))))
    (All-cons (KeepsKey key) date_step after_dates (inl h)
    (All-cons (KeepsKey key) added_issue_step (volume_step ∷ issue_step ∷ after_volumes)
    (inr (λ p. inl (led-keeps (added_issue p) (first_of p (codes "rft.issue")))))
    (All-cons (KeepsKey key) volume_step (issue_step ∷ after_volumes) (inr (λ p. inl (led-keeps (volume p) (first_of p (codes "rft.volume")))))
    (All-cons (KeepsKey key) issue_step after_volumes (inr (λ p. inl (led-keeps (issue p) (first_of p (codes "rft.issue")))))
    (All-cons (KeepsKey key) last_page_step (first_page_step ∷ namings) (inr (λ p. inl (led-keeps (last_page p) (first_of p (codes "rft.epage")))))
    (All-cons (KeepsKey key) first_page_step namings (inr (λ p. inl (led-keeps (first_page p) (first_of p (codes "rft.spage"))))) (namings_keep key))))))))))

formatted-keeps : (pairs : List KeyValue) → (formatted pairs).keeps ≡ true
formatted-keeps [] = refl
formatted-keeps (pair ∷ pairs) = filled-keeps (format_of (kind_of (pair ∷ pairs)) ∷ []) (all_of (pair ∷ pairs) (codes "rft_val_fmt"))

titling_keeps : (key title : Text) → KeepsKey key (titling title)
titling_keeps key title = inr (λ p. inl (copied-keeps (not (is_titled p) && bytes_eq title (title_key (kind_of p))) (of_title title) p))

pub titlings_keep : (key : Text) → All (KeepsKey key) titlings
titlings_keep key = All-map (KeepsKey key) titling title_keys (λ k d h. titling_keeps key (get_or title_keys k d))

pub format_keeps : (key : Text) → KeepsKey key format_step
format_keeps key = inr (λ p. inl (formatted-keeps p))

pub core_parts_keep : (key : Text) → All (KeepsKey key) core_parts
core_parts_keep key =
    let volume = filling (codes "rft.volume") (core_part (λ found. found.volume)) in
    let issue = filling (codes "rft.issue") (core_part (λ found. found.issue)) in
    let pages = filling (codes "rft.pages") (core_part (λ found. found.pages)) in
    All-cons (KeepsKey key) volume (issue ∷ pages ∷ year_step ∷ []) (filling_keeps key (codes "rft.volume") (core_part (λ found. found.volume)))
    (All-cons (KeepsKey key) issue (pages ∷ year_step ∷ []) (filling_keeps key (codes "rft.issue") (core_part (λ found. found.issue)))
    (All-cons (KeepsKey key) pages (year_step ∷ []) (filling_keeps key (codes "rft.pages") (core_part (λ found. found.pages)))
    (one_has (KeepsKey key) year_step
    (inr (λ p. inl (led-keeps (without_date (first_date date_keys p) (core_year p)) (first_of p (codes "rft.date"))))))))

core_steps_keep : (key : Text) → All (KeepsKey key) core_steps
core_steps_keep key =
    All-cons (KeepsKey key) (copying is_core creator) (copying is_typed core_type ∷ core_source ∷ core_parts ++ core_titles)
    (copying_keeps key is_core creator)
    (All-cons (KeepsKey key) (copying is_typed core_type) (core_source ∷ core_parts ++ core_titles) (copying_keeps key is_typed core_type)
    (All-cons (KeepsKey key) core_source (core_parts ++ core_titles) (filling_keeps key (codes "rft.jtitle") core_journal)
    (All-append (KeepsKey key) core_parts core_titles (core_parts_keep key)
    (All-cons (KeepsKey key) (copying is_in_journal (of_core_title (codes "rft.atitle"))) (copying is_of_core_book (of_core_title (codes "rft.btitle")) ∷ [])
    (copying_keeps key is_in_journal (of_core_title (codes "rft.atitle")))
    (one_has (KeepsKey key) (copying is_of_core_book (of_core_title (codes "rft.btitle")))
    (copying_keeps key is_of_core_book (of_core_title (codes "rft.btitle"))))))))

pub last_keep : (key : Text) → bytes_eq (codes "rft.date") key ≡ false → All (KeepsKey key) last_steps
last_keep key h =
    All-append (KeepsKey key) citing_steps (text_steps ++ led_steps) (citing_keep key)
    (All-append (KeepsKey key) text_steps led_steps (texts_keep key) (led_keep key h))

-- the steps after those of Dublin Core
abbrev pub after_core : List Step
after_core = titlings ++ format_step ∷ last_steps

pub after_core_keep : (key : Text) → bytes_eq (codes "rft.date") key ≡ false → All (KeepsKey key) after_core
after_core_keep key h =
    All-append (KeepsKey key) titlings (format_step ∷ last_steps) (titlings_keep key)
    (All-cons (KeepsKey key) format_step last_steps (format_keeps key) (last_keep key h))

abbrev pub later_steps : List Step
later_steps = identified_steps ++ core_steps ++ after_core

pub later_keep : (key : Text) → bytes_eq (codes "rft.date") key ≡ false → All (KeepsKey key) later_steps
later_keep key h =
    All-append (KeepsKey key) identified_steps (core_steps ++ after_core) (identified_steps_keep key)
    (All-append (KeepsKey key) core_steps after_core (core_steps_keep key) (after_core_keep key h))

old_apart : All (λ key. list_all (λ step. not (bytes_eq step.key key.old)) later_steps ≡ true) old_keys
old_apart = AllPass-from_list_all (λ key. list_all (λ step. not (bytes_eq step.key key.old)) later_steps) old_keys refl

new_apart : All (λ key. bytes_eq (codes "rft.date") key.new ≡ false) old_keys
new_apart k d h = not-true _ (AllPass-from_list_all (λ key. not (bytes_eq (codes "rft.date") key.new)) old_keys refl k d h)

pub all_apart : All (λ key. All (λ other. bytes_eq other.new key.old ≡ false) old_keys) old_keys
all_apart k d h j e g =
    let key = get_or old_keys k d in
    not-true _ (AllPass-from_list_all (λ other. not (bytes_eq other.new key.old)) old_keys
    (AllPass-from_list_all (λ key. list_all (λ other. not (bytes_eq other.new key.old)) old_keys) old_keys refl k d h) j e g)

pub copies_settle : (before : List KeyValue) → All (λ key. copied key (after last_steps (after kind_steps (after copies before))) ≡ unchanged) old_keys
copies_settle before k d h =
    let key = get_or old_keys k d in
    let copied_all = after copies before in
    filled_unchanged (take most_values) key (after later_steps copied_all) refl
    (all_keep_filled key later_steps copied_all (apart later_steps key.old (old_apart k d h)) (later_keep key.new (new_apart k d h))
    (copies_fill old_keys before first_values all_apart k d h))
