-- The values that steps read are those of the request.
use Rattle.std.proofs.Common.{◌≡◌, List, [], ◌∷◌, ◌++◌, map, Bool, true, false, cond, not, ◌||◌, refl, subst, sym, take, get_or, Some, ◌<◌, length, inl, inr}
use Rattle.std.specs.Prelude.{codes, Contains}
use Rattle.std.specs.List.{All, filter_map, flat_map, list_all}
use Rattle.std.specs.Str.{bytes_eq}
use Rattle.std.proofs.lemmas.Bool.{not-true}
use Rattle.std.proofs.lemmas.List.Sums.{AllPass-from_list_all}
use Rattle.std.proofs.lemmas.List.{get_or-map, length-map}
use Rattle.std.proofs.lemmas.List.Elements.{All-take, All-filter, All-head, All-tail, Contains-get_or, Contains-append_left, Contains-append_right}
use Rattle.text_model.specs.Texts.{Text}
use Rattle.kev_read.specs.Pairs.{KeyValue, all_of, first_of}
use Rattle.work_identifiers.specs.declared.numbers.StandardNumber.TheVariants.{Issn, Isbn}
use Rattle.openurl_reading.specs.Counting.{is_accepted, most_pairs, accepted, counting}
use Rattle.openurl_reading.specs.Keys.{is_one_of}
use Rattle.openurl_reading.specs.Keys.{named}
use Rattle.openurl_reading.proofs.SmallKeys.{values_named}
use Rattle.openurl_reading.specs.Citations.{in_title}
use Rattle.openurl_reading.specs.Sources.{journal_in}
use Rattle.openurl_reading.specs.Steps.{unchanged, replacing, taken, after}
use Rattle.openurl_reading.specs.Values.{most_values}
use Rattle.openurl_reading.specs.Versions.{version, encoding, is_other, correction}
use Rattle.openurl_reading.specs.Fields.{number_fields, identifier_fields, fields}
use Rattle.openurl_reading.specs.OldKeys.{OldKey, old_keys, copy, copying, copies}
use Rattle.openurl_reading.specs.Kinds.{kind_of}
use Rattle.openurl_reading.specs.IdentifiedNumbers.{identified_step, identified_steps}
use Rattle.openurl_reading.specs.DublinCore.{is_core, creator, is_typed, core_type, core_journal, core_source, core_parts, core_titles, core_steps}
use Rattle.openurl_reading.specs.Titles.{title_key, of_title, titlings}
use Rattle.openurl_reading.specs.Formats.{format_of, format_step}
use Rattle.openurl_reading.specs.Texts.{text_steps}
use Rattle.openurl_reading.specs.Origins.{all_values, parts_of, sourced_values}
use Rattle.openurl_reading.proofs.Copied.{IsCopyOf, no_copy, one_copy}
use Rattle.openurl_reading.proofs.CoreCopied.{creator-is, type-is, titles-is}
use Rattle.openurl_reading.proofs.Each.{none_has, one_has, each_taken, each_of_key, each_filled}
use Rattle.openurl_reading.proofs.FieldsCopied.{number-is, identifier-is}
use Rattle.openurl_reading.proofs.Fillings.{each_filling}
use Rattle.openurl_reading.proofs.PartsPass.{parts_found}
use Rattle.openurl_reading.proofs.PartsSourced.{IsPlaced, place_map, each_parts}
use Rattle.openurl_reading.proofs.Sourced.{journal_found}
use Rattle.openurl_reading.proofs.Stages.{kind_steps, with_versions, with_fields}
use Rattle.openurl_reading.proofs.Titled.{titlings-are}
use Rattle.openurl_reading.proofs.Values.{same_key, all_of-taken}

-- the keys of versions, of the encoding and of the format
abbrev pub stated_keys : List Text
stated_keys = codes "ctx_ver" ∷ codes "url_ver" ∷ codes "ctx_enc" ∷ codes "rft_val_fmt" ∷ []

-- with those of numbers that may be found among identifiers
abbrev pub constant_keys : List Text
constant_keys = codes "rft.issn" ∷ codes "rft.isbn" ∷ stated_keys

abbrev pub IsNoConstant : Text → Type 0
IsNoConstant key = is_one_of constant_keys key ≡ false

-- unless it is under one of these keys, the value is one of these
abbrev pub IsSentBut : List Text → List Text → KeyValue → Type 0
IsSentBut keys sent pair = is_one_of keys pair.key ≡ false → Contains sent pair.value

abbrev pub IsSent : List Text → KeyValue → Type 0
IsSent sent pair = IsSentBut constant_keys sent pair

-- no constant, and no text
abbrev pub IsUnread : Text → Type 0
IsUnread key =
    IsNoConstant key × (list_all (λ step. not (bytes_eq step.key key)) text_steps ≡ true)

-- the values of each such key are among these
abbrev pub AreKept : List Text → List KeyValue → Type 0
AreKept sent pairs = (key : Text) → IsUnread key → All (Contains sent) (all_of pairs key)

contains_values : (pairs : List KeyValue) → All (λ pair. Contains (all_values pairs) pair.value) pairs
contains_values pairs k d h =
    let within : k < length (all_values pairs) = simp length-map h in
    subst (Contains (all_values pairs)) (get_or-map (λ (p : KeyValue). p.value) pairs k d d.value h)
    (Contains-get_or (all_values pairs) k d.value within)

abbrev pub AreValuesOf : List KeyValue → List KeyValue → Type 0
AreValuesOf request pairs = All (λ pair. Contains (all_values request) pair.value) pairs

pub counting_values : (request : List KeyValue) → AreValuesOf request (counting request)
counting_values request =
    let P : KeyValue → Type 0 = λ pair. Contains (all_values request) pair.value in
    let values : All P (map named request) =
    subst (λ values. All (λ pair. Contains values pair.value) (map named request)) (values_named request) (contains_values (map named request)) in
    All-take P most_pairs (accepted (map named request)) (All-filter is_accepted P (map named request) values)

-- ---- after versions, old keys, and what the kind gives

abbrev AreStated : List Text → List KeyValue → Type 0
AreStated sent pairs = All (IsSentBut stated_keys sent) pairs

correction_sent : (sent : List Text) (key value : Text) (pairs : List KeyValue) → (is_one_of stated_keys key ≡ false → Contains sent value)
    → AreStated sent pairs → AreStated sent (taken pairs (correction key value))
correction_sent sent key value pairs none all = each_taken P (correction key value) pairs (by_test (is_other value (first_of pairs key))) all
  where
    P : KeyValue → Type 0
    P = IsSentBut stated_keys sent

    by_test : (b : Bool) → All (λ v. P (record { key = key; value = v })) (cond b (replacing (value ∷ [])) unchanged).values
    by_test true = one_has (λ v. P (record { key = key; value = v })) value none
    by_test false = none_has (λ v. P (record { key = key; value = v }))

versions_sent : (sent : List Text) (pairs : List KeyValue) → AreStated sent pairs → AreStated sent (with_versions pairs)
versions_sent sent pairs all =
    let first = taken pairs (correction (codes "ctx_ver") version) in
    correction_sent sent (codes "ctx_enc") encoding (taken first (correction (codes "url_ver") version)) (λ other. cc)
    (correction_sent sent (codes "url_ver") version first (λ other. cc)
    (correction_sent sent (codes "ctx_ver") version pairs (λ other. cc) all))

-- the values of a key that is none of these are those of the request
pub under_but : (keys sent : List Text) (pairs : List KeyValue) (key : Text) → is_one_of keys key ≡ false → All (IsSentBut keys sent) pairs
    → All (Contains sent) (all_of pairs key)
under_but keys sent pairs key other all =
    each_of_key (IsSentBut keys sent) (Contains sent) key
    (λ pair has is. is (subst (λ k. is_one_of keys k ≡ false) (sym (same_key pair.key key has)) other)) pairs all

pub sent_under : (sent : List Text) (pairs : List KeyValue) (key : Text) → IsNoConstant key → All (IsSent sent) pairs → All (Contains sent) (all_of pairs key)
sent_under sent pairs key other all = under_but constant_keys sent pairs key other all

copies_sent : (keys sent : List Text) (copied : List OldKey) (pairs : List KeyValue) → All (λ key. is_one_of keys key.old ≡ false) copied
    → All (IsSentBut keys sent) pairs → All (IsSentBut keys sent) (after (map copy copied) pairs)
copies_sent keys sent [] pairs others all = all
copies_sent keys sent (key ∷ more) pairs others all =
    let P : OldKey → Type 0 = λ key. is_one_of keys key.old ≡ false in
    let Q : Text → Type 0 = λ v. IsSentBut keys sent (record { key = key.new; value = v }) in
    let values = all_of pairs key.old in
    let known : All (Contains sent) values = under_but keys sent pairs key.old (All-head P key more others) all in
    copies_sent keys sent more (taken pairs (copy key)) (All-tail P key more others)
    (each_taken (IsSentBut keys sent) (copy key) pairs
    (each_filled Q (take most_values values) (all_of pairs key.new) (All-take Q most_values values (λ k d h any. known k d h))) all)

none_stated : All (λ key. is_one_of stated_keys key.old ≡ false) old_keys
none_stated k d h = not-true _ (AllPass-from_list_all (λ key. not (is_one_of stated_keys key.old)) old_keys refl k d h)

titlings_sent : (sent : List Text) (pairs : List KeyValue) → All (IsSent sent) pairs → All (IsSent sent) (after titlings pairs)
titlings_sent sent pairs all =
    let key = of_title (title_key (kind_of pairs)) in
    elim (titlings-are pairs) [
      | inl same ↦ subst (All (IsSent sent)) (sym same) all
      | inr one ↦ subst (All (IsSent sent)) (sym one)
          (copies_sent constant_keys sent (key ∷ []) pairs (one_has (λ (key : OldKey). IsNoConstant key.old) key refl) all)
    ]

format_sent : (sent : List Text) (pairs : List KeyValue) → All (IsSent sent) pairs → All (IsSent sent) (taken pairs format_step)
format_sent sent [] all = all
format_sent sent (pair ∷ pairs) all =
    let Q : Text → Type 0 = λ v. IsSent sent (record { key = codes "rft_val_fmt"; value = v }) in
    let format = format_of (kind_of (pair ∷ pairs)) in
    each_taken (IsSent sent) format_step (pair ∷ pairs)
    (each_filled Q (format ∷ []) (all_of (pair ∷ pairs) (codes "rft_val_fmt")) (one_has Q format (λ other. cc))) all

copy_of_sent : (keys sent : List Text) (old : Text) (pairs next : List KeyValue) → is_one_of keys old ≡ false → IsCopyOf old pairs next
    → All (IsSentBut keys sent) pairs → All (IsSentBut keys sent) next
copy_of_sent keys sent old pairs next other (no_copy same) all = subst (All (IsSentBut keys sent)) (sym same) all
copy_of_sent keys sent old pairs next other (one_copy new may one) all =
    let key : OldKey = record { old = old; new = new } in
    subst (All (IsSentBut keys sent)) (sym one)
    (copies_sent keys sent (key ∷ []) pairs (one_has (λ (key : OldKey). is_one_of keys key.old ≡ false) key other) all)

fields_sent : (sent : List Text) (pairs : List KeyValue) → AreStated sent pairs → AreStated sent (after fields pairs)
fields_sent sent pairs all =
    let next = after number_fields pairs in
    copy_of_sent stated_keys sent (codes "identifier") next (after identifier_fields next) refl (identifier-is next)
    (copy_of_sent stated_keys sent (codes "number") pairs next refl (number-is pairs) all)

pub copied_sent : (sent : List Text) (pairs : List KeyValue) → All (λ pair. Contains sent pair.value) pairs
    → All (IsSentBut stated_keys sent) (after copies (with_fields pairs))
copied_sent sent pairs all =
    copies_sent stated_keys sent old_keys (with_fields pairs) none_stated
    (fields_sent sent (with_versions pairs) (versions_sent sent pairs (λ k d h other. all k d h)))

-- numbers among identifiers are under other keys
fewer : (a b c : Bool) → a || (b || c) ≡ false → c ≡ false
fewer true b c h = cc
fewer false true c h = cc
fewer false false c h = h

pub stated_sent : (sent : List Text) (pairs : List KeyValue) → All (IsSentBut stated_keys sent) pairs → All (IsSent sent) pairs
stated_sent sent pairs all k d h other = all k d h (fewer _ _ (is_one_of stated_keys (get_or pairs k d).key) other)

pub identified_sent : (sent : List Text) (pairs : List KeyValue) → All (IsSent sent) pairs → All (IsSent sent) (after identified_steps pairs)
identified_sent sent pairs all =
    each_taken (IsSent sent) (identified_step Isbn) (taken pairs (identified_step Issn)) (λ k d h other. cc)
    (each_taken (IsSent sent) (identified_step Issn) pairs (λ k d h other. cc) all)

-- the values of a request count as values, and so do the names and the parts of references in them
pub source_more : (request : List KeyValue) (n : Text) → Contains (all_values request) n → Contains (sourced_values request) n
source_more request n c =
    let all = all_values request in
    Contains-append_left (all ++ filter_map journal_in all) (flat_map (λ value. parts_of (in_title value)) all) n
    (Contains-append_left all (filter_map journal_in all) n c)

pub journal_sent : (request pairs : List KeyValue) → All (IsSent (all_values request)) pairs → (n : Text) → core_journal pairs ≡ Some n
    → Contains (sourced_values request) n
journal_sent request pairs sent n e =
    let all = all_values request in
    Contains-append_left (all ++ filter_map journal_in all) (flat_map (λ value. parts_of (in_title value)) all) n
    (Contains-append_right all (filter_map journal_in all) n (journal_found all pairs (sent_under all pairs (codes "rft.source") refl sent) n e))

pub parts_sent : (request pairs : List KeyValue) → All (IsSent (all_values request)) pairs
    → IsPlaced (Contains (sourced_values request)) (taken pairs core_source)
parts_sent request pairs sent found e =
    let all = all_values request in
    let parts = flat_map (λ value. parts_of (in_title value)) all in
    let sources : All (Contains all) (all_of (taken pairs core_source) (codes "rft.source")) =
    subst (All (Contains all)) (sym (all_of-taken core_source pairs (codes "rft.source") refl)) (sent_under all pairs (codes "rft.source") refl sent) in
    place_map (Contains parts) (Contains (sourced_values request)) found
    (λ n c. Contains-append_right (all ++ filter_map journal_in all) parts n c) (parts_found all (taken pairs core_source) sources found e)

pub typed_sent : (sent : List Text) (pairs : List KeyValue) → All (IsSent sent) pairs
    → All (IsSent sent) (taken (taken pairs (copying is_core creator)) (copying is_typed core_type))
typed_sent sent pairs all =
    let first = taken pairs (copying is_core creator) in
    copy_of_sent constant_keys sent (codes "rft.type") first (taken first (copying is_typed core_type)) refl (type-is first)
    (copy_of_sent constant_keys sent (codes "rft.creator") pairs first refl (creator-is pairs) all)

core_sent : (request pairs : List KeyValue) → All (IsSent (all_values request)) pairs → All (IsSent (sourced_values request)) (after core_steps pairs)
core_sent request pairs all =
    let sent = sourced_values request in
    let second = taken (taken pairs (copying is_core creator)) (copying is_typed core_type) in
    let third = taken second core_source in
    let fourth = after core_parts third in
    let typed = typed_sent (all_values request) pairs all in
    copy_of_sent constant_keys sent (codes "rft.title") fourth (after core_titles fourth) refl (titles-is fourth)
    (each_parts (IsSent sent) (Contains sent) (λ key v may contains other. contains) third (parts_sent request second typed)
    (each_filling (IsSent sent) (codes "rft.jtitle") core_journal second (λ n e other. journal_sent request second typed n e)
    (λ k d h other. source_more request (get_or second k d).value (typed k d h other))))

pub kind_sent : (request pairs : List KeyValue) → AreValuesOf request pairs
    → All (IsSent (sourced_values request)) (after kind_steps (after copies (with_fields pairs)))
kind_sent request pairs values =
    let sent = sourced_values request in
    let copied = after copies (with_fields pairs) in
    let all = all_values request in
    let numbered = after identified_steps copied in
    let core = after core_steps numbered in
    format_sent sent (after titlings core)
    (titlings_sent sent core
    (core_sent request numbered (identified_sent all copied (stated_sent all copied (copied_sent all pairs values)))))
