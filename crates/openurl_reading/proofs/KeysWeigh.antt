-- How large pairs are after versions, old keys, what the kind gives, and the source.
use Rattle.std.proofs.Common.{◌≡◌, ℕ, ◌+◌, ◌≤◌, ◌*◌, List, [], ◌∷◌, ◌++◌, map, take, Bool, true, false, cond}
use Rattle.std.proofs.Common.{refl, ap, ◌∙◌, subst, sym, length, arith, inl, inr, get_or, not}
use Rattle.std.specs.Prelude.{codes, nat_eq}
use Rattle.std.specs.List.{sum_by, starts_with, list_all}
use Rattle.std.specs.Str.{bytes_eq}
use Rattle.std.proofs.lemmas.List.Sums.{sum_by-take-le, sum_by-cons, AllPass-from_list_all}
use Rattle.std.proofs.lemmas.List.{length-append}
use Rattle.text_model.specs.Texts.{Text}
use Rattle.kev_read.specs.Pairs.{KeyValue, all_of, first_of}
use Rattle.openurl_reading.specs.Steps.{unchanged, replacing, taken, after}
use Rattle.openurl_reading.specs.Versions.{version, is_other, correction}
use Rattle.openurl_reading.specs.declared.kinds.Kind.{Kind}
use Rattle.openurl_reading.specs.declared.kinds.Kind.TheVariants.{Book, Dissertation, Journal}
use Rattle.openurl_reading.specs.Kinds.{kind_of}
use Rattle.openurl_reading.specs.Fields.{number_fields, identifier_fields, fields}
use Rattle.openurl_reading.specs.OldKeys.{OldKey, old_keys, copy, copying, copies}
use Rattle.openurl_reading.specs.IdentifiedNumbers.{identified, number_key, own_numbers, identified_step, identified_steps}
use Rattle.openurl_reading.specs.DublinCore.{is_core, creator, is_typed, core_type, core_source, core_parts, core_titles, core_steps}
use Rattle.openurl_reading.specs.Titles.{title_key, of_title, titlings}
use Rattle.openurl_reading.specs.Formats.{format_of, format_step}
use Rattle.openurl_reading.specs.Values.{most_values}
use Rattle.openurl_reading.specs.Citations.{citing_steps}
use Rattle.openurl_reading.specs.Texts.{text_steps}
use Rattle.openurl_reading.specs.Referrers.{namespace, referrer_of, referrer_step}
use Rattle.work_identifiers.specs.declared.namespace.Namespace.{Namespace}
use Rattle.work_identifiers.specs.declared.namespace.Namespace.TheVariants.{Doi, Pmid, Oclc, Pmc, Arxiv}
use Rattle.work_identifiers.specs.declared.numbers.StandardNumber.{StandardNumber}
use Rattle.work_identifiers.specs.declared.numbers.StandardNumber.TheVariants.{Issn, Isbn}
use Rattle.work_identifiers.specs.Forms.{IsIdentifier}
use Rattle.work_identifiers.specs.Uris.{uri_of}
use Rattle.openurl_reading.proofs.Additions.{AreDaysAll}
use Rattle.openurl_reading.proofs.Cited.{AreCitedLight, citing_weighs}
use Rattle.openurl_reading.proofs.Copied.{IsCopyOf, no_copy, one_copy}
use Rattle.openurl_reading.proofs.CoreCopied.{creator-is, type-is, titles-is}
use Rattle.openurl_reading.proofs.FieldsCopied.{number-is, identifier-is}
use Rattle.openurl_reading.proofs.FoundAre.{AreFound}
use Rattle.openurl_reading.proofs.Identified.{IsPlain, AreIdentified}
use Rattle.openurl_reading.proofs.IdentifiedNumbers.{led_alone_weighs}
use Rattle.openurl_reading.proofs.KeysSettle.{all_apart, same_after}
use Rattle.openurl_reading.proofs.PartsSourced.{ArePlacedLight, parts_weigh}
use Rattle.openurl_reading.proofs.Sourced.{AreNamesLight, source_step_weighs}
use Rattle.openurl_reading.proofs.Stages.{kind_steps}
use Rattle.openurl_reading.proofs.TextsWeigh.{AreTextsLight, texts_weigh}
use Rattle.openurl_reading.proofs.Titled.{titlings-are}
use Rattle.openurl_reading.proofs.Totals.{total, total_taken, filled_weighs, shares, shares-le, shares-same, olds, copies_weigh}

-- the greatest weight of a format
abbrev pub AreFormatsLight : (Text → ℕ) → ℕ → Type 0
AreFormatsLight g f = (kind : Kind) → g (format_of kind) ≤ f

-- the greatest weight of a number, a date, one of its days, or the namespace of a source, and that of the identifiers of a namespace
pub record AreLight (g : Text → ℕ) (m : ℕ) (u : Namespace → ℕ) : Type 0 where
  pub found : AreFound (λ n. g n ≤ m)
  pub days : (pairs : List KeyValue) → AreDaysAll (λ n. g n ≤ m) pairs
  pub version : g version ≤ m
  pub source : (sid : Text) → g (referrer_of sid) ≤ m + g sid
  pub journal : AreNamesLight g
  pub text : AreTextsLight g
  pub identified : AreIdentified
  pub identifier : (namespace : Namespace) (n : Text) → IsPlain namespace → IsIdentifier namespace n → g n ≤ u namespace
  pub uri : (namespace : Namespace) (n : Text) → IsIdentifier namespace n → g (uri_of namespace n) ≤ u namespace

-- one of each namespace whose identifiers are derived
abbrev pub all_three : (Namespace → ℕ) → ℕ
all_three u = u Doi + u Pmid + u Oclc

-- one of each other namespace
abbrev pub both_others : (Namespace → ℕ) → ℕ
both_others u = u Pmc + u Arxiv

-- ---- versions and encoding

pub correction_weighs : (g : Text → ℕ) (key value : Text) (pairs : List KeyValue) → total g (taken pairs (correction key value)) ≤ g value + total g pairs
correction_weighs g key value pairs =
    omega (arith, total_taken g (correction key value) pairs, by_test (is_other value (first_of pairs key)))
  where
    by_test : (b : Bool) → sum_by g (cond b (replacing (value ∷ [])) unchanged).values ≤ g value
    by_test true = omega (arith, sum_by-cons g value [])
    by_test false = omega arith

-- ---- old keys, what the kind gives, and the source

source_weighs : (g : Text → ℕ) (m : ℕ) (u : Namespace → ℕ) → AreLight g m u → (sids : List Text)
    → sum_by g (map referrer_of (take 1 sids)) ≤ m + sum_by g sids
source_weighs g m u light [] = omega arith
source_weighs g m u light (sid ∷ sids) = omega (arith, sum_by-cons g (referrer_of sid) [], sum_by-cons g sid sids, light.source sid)

titlings_weigh : (g : Text → ℕ) (pairs : List KeyValue) → total g (after titlings pairs) ≤ sum_by g (all_of pairs (codes "title")) + total g pairs
titlings_weigh g pairs =
    let titles = all_of pairs (codes "title") in
    let key = of_title (title_key (kind_of pairs)) in
    elim (titlings-are pairs) [
      | inl same ↦ subst (λ all. total g all ≤ sum_by g titles + total g pairs) (sym same) (omega arith)
      | inr one ↦ subst (λ all. total g all ≤ sum_by g titles + total g pairs) (sym one)
          (omega (
            arith,
            total_taken g (copy key) pairs,
            filled_weighs g (take most_values titles) (all_of pairs key.new),
            sum_by-take-le g titles most_values,
          ))
    ]

format_weighs : (g : Text → ℕ) (f : ℕ) → AreFormatsLight g f → (pairs : List KeyValue) → total g (taken pairs format_step) ≤ f + total g pairs
format_weighs g f light [] = omega arith
format_weighs g f light (pair ∷ pairs) =
    let all = pair ∷ pairs in
    let format = format_of (kind_of all) in
    omega (
      arith,
      total_taken g format_step all,
      filled_weighs g (format ∷ []) (all_of all (codes "rft_val_fmt")),
      sum_by-cons g format [],
      light (kind_of all),
    )

copy_of_weighs : (g : Text → ℕ) (old : Text) (pairs next : List KeyValue) → IsCopyOf old pairs next → total g next ≤ sum_by g (all_of pairs old) + total g pairs
copy_of_weighs g old pairs next (no_copy same) =
    subst (λ all. total g all ≤ sum_by g (all_of pairs old) + total g pairs) (sym same) (omega arith)
copy_of_weighs g old pairs next (one_copy new may one) =
    let key : OldKey = record { old = old; new = new } in
    subst (λ all. total g all ≤ sum_by g (all_of pairs old) + total g pairs) (sym one)
    (omega (
      arith,
      total_taken g (copy key) pairs,
      filled_weighs g (take most_values (all_of pairs old)) (all_of pairs new),
      sum_by-take-le g (all_of pairs old) most_values,
    ))

fields_weigh : (g : Text → ℕ) (pairs : List KeyValue)
    → total g (after fields pairs) ≤ sum_by g (all_of pairs (codes "number")) + sum_by g (all_of pairs (codes "identifier")) + total g pairs
fields_weigh g pairs =
    let next = after number_fields pairs in
    let same : sum_by g (all_of next (codes "identifier")) ≡ sum_by g (all_of pairs (codes "identifier")) =
    ap (sum_by g) (same_after number_fields pairs (codes "identifier") refl) in
    omega (
      arith,
      copy_of_weighs g (codes "number") pairs next (number-is pairs),
      copy_of_weighs g (codes "identifier") next (after identifier_fields next) (identifier-is next),
      same,
    )

number_weighs : (g : Text → ℕ) (m : ℕ) (u : Namespace → ℕ) → AreLight g m u → (number : StandardNumber) (pairs : List KeyValue)
    → total g (taken pairs (identified_step number)) ≤ m + total g pairs
number_weighs g m u light number pairs =
    omega (
      arith,
      total_taken g (identified_step number) pairs,
      led_alone_weighs g m (own_numbers number pairs) (identified number pairs) (first_of pairs (number_key number)) (light.found.identified number pairs),
    )

core_weighs : (g : Text → ℕ) (w : ℕ) → AreNamesLight g → ArePlacedLight g w → (pairs : List KeyValue) → total g (after core_steps pairs)
    ≤ sum_by g (all_of pairs (codes "rft.creator")) + sum_by g (all_of pairs (codes "rft.type")) + sum_by g (all_of pairs (codes "rft.source"))
    + sum_by g (all_of pairs (codes "rft.title")) + 4 * w + total g pairs
core_weighs g w light placed pairs =
    let first = taken pairs (copying is_core creator) in
    let second = taken first (copying is_typed core_type) in
    let third = taken second core_source in
    let fourth = after core_parts third in
    let types : sum_by g (all_of first (codes "rft.type")) ≡ sum_by g (all_of pairs (codes "rft.type")) =
    ap (sum_by g) (same_after (copying is_core creator ∷ []) pairs (codes "rft.type") refl) in
    let sources : sum_by g (all_of second (codes "rft.source")) ≡ sum_by g (all_of pairs (codes "rft.source")) =
    ap (sum_by g) (same_after (copying is_core creator ∷ copying is_typed core_type ∷ []) pairs (codes "rft.source") refl) in
    let titles : sum_by g (all_of fourth (codes "rft.title")) ≡ sum_by g (all_of pairs (codes "rft.title")) =
    ap (sum_by g) (same_after (copying is_core creator ∷ copying is_typed core_type ∷ core_source ∷ core_parts) pairs (codes "rft.title") refl) in
    omega (
      arith,
      copy_of_weighs g (codes "rft.creator") pairs first (creator-is pairs),
      copy_of_weighs g (codes "rft.type") first second (type-is first),
      source_step_weighs g light second,
      parts_weigh g w placed third,
      copy_of_weighs g (codes "rft.title") fourth (after core_titles fourth) (titles-is fourth),
      types,
      sources,
      titles,
    )

-- old keys have what they had before the fields
olds_after_fields : (g : Text → ℕ) (pairs : List KeyValue) → shares g (olds old_keys) (after fields pairs) ≡ shares g (olds old_keys) pairs
olds_after_fields g pairs =
    shares-same g (olds old_keys) (after fields pairs) pairs (λ k d h. same_after fields pairs (get_or (olds old_keys) k d)
    (AllPass-from_list_all (λ key. list_all (λ step. not (bytes_eq step.key key)) fields) (olds old_keys) refl k d h))

pub keys_weigh : (g : Text → ℕ) (m f w : ℕ) (u : Namespace → ℕ) → AreLight g m u → AreFormatsLight g f → AreCitedLight g w → ArePlacedLight g w
    → (before : List KeyValue)
    → total g (taken (after text_steps (after citing_steps (after kind_steps (after copies (after fields before))))) referrer_step)
    ≤ 3 * m + f + 9 * w + 2 * total g before
keys_weigh g m f w u light formats cited sourced before =
    let pairs = after fields before in
    let copied = after copies pairs in
    let numbered = after identified_steps copied in
    let core = after core_steps numbered in
    let titled = after titlings core in
    let kinds = taken titled format_step in
    let placed = after citing_steps kinds in
    let texts = after text_steps placed in
    let sids = all_of texts (codes "sid") in
    let all = total_taken g referrer_step texts in
    let few = filled_weighs g (map referrer_of (take 1 sids)) (all_of texts (codes "rfr_id")) in
    let same : sum_by g sids ≡ sum_by g (all_of before (codes "sid")) =
    ap (sum_by g) (same_after text_steps placed (codes "sid") refl ∙ same_after citing_steps kinds (codes "sid") refl
    ∙ same_after kind_steps copied (codes "sid") refl ∙ same_after copies pairs (codes "sid") refl
    ∙ same_after fields before (codes "sid") refl) in
    let under : (key : Text) → list_all (λ step. not (bytes_eq step.key key)) identified_steps ≡ true
    → list_all (λ step. not (bytes_eq step.key key)) copies ≡ true → list_all (λ step. not (bytes_eq step.key key)) fields ≡ true
    → sum_by g (all_of numbered key) ≡ sum_by g (all_of before key) =
    λ key k h i. ap (sum_by g) (same_after identified_steps copied key k ∙ same_after copies pairs key h ∙ same_after fields before key i) in
    let titles : sum_by g (all_of core (codes "title")) ≡ sum_by g (all_of before (codes "title")) =
    ap (sum_by g) (same_after core_steps numbered (codes "title") refl) ∙ under (codes "title") refl refl refl in
    let each = shares-le g
    (codes "number" ∷ codes "identifier" ∷ codes "rft.creator" ∷ codes "rft.type" ∷ codes "rft.source" ∷ codes "rft.title" ∷ codes "title" ∷ codes "sid" ∷
    olds old_keys)
    before refl in
    omega (
      arith,
      all,
      few,
      source_weighs g m u light sids,
      same,
      texts_weigh g light.text placed,
      citing_weighs g w cited kinds,
      format_weighs g f formats titled,
      titlings_weigh g core,
      titles,
      core_weighs g w light.journal sourced numbered,
      number_weighs g m u light Issn copied,
      number_weighs g m u light Isbn (taken copied (identified_step Issn)),
      under (codes "rft.creator") refl refl refl,
      under (codes "rft.type") refl refl refl,
      under (codes "rft.source") refl refl refl,
      under (codes "rft.title") refl refl refl,
      copies_weigh g old_keys pairs all_apart,
      olds_after_fields g before,
      fields_weigh g before,
      each,
    )

pub formats_short : AreFormatsLight (λ n. length n) 33
formats_short Book = omega arith
formats_short Dissertation = omega arith
formats_short Journal = omega arith

pub source_short : (sid : Text) → length (referrer_of sid) ≤ 13 + length sid
source_short sid = by_test (starts_with nat_eq sid namespace)
  where
    by_test : (b : Bool) → length (cond b sid (namespace ++ sid)) ≤ 13 + length sid
    by_test true = omega arith
    by_test false = omega (arith, length-append namespace sid)
