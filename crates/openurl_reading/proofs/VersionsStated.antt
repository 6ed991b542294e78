-- A reading states no other version than that of OpenURL 1.0, and no other encoding: the first steps correct it, and no later one changes it.
use Rattle.std.proofs.Common.{◌≡◌, List, [], ◌∷◌, ◌++◌, map, true, false, not, ◌||◌, refl, ap, ◌∙◌}
use Rattle.std.specs.Prelude.{codes, slice_get}
use Rattle.std.specs.List.{All, list_all}
use Rattle.std.specs.Str.{bytes_eq}
use Rattle.std.proofs.lemmas.Bool.{not-true}
use Rattle.std.proofs.lemmas.List.Sums.{AllPass-from_list_all}
use Rattle.text_model.specs.Texts.{Text}
use Rattle.kev_read.specs.Pairs.{KeyValue, has_key, all_of, first_of}
use Rattle.kev_read.specs.Refusal.{states_other_version}
use Rattle.openurl_reading.specs.Steps.{taken, after}
use Rattle.openurl_reading.specs.Versions.{version, encoding, is_other, correction}
use Rattle.openurl_reading.specs.Fields.{fields}
use Rattle.openurl_reading.specs.OldKeys.{copies}
use Rattle.openurl_reading.specs.Counting.{counting}
use Rattle.openurl_reading.specs.Reading.{normal_form, derived, with_derived, reading_of}
use Rattle.openurl_reading.proofs.Additions.{additions, all_derived}
use Rattle.openurl_reading.proofs.Each.{none_stays}
use Rattle.openurl_reading.proofs.KeysSettle.{same_after, correction_settles}
use Rattle.openurl_reading.proofs.Stages.{kind_steps, last_steps, with_versions, with_fields, normal_form-is}
use Rattle.openurl_reading.proofs.Values.{all_of-append}

-- what is stated under a key stays after the steps that correct it
stated : (pairs : List KeyValue) (key : Text) → list_all (λ step. not (bytes_eq step.key key)) last_steps ≡ true
    → list_all (λ step. not (bytes_eq step.key key)) kind_steps ≡ true → list_all (λ step. not (bytes_eq step.key key)) copies ≡ true
    → list_all (λ step. not (bytes_eq step.key key)) fields ≡ true → all_of (normal_form pairs) key ≡ all_of (with_versions pairs) key
stated pairs key a b c d =
    let second = with_versions pairs in
    let third = with_fields pairs in
    let fourth = after copies third in
    ap (λ ps. all_of ps key) (normal_form-is pairs) ∙ same_after last_steps (after kind_steps fourth) key a ∙ same_after kind_steps fourth key b
    ∙ same_after copies third key c ∙ same_after fields second key d

context_stated : (pairs : List KeyValue) → is_other version (first_of (normal_form pairs) (codes "ctx_ver")) ≡ false
context_stated pairs =
    let key = codes "ctx_ver" in
    let first = taken pairs (correction key version) in
    correction_settles key version pairs (normal_form pairs)
    (stated pairs key refl refl refl refl
    ∙ same_after (correction (codes "url_ver") version ∷ correction (codes "ctx_enc") encoding ∷ []) first key refl)

transport_stated : (pairs : List KeyValue) → is_other version (first_of (normal_form pairs) (codes "url_ver")) ≡ false
transport_stated pairs =
    let key = codes "url_ver" in
    let first = taken pairs (correction (codes "ctx_ver") version) in
    let second = taken first (correction key version) in
    correction_settles key version first (normal_form pairs)
    (stated pairs key refl refl refl refl ∙ same_after (correction (codes "ctx_enc") encoding ∷ []) second key refl)

encoding_named : (pairs : List KeyValue) → is_other encoding (first_of (normal_form pairs) (codes "ctx_enc")) ≡ false
encoding_named pairs =
    let key = codes "ctx_enc" in
    let first = taken pairs (correction (codes "ctx_ver") version) in
    let second = taken first (correction (codes "url_ver") version) in
    correction_settles key encoding second (normal_form pairs) (stated pairs key refl refl refl refl)

-- the keys that are derived are other ones
derived_apart : (key : Text) (pairs : List KeyValue) → All (λ addition. not (bytes_eq addition.key key) ≡ true) (additions pairs)
    → (rest : List KeyValue) → all_of (derived pairs ++ rest) key ≡ all_of rest key
derived_apart key pairs apart rest =
    all_of-append (derived pairs) rest key
    ∙ ap (λ vs. vs ++ all_of rest key)
    (ap (λ ps. map (λ p. p.value) ps)
    (none_stays (has_key key) (derived pairs)
    (all_derived (λ pair. has_key key pair ≡ false) pairs (λ k d h v e. not-true _ (apart k d h)))))

pub version_stated : (pairs : List KeyValue) → states_other_version (reading_of pairs).pairs ≡ false
version_stated pairs =
    let sent = counting pairs in
    let normal = normal_form sent in
    let context = derived_apart (codes "ctx_ver") normal
    (AllPass-from_list_all (λ addition. not (bytes_eq addition.key (codes "ctx_ver"))) (additions normal) refl) normal in
    let transport = derived_apart (codes "url_ver") normal
    (AllPass-from_list_all (λ addition. not (bytes_eq addition.key (codes "url_ver"))) (additions normal) refl) normal in
    ap (λ vs. is_other version (slice_get vs 0) || is_other version (first_of (with_derived normal) (codes "url_ver"))) context
    ∙ ap (λ b. b || is_other version (first_of (with_derived normal) (codes "url_ver"))) (context_stated sent)
    ∙ ap (λ vs. is_other version (slice_get vs 0)) transport ∙ transport_stated sent

pub encoding_stated : (pairs : List KeyValue) → is_other encoding (first_of (reading_of pairs).pairs (codes "ctx_enc")) ≡ false
encoding_stated pairs =
    let normal = normal_form (counting pairs) in
    ap (λ vs. is_other encoding (slice_get vs 0)) (derived_apart (codes "ctx_enc") normal
    (AllPass-from_list_all (λ addition. not (bytes_eq addition.key (codes "ctx_enc"))) (additions normal) refl) normal)
    ∙ encoding_named (counting pairs)
