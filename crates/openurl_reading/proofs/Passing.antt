-- A value that counts under a key counts under another one, and what steps need for it.
use Rattle.std.proofs.Common.{◌≡◌, List, [], ◌∷◌, map, take, Bool, true, false, cond, not, ◌&&◌, ◌||◌}
use Rattle.std.proofs.Common.{refl, subst, get_or}
use Rattle.std.specs.Prelude.{codes}
use Rattle.std.specs.List.{All}
use Rattle.std.specs.Str.{bytes_eq}
use Rattle.std.proofs.lemmas.Bool.{and_parts, and_from, not-true}
use Rattle.std.proofs.lemmas.List.Sums.{AllPass-from_list_all}
use Rattle.std.proofs.lemmas.List.Elements.{All-cons, All-head, All-tail, All-take}
use Rattle.text_model.specs.Texts.{Text}
use Rattle.kev_read.specs.Pairs.{KeyValue, all_of, first_of}
use Rattle.openurl_reading.specs.Counting.{is_free, is_void, is_blank, is_any, is_prefix, row_keys, is_accepted, accepted, counting, most_pairs}
use Rattle.openurl_reading.specs.Keys.{is_one_of}
use Rattle.openurl_reading.specs.Keys.{named}
use Rattle.openurl_reading.specs.Steps.{Step, unchanged, replacing, taken, after}
use Rattle.openurl_reading.specs.Values.{most_values}
use Rattle.openurl_reading.specs.Versions.{version, encoding, is_other, correction, versions}
use Rattle.openurl_reading.specs.OldKeys.{OldKey, old_keys, copy}
use Rattle.openurl_reading.proofs.Each.{none_has, one_has, each_taken, each_of_key, each_filled}
use Rattle.openurl_reading.proofs.Values.{same_key}

abbrev pub AreAccepted : List KeyValue → Type 0
AreAccepted pairs = All (λ pair. is_accepted pair ≡ true) pairs

pub accepted_pass : (pairs : List KeyValue) → AreAccepted (accepted pairs)
accepted_pass [] = none_has (λ pair. is_accepted pair ≡ true)
accepted_pass (pair ∷ pairs) = by_test (is_accepted pair) refl (accepted_pass pairs)
  where
    by_test : (b : Bool) → is_accepted pair ≡ b → AreAccepted (accepted pairs) → AreAccepted (cond b (pair ∷ accepted pairs) (accepted pairs))
    by_test true h rest = All-cons (λ p. is_accepted p ≡ true) pair (accepted pairs) h rest
    by_test false h rest = rest

pub counting_pass : (pairs : List KeyValue) → AreAccepted (counting pairs)
counting_pass pairs = All-take (λ p. is_accepted p ≡ true) most_pairs (accepted (map named pairs)) (accepted_pass (map named pairs))

-- ---- a value that counts under a key counts under another one

-- the other key is free, is a key of rows only if the first is one, and is no `rft_id`
abbrev pub allows : Text → Text → Bool
allows old new = is_free new && (not (is_one_of row_keys new) || is_one_of row_keys old) && not (bytes_eq new (codes "rft_id"))

three_false : (a b c : Bool) → not (a || b || c) ≡ true → (a ≡ false) × (b ≡ false) × (c ≡ false)
three_false true b c h = cc
three_false false true c h = cc
three_false false false true h = cc
three_false false false false h = (refl, refl, refl)

row_false : (row any other : Bool) → row && any ≡ false → not other || row ≡ true → other && any ≡ false
row_false true any true h g = h
row_false false any true h g = cc
row_false row any false h g = refl

passes_on : (old new v : Text) → allows old new ≡ true → is_accepted (record { key = old; value = v }) ≡ true
    → is_accepted (record { key = new; value = v }) ≡ true
passes_on old new v h g =
    let may = and_parts _ _ h in
    let keys = and_parts _ _ may.0 in
    let no = three_false (is_blank v) (is_one_of row_keys old && is_any v) (bytes_eq old (codes "rft_id") && is_prefix v) (and_parts _ _ g).1 in
    let row = row_false (is_one_of row_keys old) (is_any v) (is_one_of row_keys new) no.1 keys.1 in
    let id : bytes_eq new (codes "rft_id") ≡ false = not-true _ may.1 in
    let void : not (is_void (record { key = new; value = v })) ≡ true = rw (no.0, row, id) refl in
    and_from _ _ keys.0 void

pub not_blank : (key v : Text) → is_accepted (record { key = key; value = v }) ≡ true → is_blank v ≡ false
not_blank key v g = (three_false (is_blank v) _ _ (and_parts _ _ g).1).0

-- ---- values that steps give

abbrev pub Passes : Text → Text → Type 0
Passes key value = is_accepted (record { key = key; value = value }) ≡ true

pub under_pass : (pairs : List KeyValue) (key : Text) → AreAccepted pairs → All (Passes key) (all_of pairs key)
under_pass pairs key all =
    each_of_key (λ pair. is_accepted pair ≡ true) (Passes key) key
    (λ pair has passes. subst (λ k. is_accepted (record { key = k; value = pair.value }) ≡ true) (same_key pair.key key has) passes) pairs all

pub step_passes : (step : Step) (pairs : List KeyValue) → All (Passes step.key) (step.change pairs).values → AreAccepted pairs → AreAccepted (taken pairs step)
step_passes step pairs values all = each_taken (λ pair. is_accepted pair ≡ true) step pairs values all

correction_passes : (key value : Text) (pairs : List KeyValue) → Passes key value → AreAccepted pairs → AreAccepted (taken pairs (correction key value))
correction_passes key value pairs passes all = step_passes (correction key value) pairs (by_test (is_other value (first_of pairs key))) all
  where
    by_test : (b : Bool) → All (Passes key) (cond b (replacing (value ∷ [])) unchanged).values
    by_test true = one_has (Passes key) value passes
    by_test false = none_has (Passes key)

pub versions_pass : (pairs : List KeyValue) → AreAccepted pairs → AreAccepted (after versions pairs)
versions_pass pairs all =
    let first = taken pairs (correction (codes "ctx_ver") version) in
    correction_passes (codes "ctx_enc") encoding (taken first (correction (codes "url_ver") version)) refl
    (correction_passes (codes "url_ver") version first refl (correction_passes (codes "ctx_ver") version pairs refl all))

pub copies_pass : (keys : List OldKey) (pairs : List KeyValue) → All (λ key. allows key.old key.new ≡ true) keys → AreAccepted pairs
    → AreAccepted (after (map copy keys) pairs)
copies_pass [] pairs allowed all = all
copies_pass (key ∷ keys) pairs allowed all =
    let P : OldKey → Type 0 = λ key. allows key.old key.new ≡ true in
    let values = all_of pairs key.old in
    let may = All-head P key keys allowed in
    let old = under_pass pairs key.old all in
    let new : All (Passes key.new) (take most_values values) =
    All-take (Passes key.new) most_values values (λ k d h. passes_on key.old key.new (get_or values k d) may (old k d h)) in
    copies_pass keys (taken pairs (copy key)) (All-tail P key keys allowed)
    (step_passes (copy key) pairs (each_filled (Passes key.new) (take most_values values) (all_of pairs key.new) new) all)

pub old_keys_allow : All (λ key. allows key.old key.new ≡ true) old_keys
old_keys_allow = AllPass-from_list_all (λ key. allows key.old key.new) old_keys refl
