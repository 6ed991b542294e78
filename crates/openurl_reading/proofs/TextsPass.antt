-- What is read as text counts under its key.
use Rattle.std.proofs.Common.{◌≡◌, List, [], ◌∷◌, map, Bool, true, false, cond, not, ◌&&◌, ◌||◌, refl, sym, subst, get_or}
use Rattle.std.specs.Prelude.{codes}
use Rattle.std.specs.List.{All, list_all}
use Rattle.std.specs.Str.{bytes_eq}
use Rattle.std.proofs.lemmas.Bool.{and_parts, and_from, not-true}
use Rattle.std.proofs.lemmas.List.Elements.{All-head, All-map, All-tail, All-take}
use Rattle.std.proofs.lemmas.List.Sums.{fold-append}
use Rattle.text_model.specs.Texts.{Text}
use Rattle.kev_read.specs.Pairs.{KeyValue, all_of}
use Rattle.written_texts.specs.declared.readings.Role.{Role}
use Rattle.written_texts.specs.declared.readings.Role.TheVariants.{Title, Other}
use Rattle.written_texts.specs.Readings.{written}
use Rattle.openurl_reading.specs.Counting.{is_free, is_void, is_blank, row_keys}
use Rattle.openurl_reading.specs.Keys.{is_one_of}
use Rattle.openurl_reading.specs.Steps.{unchanged, replacing, taken, after}
use Rattle.openurl_reading.specs.Values.{most_values, values_of}
use Rattle.openurl_reading.specs.Texts.{are_read, texting, title_texts, other_texts, text_steps}
use Rattle.openurl_reading.proofs.Each.{none_has}
use Rattle.openurl_reading.proofs.Values.{same_key}
use Rattle.openurl_reading.proofs.Passing.{AreAccepted, Passes, not_blank, step_passes, under_pass}

-- what the law says
abbrev pub AreFilled : Type 0
AreFilled = (role : Role) (text : Text) → is_blank text ≡ false → is_blank (written role text) ≡ false

-- under the key each value counts that is not blank
abbrev pub is_open : Text → Bool
is_open key = is_free key && (not (is_one_of row_keys key) && not (bytes_eq key (codes "rft_id")))

-- what holds of each of these keys
pub one_of_has : (P : Text → Type 0) (keys : List Text) (key : Text) → is_one_of keys key ≡ true → All P keys → P key
one_of_has P [] key h all = cc
one_of_has P (k ∷ keys) key h all = by_test (bytes_eq k key) refl h (λ g. one_of_has P keys key g (All-tail P k keys all))
  where
    by_test : (b : Bool) → bytes_eq k key ≡ b → b || is_one_of keys key ≡ true → (is_one_of keys key ≡ true → P key) → P key
    by_test true e g rest = subst P (same_key k key e) (All-head P k keys all)
    by_test false e g rest = rest g

pub filled_passes : (key v : Text) → is_open key ≡ true → is_blank v ≡ false → Passes key v
filled_passes key v h blank =
    let parts = and_parts (is_free key) (not (is_one_of row_keys key) && not (bytes_eq key (codes "rft_id"))) h in
    let others = and_parts (not (is_one_of row_keys key)) (not (bytes_eq key (codes "rft_id"))) parts.1 in
    let row : is_one_of row_keys key ≡ false = not-true _ others.0 in
    let id : bytes_eq key (codes "rft_id") ≡ false = not-true _ others.1 in
    let void : not (is_void (record { key = key; value = v })) ≡ true = rw (blank, row, id) refl in
    and_from (is_free key) (not (is_void (record { key = key; value = v }))) parts.0 void

texting_passes : AreFilled → (role : Role) (key : Text) (pairs : List KeyValue) → is_open key ≡ true → AreAccepted pairs
    → AreAccepted (taken pairs (texting role key))
texting_passes filled role key pairs h all = step_passes (texting role key) pairs (by_test (are_read role (values_of pairs key))) all
  where
    known : All (Passes key) (values_of pairs key)
    known = All-take (Passes key) most_values (all_of pairs key) (under_pass pairs key all)

    by_test : (b : Bool) → All (Passes key) (cond b unchanged (replacing (map (written role) (values_of pairs key)))).values
    by_test true = none_has (Passes key)
    by_test false =
        All-map (Passes key) (written role) (values_of pairs key)
        (λ k d g. let v = get_or (values_of pairs key) k d in
        filled_passes key (written role v) h (filled role v (not_blank key v (known k d g))))

keys_pass : AreFilled → (role : Role) (keys : List Text) (pairs : List KeyValue) → list_all is_open keys ≡ true → AreAccepted pairs
    → AreAccepted (after (map (texting role) keys) pairs)
keys_pass filled role [] pairs h all = all
keys_pass filled role (key ∷ keys) pairs h all =
    let parts = and_parts (is_open key) (list_all is_open keys) h in
    keys_pass filled role keys (taken pairs (texting role key)) parts.1 (texting_passes filled role key pairs parts.0 all)

pub texts_pass : AreFilled → (pairs : List KeyValue) → AreAccepted pairs → AreAccepted (after text_steps pairs)
texts_pass filled pairs all =
    subst AreAccepted (sym (fold-append taken pairs (map (texting Title) title_texts) (map (texting Other) other_texts)))
    (keys_pass filled Other other_texts (after (map (texting Title) title_texts) pairs) refl (keys_pass filled Title title_texts pairs refl all))
