-- What is read as text is read as it is, and so the steps of texts change nothing after them.
use Rattle.std.proofs.Common.{◌≡◌, ℕ, zero, suc, List, [], ◌∷◌, ◌++◌, map, take, Bool, true, false, cond, not, ◌&&◌}
use Rattle.std.proofs.Common.{refl, sym, ap, ◌∙◌, subst, get_or, append-nil}
use Rattle.std.specs.List.{All, list_all}
use Rattle.std.specs.Str.{bytes_eq}
use Rattle.std.proofs.lemmas.Bool.{and_parts, and_from, not-true}
use Rattle.std.proofs.lemmas.List.Elements.{All-append, All-cons, All-head, All-map, All-tail}
use Rattle.std.proofs.lemmas.List.Sums.{AllPass-from_list_all, fold-append}
use Rattle.text_model.specs.Texts.{Text}
use Rattle.kev_read.specs.Pairs.{KeyValue, all_of}
use Rattle.written_texts.specs.declared.readings.Role.{Role}
use Rattle.written_texts.specs.declared.readings.Role.TheVariants.{Title, Other}
use Rattle.written_texts.specs.Readings.{written}
use Rattle.openurl_reading.specs.Steps.{Step, unchanged, replacing, taken, after}
use Rattle.openurl_reading.specs.Values.{most_values, values_of}
use Rattle.openurl_reading.specs.Canonical.{Under, IsText}
use Rattle.openurl_reading.specs.Texts.{are_read, as_texts, texting, title_texts, other_texts, text_steps}
use Rattle.openurl_reading.proofs.Each.{none_has}
use Rattle.openurl_reading.proofs.KeysSettle.{same_after}
use Rattle.openurl_reading.proofs.Others.{bytes_eq-same}
use Rattle.openurl_reading.proofs.Stages.{led_steps}
use Rattle.openurl_reading.proofs.Values.{values_after, all_of-after, all_of-taken-own}

-- what the law says
abbrev pub AreReadOnce : Type 0
AreReadOnce = (role : Role) (text : Text) → written role (written role text) ≡ written role text

-- the first values are read as they are
abbrev pub HasRead : Role → List Text → Type 0
HasRead role values = are_read role (take most_values values) ≡ true

pub read_unchanged : (role : Role) (key : Text) (pairs : List KeyValue) → HasRead role (all_of pairs key) → (texting role key).change pairs ≡ unchanged
read_unchanged role key pairs is = ap (λ b. cond b unchanged (replacing (map (written role) (values_of pairs key)))) is

-- ---- values

one_read : (role : Role) (value : Text) → written role value ≡ value → bytes_eq (written role value) value ≡ true
one_read role value h = ap (λ t. bytes_eq t value) h ∙ bytes_eq-same value

some_read : (p : Text → Bool) (n : ℕ) (values : List Text) → list_all p values ≡ true → list_all p (take n values) ≡ true
some_read p zero values h = refl
some_read p (suc n) [] h = refl
some_read p (suc n) (v ∷ vs) h =
    let parts = and_parts (p v) (list_all p vs) h in and_from (p v) (list_all p (take n vs)) parts.0 (some_read p n vs parts.1)

written_read : AreReadOnce → (role : Role) (values : List Text) → are_read role (map (written role) values) ≡ true
written_read laws role [] = refl
written_read laws role (v ∷ vs) =
    and_from (bytes_eq (written role (written role v)) (written role v)) (are_read role (map (written role) vs))
    (one_read role (written role v) (laws role v)) (written_read laws role vs)

pub texts_read : (role : Role) (values : List Text) → All (IsText role) values → are_read role values ≡ true
texts_read role [] all = refl
texts_read role (v ∷ vs) all =
    and_from (bytes_eq (written role v) v) (are_read role vs) (one_read role v (All-head (IsText role) v vs all))
    (texts_read role vs (All-tail (IsText role) v vs all))

after_read : AreReadOnce → (role : Role) (values : List Text) → HasRead role (values_after (as_texts role (take most_values values)) values)
after_read laws role values = by_test (are_read role (take most_values values)) refl
  where
    made : List Text
    made = map (written role) (take most_values values)

    by_test : (b : Bool) → are_read role (take most_values values) ≡ b → HasRead role (values_after (cond b unchanged (replacing made)) values)
    by_test true e = e
    by_test false e =
        some_read (λ value. bytes_eq (written role value) value) most_values (made ++ [])
        (subst (λ vs. are_read role vs ≡ true) (sym (append-nil made)) (written_read laws role (take most_values values)))

-- ---- the steps of several keys

-- no key is another one
abbrev pub are_apart : List Text → Bool
are_apart [] = true
are_apart (key ∷ keys) =
    (list_all (λ other. not (bytes_eq other key)) keys && list_all (λ other. not (bytes_eq key other)) keys) && are_apart keys

keys_read : AreReadOnce → (role : Role) (keys : List Text) (pairs : List KeyValue) → are_apart keys ≡ true
    → All (λ key. HasRead role (all_of (after (map (texting role) keys) pairs) key)) keys
keys_read laws role [] pairs h = none_has (λ key. HasRead role (all_of pairs key))
keys_read laws role (key ∷ keys) pairs h =
    let parts = and_parts (list_all (λ other. not (bytes_eq other key)) keys && list_all (λ other. not (bytes_eq key other)) keys) (are_apart keys) h in
    let apart = and_parts (list_all (λ other. not (bytes_eq other key)) keys) (list_all (λ other. not (bytes_eq key other)) keys) parts.0 in
    let next = taken pairs (texting role key) in
    let others : All (λ step. bytes_eq step.key key ≡ false) (map (texting role) keys) =
    All-map (λ (step : Step). bytes_eq step.key key ≡ false) (texting role) keys
    (λ k d g. not-true _ (AllPass-from_list_all (λ other. not (bytes_eq other key)) keys apart.0 k d g)) in
    All-cons (λ k. HasRead role (all_of (after (map (texting role) keys) next) k)) key keys
    (subst (HasRead role) (sym (all_of-after (map (texting role) keys) next key others ∙ all_of-taken-own (texting role key) pairs))
    (after_read laws role (all_of pairs key)))
    (keys_read laws role keys next parts.1)

settled_keys : (role : Role) (keys : List Text) (now : List KeyValue) → All (λ key. HasRead role (all_of now key)) keys
    → All (λ step. step.change now ≡ unchanged) (map (texting role) keys)
settled_keys role keys now all =
    All-map (λ (step : Step). step.change now ≡ unchanged) (texting role) keys (λ k d h. read_unchanged role (get_or keys k d) now (all k d h))

both_settled : (now : List KeyValue) → All (λ key. HasRead Title (all_of now key)) title_texts → All (λ key. HasRead Other (all_of now key)) other_texts
    → All (λ step. step.change now ≡ unchanged) text_steps
both_settled now titles others =
    All-append (λ (step : Step). step.change now ≡ unchanged) (map (texting Title) title_texts) (map (texting Other) other_texts)
    (settled_keys Title title_texts now titles) (settled_keys Other other_texts now others)

pub texts_settle : AreReadOnce → (before : List KeyValue)
    → All (λ step. step.change (after led_steps (after text_steps before)) ≡ unchanged) text_steps
texts_settle laws before =
    let titled = after (map (texting Title) title_texts) before in
    let named = after (map (texting Other) other_texts) titled in
    let now = after led_steps (after text_steps before) in
    let order : after led_steps (after text_steps before) ≡ after led_steps named =
    ap (after led_steps) (fold-append taken before (map (texting Title) title_texts) (map (texting Other) other_texts)) in
    both_settled now
    (λ k d h. let key = get_or title_texts k d in
    subst (HasRead Title) (sym (ap (λ p. all_of p key) order
    ∙ same_after led_steps named key (AllPass-from_list_all (λ key. list_all (λ step. not (bytes_eq step.key key)) led_steps) title_texts refl k d h)
    ∙ same_after (map (texting Other) other_texts) titled key
    (AllPass-from_list_all (λ key. list_all (λ step. not (bytes_eq step.key key)) (map (texting Other) other_texts)) title_texts refl k d h)))
    (keys_read laws Title title_texts before refl k d h))
    (λ k d h. let key = get_or other_texts k d in
    subst (HasRead Other) (sym (ap (λ p. all_of p key) order
    ∙ same_after led_steps named key (AllPass-from_list_all (λ key. list_all (λ step. not (bytes_eq step.key key)) led_steps) other_texts refl k d h)))
    (keys_read laws Other other_texts titled refl k d h))

-- ---- values that are texts

pub texts_stay : (pairs : List KeyValue) → All (λ key. Under pairs key (IsText Title)) title_texts
    → All (λ key. Under pairs key (IsText Other)) other_texts → All (λ step. step.change pairs ≡ unchanged) text_steps
texts_stay pairs titles others =
    both_settled pairs (λ k d h. known Title (get_or title_texts k d) (titles k d h)) (λ k d h. known Other (get_or other_texts k d) (others k d h))
  where
    known : (role : Role) (key : Text) → Under pairs key (IsText role) → HasRead role (all_of pairs key)
    known role key all =
        some_read (λ value. bytes_eq (written role value) value) most_values (all_of pairs key) (texts_read role (all_of pairs key) all)
