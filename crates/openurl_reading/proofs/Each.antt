-- What holds of each pair, or of each value of a key, after a step.
use Rattle.std.proofs.Common.{◌≡◌, List, [], ◌∷◌, map, Bool, true, false, cond, not, Option, Some, None, refl, ap, arith, filter}
use Rattle.std.specs.List.{All, flat_map}
use Rattle.std.specs.Str.{bytes_eq}
use Rattle.std.proofs.lemmas.List.Elements.{All-append, All-filter, All-cons, All-head, All-tail}
use Rattle.text_model.specs.Texts.{Text}
use Rattle.kev_read.specs.Pairs.{KeyValue, has_key, all_of}
use Rattle.work_identifiers.specs.declared.namespace.Namespace.{Namespace}
use Rattle.work_identifiers.specs.Uris.{uri_of}
use Rattle.openurl_reading.specs.Keys.{is_one_of}
use Rattle.openurl_reading.specs.Identifiers.{named}
use Rattle.openurl_reading.specs.Steps.{Step, unchanged, leading, pairs_with, kept, taken}
use Rattle.openurl_reading.specs.Values.{led}
use Rattle.openurl_reading.specs.OldKeys.{filled}
use Rattle.openurl_reading.proofs.Values.{values_after}

pub none_has : {X : Type 0} (P : X → Type 0) → All P []
none_has P = λ k d h. absurd (omega arith)

pub one_has : {X : Type 0} (P : X → Type 0) (x : X) → P x → All P (x ∷ [])
one_has P x h = All-cons P x [] h (none_has P)

each_pair_with : (P : KeyValue → Type 0) (key : Text) (values : List Text) → All (λ v. P (record { key = key; value = v })) values
    → All P (pairs_with key values)
each_pair_with P key [] all = none_has P
each_pair_with P key (v ∷ vs) all =
    let Q : Text → Type 0 = λ v. P (record { key = key; value = v }) in
    All-cons P (record { key = key; value = v }) (pairs_with key vs) (All-head Q v vs all) (each_pair_with P key vs (All-tail Q v vs all))

each_kept : (P : KeyValue → Type 0) (keeps : Bool) (key : Text) (pairs : List KeyValue) → All P pairs → All P (kept keeps key pairs)
each_kept P true key pairs all = all
each_kept P false key pairs all = All-filter (λ pair. not (has_key key pair)) P pairs all

pub each_taken : (P : KeyValue → Type 0) (step : Step) (pairs : List KeyValue)
    → All (λ v. P (record { key = step.key; value = v })) (step.change pairs).values → All P pairs → All P (taken pairs step)
each_taken P step pairs values all =
    let change = step.change pairs in
    All-append P (pairs_with step.key change.values) (kept change.keeps step.key pairs)
    (each_pair_with P step.key change.values values) (each_kept P change.keeps step.key pairs all)

-- ---- values of a key

pub each_of_key : (P : KeyValue → Type 0) (Q : Text → Type 0) (key : Text) → ((pair : KeyValue) → has_key key pair ≡ true → P pair → Q pair.value)
    → (pairs : List KeyValue) → All P pairs → All Q (all_of pairs key)
each_of_key P Q key one [] all = none_has Q
each_of_key P Q key one (pair ∷ pairs) all = by_test (has_key key pair) refl (each_of_key P Q key one pairs (All-tail P pair pairs all))
  where
    by_test : (b : Bool) → has_key key pair ≡ b → All Q (all_of pairs key)
        → All Q (map (λ p. p.value) (cond b (pair ∷ filter (has_key key) pairs) (filter (has_key key) pairs)))
    by_test true h rest = All-cons Q pair.value (all_of pairs key) (one pair h (All-head P pair pairs all)) rest
    by_test false h rest = rest

-- ---- values of a change

pub each_filled : (P : Text → Type 0) (values known : List Text) → All P values → All P (filled values known).values
each_filled P values [] all = all
each_filled P values (v ∷ vs) all = none_has P

pub each_led : (P : Text → Type 0) (found first : Option Text) → ((n : Text) → found ≡ Some n → P n) → All P (led found first).values
each_led P None first h = none_has P
each_led P (Some n) None h = one_has P n (h n refl)
each_led P (Some n) (Some v) h = by_test (bytes_eq v n)
  where
    by_test : (b : Bool) → All P (cond b unchanged (leading (n ∷ []))).values
    by_test true = none_has P
    by_test false = one_has P n (h n refl)

pub each_named : (P : Text → Type 0) (namespace : Namespace) (found : Option Text) (known : List Text)
    → ((n : Text) → found ≡ Some n → P (uri_of namespace n)) → All P (named namespace found known).values
each_named P namespace None known h = none_has P
each_named P namespace (Some n) known h = by_test (is_one_of known (uri_of namespace n))
  where
    by_test : (b : Bool) → All P (cond b unchanged (leading (uri_of namespace n ∷ []))).values
    by_test true = none_has P
    by_test false = one_has P (uri_of namespace n) (h n refl)

pub each_after : (P : Text → Type 0) (found first : Option Text) (values : List Text) → ((n : Text) → found ≡ Some n → P n) → All P values
    → All P (values_after (led found first) values)
each_after P found first values h all =
    All-append P (led found first).values (cond (led found first).keeps values []) (each_led P found first h) (each_if (led found first).keeps)
  where
    each_if : (b : Bool) → All P (cond b values [])
    each_if true = all
    each_if false = none_has P

-- ---- what is found in values

pub each_found : (P : Text → Type 0) (f : Text → List Text) (values : List Text) → All (λ v. All P (f v)) values → All P (flat_map f values)
each_found P f [] all = none_has P
each_found P f (v ∷ vs) all =
    let Q : Text → Type 0 = λ v. All P (f v) in
    All-append P (f v) (flat_map f vs) (All-head Q v vs all) (each_found P f vs (All-tail Q v vs all))

-- ---- a test that all pairs pass, or none

pub all_stay : (test : KeyValue → Bool) (pairs : List KeyValue) → All (λ pair. test pair ≡ true) pairs → filter test pairs ≡ pairs
all_stay test [] all = refl
all_stay test (pair ∷ pairs) all =
    let P : KeyValue → Type 0 = λ p. test p ≡ true in
    rw (All-head P pair pairs all) (ap (λ rest. pair ∷ rest) (all_stay test pairs (All-tail P pair pairs all)))

pub none_stays : (test : KeyValue → Bool) (pairs : List KeyValue) → All (λ pair. test pair ≡ false) pairs → filter test pairs ≡ []
none_stays test [] all = refl
none_stays test (pair ∷ pairs) all =
    let P : KeyValue → Type 0 = λ p. test p ≡ false in rw (All-head P pair pairs all) (none_stays test pairs (All-tail P pair pairs all))
