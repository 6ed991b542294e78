-- How large pairs are after a step: by a weight of each value, such as its bytes, or one.
use Rattle.std.proofs.Common.{◌≡◌, ℕ, ◌+◌, ◌≤◌, List, [], ◌∷◌, map, filter, take, Bool, true, false, cond, not}
use Rattle.std.proofs.Common.{◌&&◌, Option, Some, None, refl, ap, sym, ◌∙◌, get_or, arith}
use Rattle.std.specs.List.{All, sum_by, list_all}
use Rattle.std.specs.Str.{bytes_eq}
use Rattle.std.proofs.lemmas.Bool.{and_parts, not-true}
use Rattle.std.proofs.lemmas.List.Sums.{sum_by-take-le, sum_by-cons, sum_by-append}
use Rattle.std.proofs.lemmas.List.Elements.{All-head, All-tail, All-map}
use Rattle.text_model.specs.Texts.{Text}
use Rattle.kev_read.specs.Pairs.{KeyValue, has_key, all_of}
use Rattle.work_identifiers.specs.declared.namespace.Namespace.{Namespace}
use Rattle.work_identifiers.specs.Uris.{uri_of}
use Rattle.openurl_reading.specs.Keys.{is_one_of}
use Rattle.openurl_reading.specs.Identifiers.{named}
use Rattle.openurl_reading.specs.Steps.{Step, unchanged, leading, replacing, pairs_with, others, kept, changed, taken, after}
use Rattle.openurl_reading.specs.Values.{most_values, led}
use Rattle.openurl_reading.specs.OldKeys.{OldKey, filled, copy}
use Rattle.openurl_reading.proofs.Values.{all_of-taken, all_of-others}

abbrev pub total : (Text → ℕ) → List KeyValue → ℕ
total g pairs = sum_by (λ pair. g pair.value) pairs

-- ---- one step

total_with : (g : Text → ℕ) (key : Text) (values : List Text) → total g (pairs_with key values) ≡ sum_by g values
total_with g key [] = refl
total_with g key (v ∷ vs) =
    sum_by-cons (λ pair. g pair.value) (record { key = key; value = v }) (pairs_with key vs) ∙ ap (λ n. g v + n) (total_with g key vs)
    ∙ sym (sum_by-cons g v vs)

-- the values of a key and those of other keys
total_split : (g : Text → ℕ) (key : Text) (pairs : List KeyValue) → sum_by g (all_of pairs key) + total g (others key pairs) ≡ total g pairs
total_split g key [] = refl
total_split g key (pair ∷ pairs) = by_test (has_key key pair) (total_split g key pairs)
  where
    by_test : (b : Bool) → sum_by g (all_of pairs key) + total g (others key pairs) ≡ total g pairs
        → sum_by g (map (λ p. p.value) (cond b (pair ∷ filter (has_key key) pairs) (filter (has_key key) pairs)))
        + total g (cond (not b) (pair ∷ others key pairs) (others key pairs)) ≡ total g (pair ∷ pairs)
    by_test true rest =
        let one = sum_by-cons g pair.value (all_of pairs key) in
        let all = sum_by-cons (λ (p : KeyValue). g p.value) pair pairs in omega (arith, one, all, rest)
    by_test false rest =
        let one = sum_by-cons (λ (p : KeyValue). g p.value) pair (others key pairs) in
        let all = sum_by-cons (λ (p : KeyValue). g p.value) pair pairs in omega (arith, one, all, rest)

total_kept : (g : Text → ℕ) (keeps : Bool) (key : Text) (pairs : List KeyValue) → total g (kept keeps key pairs) ≤ total g pairs
total_kept g true key pairs = omega arith
total_kept g false key pairs = omega (arith, total_split g key pairs)

pub total_taken : (g : Text → ℕ) (step : Step) (pairs : List KeyValue) → total g (taken pairs step) ≤ sum_by g (step.change pairs).values + total g pairs
total_taken g step pairs =
    let change = step.change pairs in
    let all = sum_by-append (λ (p : KeyValue). g p.value) (pairs_with step.key change.values) (kept change.keeps step.key pairs) in
    omega (arith, all, total_with g step.key change.values, total_kept g change.keeps step.key pairs)

-- values that replace those of a key, and weigh no more
pub total_replaced : (g : Text → ℕ) (key : Text) (values : List Text) (pairs : List KeyValue) → sum_by g values ≤ sum_by g (all_of pairs key)
    → total g (changed key (replacing values) pairs) ≤ total g pairs
total_replaced g key values pairs h =
    omega (
      arith,
      sum_by-append (λ (p : KeyValue). g p.value) (pairs_with key values) (others key pairs),
      total_with g key values,
      total_split g key pairs,
      h,
    )

pub filled_weighs : (g : Text → ℕ) (values known : List Text) → sum_by g (filled values known).values ≤ sum_by g values
filled_weighs g values [] = omega arith
filled_weighs g values (v ∷ vs) = omega arith

pub led_weighs : (g : Text → ℕ) (m : ℕ) (found first : Option Text) → ((n : Text) → found ≡ Some n → g n ≤ m) → sum_by g (led found first).values ≤ m
led_weighs g m None first h = omega arith
led_weighs g m (Some n) None h = omega (arith, sum_by-cons g n [], h n refl)
led_weighs g m (Some n) (Some v) h = by_test (bytes_eq v n)
  where
    by_test : (b : Bool) → sum_by g (cond b unchanged (leading (n ∷ []))).values ≤ m
    by_test true = omega arith
    by_test false = omega (arith, sum_by-cons g n [], h n refl)

pub named_weighs : (g : Text → ℕ) (m : ℕ) (namespace : Namespace) (found : Option Text) (known : List Text)
    → ((n : Text) → found ≡ Some n → g (uri_of namespace n) ≤ m) → sum_by g (named namespace found known).values ≤ m
named_weighs g m namespace None known h = omega arith
named_weighs g m namespace (Some n) known h = by_test (is_one_of known (uri_of namespace n))
  where
    by_test : (b : Bool) → sum_by g (cond b unchanged (leading (uri_of namespace n ∷ []))).values ≤ m
    by_test true = omega arith
    by_test false = omega (arith, sum_by-cons g (uri_of namespace n) [], h n refl)

-- ---- the copies of old keys: each value is copied at most once

-- what the values of these keys weigh
abbrev pub shares : (Text → ℕ) → List Text → List KeyValue → ℕ
shares g [] pairs = 0
shares g (key ∷ keys) pairs = sum_by g (all_of pairs key) + shares g keys pairs

-- no key is another one
abbrev pub are_distinct : List Text → Bool
are_distinct [] = true
are_distinct (key ∷ keys) = list_all (λ other. not (bytes_eq key other)) keys && are_distinct keys

shares_of_others : (g : Text → ℕ) (key : Text) (keys : List Text) (pairs : List KeyValue) → list_all (λ other. not (bytes_eq key other)) keys ≡ true
    → shares g keys (others key pairs) ≡ shares g keys pairs
shares_of_others g key [] pairs h = refl
shares_of_others g key (other ∷ keys) pairs h =
    let parts = and_parts _ _ h in
    ap (λ values. sum_by g values + shares g keys (others key pairs)) (all_of-others key other pairs (not-true _ parts.0))
    ∙ ap (λ n. sum_by g (all_of pairs other) + n) (shares_of_others g key keys pairs parts.1)

pub shares-le : (g : Text → ℕ) (keys : List Text) (pairs : List KeyValue) → are_distinct keys ≡ true → shares g keys pairs ≤ total g pairs
shares-le g [] pairs h = omega arith
shares-le g (key ∷ keys) pairs h =
    let parts = and_parts (list_all (λ other. not (bytes_eq key other)) keys) (are_distinct keys) h in
    omega (arith, total_split g key pairs, shares_of_others g key keys pairs parts.0, shares-le g keys (others key pairs) parts.1)

-- steps of other keys leave shares as they are
pub shares_after : (g : Text → ℕ) (step : Step) (keys : List Text) (pairs : List KeyValue) → All (λ key. bytes_eq step.key key ≡ false) keys
    → shares g keys (taken pairs step) ≡ shares g keys pairs
shares_after g step [] pairs apart = refl
shares_after g step (key ∷ keys) pairs apart =
    let P : Text → Type 0 = λ key. bytes_eq step.key key ≡ false in
    ap (λ values. sum_by g values + shares g keys (taken pairs step)) (all_of-taken step pairs key (All-head P key keys apart))
    ∙ ap (λ n. sum_by g (all_of pairs key) + n) (shares_after g step keys pairs (All-tail P key keys apart))

-- keys that have the same values in both have the same shares
pub shares-same : (g : Text → ℕ) (keys : List Text) (pairs other : List KeyValue) → All (λ key. all_of pairs key ≡ all_of other key) keys
    → shares g keys pairs ≡ shares g keys other
shares-same g [] pairs other all = refl
shares-same g (key ∷ keys) pairs other all =
    let P : Text → Type 0 = λ key. all_of pairs key ≡ all_of other key in
    ap (λ values. sum_by g values + shares g keys pairs) (All-head P key keys all)
    ∙ ap (λ n. sum_by g (all_of other key) + n) (shares-same g keys pairs other (All-tail P key keys all))

abbrev pub olds : List OldKey → List Text
olds keys = map (λ key. key.old) keys

abbrev pub AreAllApart : List OldKey → Type 0
AreAllApart keys = All (λ key. All (λ other. bytes_eq other.new key.old ≡ false) keys) keys

pub copies_weigh : (g : Text → ℕ) (keys : List OldKey) (pairs : List KeyValue) → AreAllApart keys
    → total g (after (map copy keys) pairs) ≤ total g pairs + shares g (olds keys) pairs
copies_weigh g [] pairs apart = omega arith
copies_weigh g (key ∷ keys) pairs apart =
    let Q : OldKey → Type 0 = λ k. All (λ other. bytes_eq other.new k.old ≡ false) (key ∷ keys) in
    let rest = All-tail Q key keys apart in
    let next = taken pairs (copy key) in
    let values = all_of pairs key.old in
    let others : All (λ old. bytes_eq key.new old ≡ false) (olds keys) =
    All-map (λ old. bytes_eq key.new old ≡ false) (λ (k : OldKey). k.old) keys
    (λ k d h. All-head (λ other. bytes_eq other.new (get_or keys k d).old ≡ false) key keys (rest k d h)) in
    let more = copies_weigh g keys next (λ k d h. All-tail (λ other. bytes_eq other.new (get_or keys k d).old ≡ false) key keys (rest k d h)) in
    let one = total_taken g (copy key) pairs in
    let few = filled_weighs g (take most_values values) (all_of pairs key.new) in
    omega (arith, more, one, few, sum_by-take-le g values most_values, shares_after g (copy key) (olds keys) pairs others)
