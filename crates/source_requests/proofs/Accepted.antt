-- The queries of requests are accepted.
use Rattle.std.proofs.Common.{◌≡◌, ◌≤◌, ◌+◌, ℕ, zero, suc, Bool, true, false, cond, not, ◌||◌, List, [], ◌∷◌, filter, map, take, length, refl}
use Rattle.std.proofs.Common.{sym, ap, subst, ◌∙◌, arith}
use Rattle.std.specs.Prelude.{codes, None, nat_lt, slice_get}
use Rattle.std.proofs.lemmas.Bool.{cond_both}
use Rattle.std.proofs.lemmas.Bool.Decides.{nat_tests}
use Rattle.std.proofs.lemmas.Slice.Eq.{bytes_eq-Decides}
use Rattle.text_model.specs.Texts.{Text}
use Rattle.kev_read.specs.Pairs.{KeyValue, all_of, first_of, has_key, pairs_of}
use Rattle.kev_read.specs.Refusal.{is_other_version, refusal, states_other_version}
use Rattle.kev_read.specs.declared.read.TheConstants.{MAX_PAIRS, MAX_QUERY_BYTES}
use Rattle.source_requests.specs.Requests.{any_issn, any_pairs, further_pairs, has_issn_length, is_row_key, led_by, number_pair}

-- ---- versions

abbrev IsRight : List KeyValue → Text → Type 0
IsRight pairs key = is_other_version (first_of pairs key) ≡ false

-- of the first pairs
first_right : (key : Text) (pairs : List KeyValue) (n : ℕ) → IsRight pairs key → IsRight (take n pairs) key
first_right key pairs zero h = refl
first_right key [] (suc n) h = refl
first_right key (pair ∷ pairs) (suc n) h = by_test (has_key key pair) refl (first_right key pairs n)
  where
    values : Bool → List Text
    values b = map (λ (p : KeyValue). p.value) (cond b (pair ∷ filter (has_key key) pairs) (filter (has_key key) pairs))

    by_test : (b : Bool) → has_key key pair ≡ b → (IsRight pairs key → IsRight (take n pairs) key) → IsRight (take (suc n) (pair ∷ pairs)) key
    by_test true e later = rw e (subst (λ b. is_other_version (slice_get (values b) 0) ≡ false) e h)
    by_test false e later = rw e (later (subst (λ b. is_other_version (slice_get (values b) 0) ≡ false) e h))

pub first_accepted : (pairs : List KeyValue) (n : ℕ) → states_other_version pairs ≡ false → states_other_version (take n pairs) ≡ false
first_accepted pairs n h =
    let parts = neither (is_other_version (first_of pairs (codes "ctx_ver"))) (is_other_version (first_of pairs (codes "url_ver"))) h in
    ap (λ b. b || is_other_version (first_of (take n pairs) (codes "url_ver"))) (first_right (codes "ctx_ver") pairs n parts.0)
    ∙ first_right (codes "url_ver") pairs n parts.1
  where
    neither : (a b : Bool) → (a || b) ≡ false → (a ≡ false) × (b ≡ false)
    neither true b e = cc
    neither false b e = (refl, e)

-- ---- without the keys that find rows

other_values : (key : Text) (pairs : List KeyValue) → is_row_key key ≡ false
    → all_of (filter (λ pair. not (is_row_key pair.key)) pairs) key ≡ all_of pairs key
other_values key [] h = refl
other_values key (pair ∷ pairs) h = by_test (is_row_key pair.key) refl (has_key key pair) refl (other_values key pairs h)
  where
    stay : List KeyValue
    stay = filter (λ pair. not (is_row_key pair.key)) pairs

    by_test : (b : Bool) → is_row_key pair.key ≡ b → (c : Bool) → has_key key pair ≡ c → all_of stay key ≡ all_of pairs key
        → all_of (cond (not b) (pair ∷ stay) stay) key ≡ map (λ p. p.value) (cond c (pair ∷ filter (has_key key) pairs) (filter (has_key key) pairs))
    by_test true e true g s =
        let same : pair.key ≡ key = (bytes_eq-Decides pair.key key).0 g in
        let both : true ≡ false = sym e ∙ ap is_row_key same ∙ h in cc
    by_test true e false g s = s
    by_test false e true g s = rw g (ap (λ vs. pair.value ∷ vs) s)
    by_test false e false g s = rw g s

-- after a pair with another key, the values are those of the pairs that follow
led_values : (key : Text) (first : KeyValue) (pairs : List KeyValue) → has_key key first ≡ false → is_row_key key ≡ false
    → all_of (led_by first pairs) key ≡ all_of pairs key
led_values key first pairs other h =
    let stay : List KeyValue = filter (λ pair. not (is_row_key pair.key)) pairs in
    ap (λ b. map (λ (p : KeyValue). p.value) (cond b (first ∷ filter (has_key key) stay) (filter (has_key key) stay))) other ∙ other_values key pairs h

led_accepted : (first : KeyValue) (pairs : List KeyValue) → has_key (codes "ctx_ver") first ≡ false → has_key (codes "url_ver") first ≡ false
    → states_other_version pairs ≡ false → states_other_version (led_by first pairs) ≡ false
led_accepted first pairs x y h =
    ap (λ vs. is_other_version (slice_get vs 0) || is_other_version (first_of (led_by first pairs) (codes "url_ver")))
    (led_values (codes "ctx_ver") first pairs x refl)
    ∙ ap (λ vs. is_other_version (first_of pairs (codes "ctx_ver")) || is_other_version (slice_get vs 0)) (led_values (codes "url_ver") first pairs y refl)
    ∙ h

pub any_accepted : (pairs : List KeyValue) → states_other_version pairs ≡ false → states_other_version (any_pairs pairs) ≡ false
any_accepted pairs h = led_accepted any_issn pairs refl refl h

pub further_accepted : (number : Text) (pairs : List KeyValue) → states_other_version pairs ≡ false
    → states_other_version (further_pairs number pairs) ≡ false
further_accepted number pairs h = led_accepted (number_pair number) pairs (other (codes "ctx_ver") refl refl) (other (codes "url_ver") refl refl) h
  where
    other : (key : Text) → has_key key (record { key = codes "rft.issn"; value = number }) ≡ false
        → has_key key (record { key = codes "rft.isbn"; value = number }) ≡ false → has_key key (number_pair number) ≡ false
    other key x y =
        cond_both (has_issn_length number) (codes "rft.issn") (codes "rft.isbn") (λ name. has_key key (record { key = name; value = number }) ≡ false)
        (λ e. x) (λ e. y)

filter_short : (test : KeyValue → Bool) (pairs : List KeyValue) → length (filter test pairs) ≤ length pairs
filter_short test [] = omega arith
filter_short test (pair ∷ pairs) = by_test (test pair) (filter_short test pairs)
  where
    by_test : (b : Bool) → length (filter test pairs) ≤ length pairs
        → length (cond b (pair ∷ filter test pairs) (filter test pairs)) ≤ length (pair ∷ pairs)
    by_test true h = omega (arith, h)
    by_test false h = omega (arith, h)

pub led_few : (first : KeyValue) (pairs : List KeyValue) → length (led_by first pairs) ≤ length pairs + 1
led_few first pairs = let short = filter_short (λ pair. not (is_row_key pair.key)) pairs in omega (arith, short)

-- ---- no reason to refuse a query

pub not_refused : (query : Text) → length query ≤ MAX_QUERY_BYTES → length (pairs_of query) ≤ MAX_PAIRS → states_other_version (pairs_of query) ≡ false
    → refusal query ≡ None
not_refused query short few version =
    let first : nat_lt MAX_QUERY_BYTES (length query) ≡ false = grind (arith, nat_tests) in
    let second : nat_lt MAX_PAIRS (length (pairs_of query)) ≡ false = grind (arith, nat_tests) in
    rw (first, second, version) refl
