-- Keys in small letters.
use Rattle.std.proofs.Common.{◌≡◌, ℕ, ◌+◌, List, [], ◌∷◌, map, Bool, true, false, cond, refl, sym, ap, ◌∙◌, get_or, arith}
use Rattle.std.specs.Char.{to_ascii_lowercase}
use Rattle.std.specs.List.{All}
use Rattle.std.proofs.lemmas.Bool.Decides.{nat_tests}
use Rattle.std.proofs.lemmas.List.Elements.{All-head, All-map, All-tail}
use Rattle.std.proofs.lemmas.List.Sums.{sum_by-cons}
use Rattle.text_model.specs.Texts.{Text}
use Rattle.kev_read.specs.Pairs.{KeyValue}
use Rattle.openurl_reading.specs.Keys.{is_known, in_small_letters, key_of, named}
use Rattle.openurl_reading.specs.Origins.{all_values}
use Rattle.openurl_reading.proofs.Totals.{total}

small_twice : (b : ℕ) → to_ascii_lowercase (to_ascii_lowercase b) ≡ to_ascii_lowercase b
small_twice b = grind (arith, nat_tests)

small_again : (t : Text) → in_small_letters (in_small_letters t) ≡ in_small_letters t
small_again [] = refl
small_again (b ∷ t) = rw (small_twice b, small_again t) refl

-- a key in small letters stays
pub small_stays : (key : Text) → in_small_letters key ≡ key → key_of key ≡ key
small_stays key e = by_test (is_known (in_small_letters key))
  where
    by_test : (b : Bool) → cond b (in_small_letters key) key ≡ key
    by_test true = e
    by_test false = refl

pub key_again : (key : Text) → key_of (key_of key) ≡ key_of key
key_again key = by_test (is_known (in_small_letters key)) refl
  where
    by_test : (b : Bool) → is_known (in_small_letters key) ≡ b → key_of (cond b (in_small_letters key) key) ≡ cond b (in_small_letters key) key
    by_test true e = small_stays (in_small_letters key) (small_again key)
    by_test false e = ap (λ b. cond b (in_small_letters key) key) e

-- ---- pairs

-- each key is as it is written
abbrev pub IsNamed : KeyValue → Type 0
IsNamed pair = key_of pair.key ≡ pair.key

pub named_are : (pairs : List KeyValue) → All IsNamed (map named pairs)
named_are pairs = All-map IsNamed named pairs (λ k d h. key_again (get_or pairs k d).key)

pub named_stay : (pairs : List KeyValue) → All IsNamed pairs → map named pairs ≡ pairs
named_stay [] all = refl
named_stay (pair ∷ pairs) all =
    let one : named pair ≡ pair = ap (λ key. record { key = key; value = pair.value }) (All-head IsNamed pair pairs all) in
    ap (λ p. p ∷ map named pairs) one ∙ ap (λ rest. pair ∷ rest) (named_stay pairs (All-tail IsNamed pair pairs all))

pub values_named : (pairs : List KeyValue) → all_values (map named pairs) ≡ all_values pairs
values_named [] = refl
values_named (pair ∷ pairs) = ap (λ rest. pair.value ∷ rest) (values_named pairs)

pub total_named : (g : Text → ℕ) (pairs : List KeyValue) → total g (map named pairs) ≡ total g pairs
total_named g [] = refl
total_named g (pair ∷ pairs) =
    sum_by-cons (λ (p : KeyValue). g p.value) (named pair) (map named pairs) ∙ ap (λ n. g pair.value + n) (total_named g pairs)
    ∙ sym (sum_by-cons (λ (p : KeyValue). g p.value) pair pairs)
