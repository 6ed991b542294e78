-- The first value of a key, one pair at a time.
use Rattle.std.proofs.Common.{◌≡◌, ℕ, zero, suc, ◌<◌, List, [], ◌∷◌, filter, take, length, get_or, Bool, true, false, cond, refl, ap, Option, Some}
use Rattle.std.proofs.Common.{None, arith}
use Rattle.std.specs.Prelude.{map, slice_get}
use Rattle.std.specs.Option.{option_and_then}
use Rattle.text_model.specs.Texts.{Text}
use Rattle.kev_read.specs.Pairs.{KeyValue, has_key, all_of, first_of}

-- what is read in the first of several values
abbrev pub of_first : (Text → Option Text) → List Text → Option Text
of_first read values = option_and_then read (slice_get values 0)

pub not_first : (pair : KeyValue) (rest : List KeyValue) (b : Bool)
    → map (λ p. p.value) (cond b (pair ∷ rest) rest) ≡ [] → (b ≡ false) × (map (λ p. p.value) rest ≡ [])
not_first pair rest true e = cc
not_first pair rest false e = (refl, e)

pub first_at : (pairs : List KeyValue) (key : Text) (i : ℕ) (d : KeyValue) → i < length pairs → all_of (take i pairs) key ≡ []
    → has_key key (get_or pairs i d) ≡ true → first_of pairs key ≡ Some (get_or pairs i d).value
first_at [] key i d h none found = absurd (omega arith)
first_at (pair ∷ pairs) key zero d h none found = rw found refl
first_at (pair ∷ pairs) key (suc i) d h none found =
    let parts = not_first pair (filter (has_key key) (take i pairs)) (has_key key pair) none in
    rw parts.0 (first_at pairs key i d (omega arith) parts.1 found)

-- the first of values alone, and none
pub first_alone : (values : List Text) (v : Text) → slice_get values 0 ≡ Some v → take 1 values ≡ v ∷ []
first_alone [] v h = cc
first_alone (w ∷ values) v h = let e : w ≡ v = cc in ap (λ x. x ∷ []) e

pub none_first : (values : List Text) → slice_get values 0 ≡ None → take 1 values ≡ []
none_first [] h = refl
none_first (w ∷ values) h = cc
