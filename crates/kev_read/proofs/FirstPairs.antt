-- The first pair of a query, from where its key and its value end.
use Rattle.std.proofs.Common.{◌≡◌, ◌≢◌, ◌⊎◌, ℕ, ◌+◌, ◌-◌, ◌<◌, ◌≤◌, List, [], ◌∷◌, ◌++◌, map, length, take, drop, get_or, slice_range, refl, sym, ap, ◌∙◌}
use Rattle.std.proofs.lemmas.Grind.{common_steps}
use Rattle.std.proofs.Common.{subst, arith, length-append, length-drop}
use Rattle.std.proofs.Math.Logic.{⊎_elim}
use Rattle.std.proofs.Math.Seq.{drop-cons}
use Rattle.std.specs.Prelude.{All}
use Rattle.std.proofs.lemmas.List.{append_assoc, drop-drop, get_or-drop, length-take-le}
use Rattle.std.proofs.lemmas.List.Elements.{All-weaker, All-append, All-cons}
use Rattle.std.proofs.lemmas.Str.{utf8_lossy_empty}
use Rattle.std.specs.Str.Lossy.{utf8_lossy}
use Rattle.form_urlencoded.specs.Form as form
use Rattle.form_urlencoded.proofs.FormLemmas.{split_once_before_at, split_once_after_at, split_once_before_none, split_once_after_none}
use Rattle.form_urlencoded.proofs.FormLemmas.{split_once_before_same, split_once_after_same, raw_pairs_first, raw_pairs_skip}
use Rattle.kev_read.specs.Pairs.{decoded, decoded_pair}
use Rattle.kev_read.specs.Private.Reading.{IsFirstPair}
use Rattle.kev_read.proofs.DecodedForms.{decoded_nothing}

-- ---- pieces

-- the bytes are the piece alone, or go on after it with an `&`
abbrev IsParted : List ℕ → List ℕ → List ℕ → Type 0
IsParted bytes piece after = ((bytes ≡ piece) × (after ≡ [])) ⊎ (bytes ≡ piece ++ 38 ∷ after)

cut_at : (bytes : List ℕ) (n b : ℕ) → n < length bytes → get_or bytes n 0 ≡ b → bytes ≡ take n bytes ++ b ∷ drop (n + 1) bytes
cut_at bytes n b inside is = grind (arith, common_steps)

parted_at : (bytes : List ℕ) (n : ℕ) → n ≤ length bytes → (n < length bytes → get_or bytes n 0 ≡ 38) → IsParted bytes (take n bytes) (drop (n + 1) bytes)
parted_at bytes n within ends = grind (arith, common_steps)

first_raw : (bytes piece after : List ℕ) → 0 < length piece → All (λ b. b ≢ 38) piece → IsParted bytes piece after
    → form.raw_pairs bytes ≡ form.split_pair piece ∷ form.raw_pairs after
first_raw bytes piece after some lacks parted =
    let is_first : (form.split_once 38 bytes).0 ≡ piece → (form.split_once 38 bytes).1 ≡ after
    → form.raw_pairs bytes ≡ form.split_pair piece ∷ form.raw_pairs after =
    λ before rest. raw_pairs_first bytes (subst (λ x. 0 < length x) (sym before) some) ∙ (λ i. form.split_pair (before i) ∷ form.raw_pairs (rest i)) in
    ⊎_elim
    (λ alone. is_first (ap (λ b. (form.split_once 38 b).0) alone.0 ∙ split_once_before_none 38 piece lacks)
    (ap (λ b. (form.split_once 38 b).1) alone.0 ∙ (split_once_after_none 38 piece lacks ∙ sym alone.1)))
    (λ more. is_first (ap (λ b. (form.split_once 38 b).0) more ∙ split_once_before_at 38 piece after lacks)
    (ap (λ b. (form.split_once 38 b).1) more ∙ split_once_after_at 38 piece after lacks))
    parted

-- ---- pairs

abbrev LacksBoth : List ℕ → Type 0
LacksBoth bytes = All (λ b. (b ≢ 38) × (b ≢ 61)) bytes

lacks_ampersand : (bytes : List ℕ) → LacksBoth bytes → All (λ b. b ≢ 38) bytes
lacks_ampersand bytes lacks = All-weaker (λ b. (b ≢ 38) × (b ≢ 61)) (λ b. b ≢ 38) (λ b is. is.0) bytes lacks

key_first : (bytes : List ℕ) (n : ℕ) → 0 < length bytes → get_or bytes 0 0 ≢ 38 → n ≤ length bytes → LacksBoth (take n bytes)
    → (n < length bytes → get_or bytes n 0 ≡ 38)
    → IsFirstPair bytes (record { key = decoded (take n bytes); value = [] }) (drop (n + 1) bytes)
key_first bytes n some other within lacks ends =
    let key = take n bytes in
    let after = drop (n + 1) bytes in
    let long : length key ≡ n = length-take-le n bytes within in
    let not_none : n ≢ 0 = λ none. other (ap (λ k. get_or bytes k 0) (sym none) ∙ ends (omega (arith, none, some))) in
    let positive : 0 < n = omega (arith, not_none) in
    let alone : form.split_pair key ≡ (key, []) = grind (arith, split_once_before_none, split_once_after_none) in
    let raw = first_raw bytes key after (omega (arith, long, positive)) (lacks_ampersand key lacks) (parted_at bytes n within ends) in
    let empty : decoded [] ≡ [] = ap utf8_lossy (decoded_nothing [] refl) ∙ utf8_lossy_empty [] refl in
    ap (map decoded_pair) (raw ∙ ap (λ pair. pair ∷ form.raw_pairs after) alone)
    ∙ (λ i. record { key = decoded key; value = empty i } ∷ map decoded_pair (form.raw_pairs after))

value_first : (bytes : List ℕ) (n m : ℕ) → n < length bytes → LacksBoth (take n bytes) → get_or bytes n 0 ≡ 61
    → m ≤ length (drop (n + 1) bytes) → All (λ b. b ≢ 38) (take m (drop (n + 1) bytes))
    → (m < length (drop (n + 1) bytes) → get_or (drop (n + 1) bytes) m 0 ≡ 38)
    → IsFirstPair bytes (record { key = decoded (take n bytes); value = decoded (take m (drop (n + 1) bytes)) }) (drop (m + 1) (drop (n + 1) bytes))
value_first bytes n m inside lacks equals within lacks_value ends =
    let key = take n bytes in
    let rest = drop (n + 1) bytes in
    let value = take m rest in
    let after = drop (m + 1) rest in
    let whole = cut_at bytes n 61 inside equals in
    let parted : IsParted bytes (key ++ 61 ∷ value) after = grind (arith, append_assoc, parted_at) in
    let differs : 61 ≢ 38 = λ e. absurd (omega (arith, e)) in
    let lacks_all = All-append (λ b. b ≢ 38) key (61 ∷ value) (lacks_ampersand key lacks) (All-cons (λ b. b ≢ 38) 61 value differs lacks_value) in
    let raw = first_raw bytes (key ++ 61 ∷ value) after (omega (arith, length-append key (61 ∷ value))) lacks_all parted in
    let both : form.split_pair (key ++ 61 ∷ value) ≡ (key, value) = grind (arith, split_once_before_at, split_once_after_at) in
    ap (map decoded_pair) (raw ∙ ap (λ pair. pair ∷ form.raw_pairs after) both)

-- ---- the same in a query, from a place on

range_from : (query : List ℕ) (start n : ℕ) → take n (drop start query) ≡ slice_range query start (start + n)
range_from query start n = let same : n ≡ start + n - start = omega arith in ap (λ k. take k (drop start query)) same

pub pair_of_key : (query : List ℕ) (start n : ℕ) → start < length query → get_or query start 0 ≢ 38 → n ≤ length (drop start query)
    → LacksBoth (take n (drop start query)) → (start + n < length query → get_or query (start + n) 0 ≡ 38)
    → IsFirstPair (drop start query) (record { key = decoded (slice_range query start (start + n)); value = [] }) (drop (start + n + 1) query)
pair_of_key query start n inside other within lacks ends =
    let bytes = drop start query in
    let long = length-drop start query in
    let at_start : get_or bytes 0 0 ≡ get_or query start 0 = get_or-drop start query 0 0 ∙ ap (λ k. get_or query k 0) (omega arith) in
    let first = key_first bytes n (omega (arith, long, inside)) (λ is. other (sym at_start ∙ is)) within lacks
    (λ more. get_or-drop start query n 0 ∙ ends (omega (arith, long, more))) in
    let next : start + (n + 1) ≡ start + n + 1 = omega arith in
    let after : drop (n + 1) bytes ≡ drop (start + n + 1) query = drop-drop (n + 1) start query ∙ ap (λ k. drop k query) next in
    subst (λ rest. IsFirstPair bytes (record { key = decoded (slice_range query start (start + n)); value = [] }) rest) after
    (subst (λ key. IsFirstPair bytes (record { key = decoded key; value = [] }) (drop (n + 1) bytes)) (range_from query start n) first)

pub pair_of_both : (query : List ℕ) (start n m : ℕ) → start + n < length query → LacksBoth (take n (drop start query))
    → get_or query (start + n) 0 ≡ 61 → m ≤ length (drop (start + n + 1) query) → All (λ b. b ≢ 38) (take m (drop (start + n + 1) query))
    → (start + n + 1 + m < length query → get_or query (start + n + 1 + m) 0 ≡ 38)
    → IsFirstPair (drop start query)
    (record { key = decoded (slice_range query start (start + n)); value = decoded (slice_range query (start + n + 1) (start + n + 1 + m)) })
    (drop (start + n + 1 + m + 1) query)
pair_of_both query start n m inside lacks equals within lacks_value ends =
    let bytes = drop start query in
    let rest = drop (start + n + 1) query in
    let long = length-drop start query in
    let long_rest = length-drop (start + n + 1) query in
    let next : start + (n + 1) ≡ start + n + 1 = omega arith in
    let is_rest : drop (n + 1) bytes ≡ rest = drop-drop (n + 1) start query ∙ ap (λ k. drop k query) next in
    let first = value_first bytes n m (omega (arith, long, inside)) lacks (get_or-drop start query n 0 ∙ equals)
    (subst (λ r. m ≤ length r) (sym is_rest) within)
    (subst (λ r. All (λ b. b ≢ 38) (take m r)) (sym is_rest) lacks_value)
    (subst (λ r. m < length r → get_or r m 0 ≡ 38) (sym is_rest) (λ more. get_or-drop (start + n + 1) query m 0 ∙ ends (omega (arith, long_rest, more)))) in
    let last : start + n + 1 + (m + 1) ≡ start + n + 1 + m + 1 = omega arith in
    let after : drop (m + 1) rest ≡ drop (start + n + 1 + m + 1) query = drop-drop (m + 1) (start + n + 1) query ∙ ap (λ k. drop k query) last in
    let of_rest = subst (λ r. IsFirstPair bytes (record { key = decoded (take n bytes); value = decoded (take m r) }) (drop (m + 1) r)) is_rest first in
    let of_key =
    subst (λ key. IsFirstPair bytes (record { key = decoded key; value = decoded (take m rest) }) (drop (m + 1) rest)) (range_from query start n) of_rest in
    let of_value =
    subst (λ value. IsFirstPair bytes (record { key = decoded (slice_range query start (start + n)); value = decoded value }) (drop (m + 1) rest))
    (range_from query (start + n + 1) m) of_key in
    subst (λ r. IsFirstPair bytes
    (record { key = decoded (slice_range query start (start + n)); value = decoded (slice_range query (start + n + 1) (start + n + 1 + m)) }) r) after of_value

-- an `&` at the place gives no pair
pub skipped : (query : List ℕ) (place : ℕ) → place < length query → get_or query place 0 ≡ 38
    → form.raw_pairs (drop place query) ≡ form.raw_pairs (drop (place + 1) query)
skipped query place inside is = grind (arith, drop-cons, raw_pairs_skip, split_once_before_same, split_once_after_same)
