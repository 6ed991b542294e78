-- Places in an index.
use Rattle.std.proofs.Common.{◌≡◌, ℕ, ◌+◌, ◌≤◌, ◌<◌, Bool, true, false, List, [], ◌∷◌, ◌++◌, get_or, length, take, drop, ap, ◌∙◌, refl, arith, nat_lt}
use Rattle.std.proofs.lemmas.Grind.{common_steps}
use Rattle.std.proofs.lemmas.Bool.Decides.{nat_tests}
use Rattle.std.proofs.lemmas.List.{get_or-drop, get_or-take, length-append}
use Rattle.kbart_rows.specs.Private.Index.{AreSmall, AreStarts, IsOrdered, bucket_of, entry_key, key_of}
use Rattle.kbart_rows.specs.declared.index.Entry.{Entry}

pub at_mid : (entries : List Entry) (start n i k : ℕ) (d : Entry) → i < n → start + i ≡ k → get_or (take n (drop start entries)) i d ≡ get_or entries k d
at_mid entries start n i k d inside is = get_or-take n (drop start entries) i d inside ∙ get_or-drop start entries i d ∙ ap (λ at. get_or entries at d) is

-- a later hash is in no earlier bucket
pub buckets_rise : (shift a b : ℕ) → a ≤ b → bucket_of shift a ≤ bucket_of shift b
buckets_rise shift a b le = grind (arith, common_steps)

-- a bucket does not start after the next one
pub starts_rise : (shift : ℕ) (entries : List Entry) (starts : List ℕ) (bucket : ℕ) → AreStarts shift entries starts → bucket + 1 < length starts
    → get_or starts bucket 0 ≤ get_or starts (bucket + 1) 0
starts_rise shift entries starts bucket are inside = by_test (nat_lt (get_or starts (bucket + 1) 0) (get_or starts bucket 0)) refl
  where
    by_test : (b : Bool) → nat_lt (get_or starts (bucket + 1) 0) (get_or starts bucket 0) ≡ b → get_or starts bucket 0 ≤ get_or starts (bucket + 1) 0
    by_test true less =
        let small : get_or starts (bucket + 1) 0 < get_or starts bucket 0 = grind arith in
        let entry : Entry = record { hash = 0; row = 0 } in
        let k = get_or starts (bucket + 1) 0 in
        let within = are.within bucket (omega (arith, inside)) in
        let here : k < length entries = omega (arith, small, within) in
        let before = are.before bucket k entry (omega (arith, inside)) small here in
        let after = are.after (bucket + 1) k entry inside (omega arith) here in
        absurd (omega (arith, before, after))
    by_test false more = grind arith

-- all entries before the bucket's start are before its hashes
pub before_start : (shift : ℕ) (entries : List Entry) (starts : List ℕ) (hash k : ℕ) (d : Entry) → AreStarts shift entries starts
    → bucket_of shift hash < length starts → k < get_or starts (bucket_of shift hash) 0 → k < length entries → (get_or entries k d).hash < hash
before_start shift entries starts hash k d are inside small within = by_test (nat_lt (get_or entries k d).hash hash) refl
  where
    by_test : (b : Bool) → nat_lt (get_or entries k d).hash hash ≡ b → (get_or entries k d).hash < hash
    by_test true less = grind arith
    by_test false more =
        let large : hash ≤ (get_or entries k d).hash = grind arith in
        let before = are.before (bucket_of shift hash) k d inside small within in
        absurd (omega (arith, before, buckets_rise shift hash (get_or entries k d).hash large))

-- all entries from the next bucket's start on are after its hashes
pub after_end : (shift : ℕ) (entries : List Entry) (starts : List ℕ) (hash k : ℕ) (d : Entry) → AreStarts shift entries starts
    → bucket_of shift hash + 1 < length starts → get_or starts (bucket_of shift hash + 1) 0 ≤ k → k < length entries → hash < (get_or entries k d).hash
after_end shift entries starts hash k d are inside large within = by_test (nat_lt hash (get_or entries k d).hash) refl
  where
    by_test : (b : Bool) → nat_lt hash (get_or entries k d).hash ≡ b → hash < (get_or entries k d).hash
    by_test true less = grind (arith, nat_tests)
    by_test false more =
        let small : (get_or entries k d).hash ≤ hash = grind arith in
        let after = are.after (bucket_of shift hash + 1) k d inside large within in
        absurd (omega (arith, after, buckets_rise shift (get_or entries k d).hash hash small))

-- the place in a bucket is the place in the index
pub place_before : (shift : ℕ) (entries : List Entry) (starts : List ℕ) (hash row start place : ℕ) → AreStarts shift entries starts → AreSmall entries
    → bucket_of shift hash + 1 < length starts → start ≡ get_or starts (bucket_of shift hash) 0
    → ((k : ℕ) (d : Entry) → start ≤ k → k < place → entry_key (get_or entries k d) < key_of hash row)
    → (k : ℕ) (d : Entry) → k < place → k < length entries → entry_key (get_or entries k d) < key_of hash row
place_before shift entries starts hash row start place are small inside is before k d below within = by_test (nat_lt k start) refl
  where
    by_test : (b : Bool) → nat_lt k start ≡ b → entry_key (get_or entries k d) < key_of hash row
    by_test b less = grind (arith, before_start, inside, within, before)

pub place_after : (shift : ℕ) (entries : List Entry) (starts : List ℕ) (hash row end place : ℕ) → AreStarts shift entries starts → row < 4294967296
    → bucket_of shift hash + 1 < length starts → end ≡ get_or starts (bucket_of shift hash + 1) 0
    → ((k : ℕ) (d : Entry) → place ≤ k → k < end → key_of hash row ≤ entry_key (get_or entries k d))
    → (k : ℕ) (d : Entry) → place ≤ k → k < length entries → key_of hash row ≤ entry_key (get_or entries k d)
place_after shift entries starts hash row end place are small inside is after k d above within = by_test (nat_lt k end) refl
  where
    by_test : (b : Bool) → nat_lt k end ≡ b → key_of hash row ≤ entry_key (get_or entries k d)
    by_test b less = grind (arith, nat_tests, after_end, inside, within)

-- ---- how the starts are found

pub hashes_rise : (entries : List Entry) (i j : ℕ) (d : Entry) → IsOrdered entries → AreSmall entries → i ≤ j → j < length entries
    → (get_or entries i d).hash ≤ (get_or entries j d).hash
hashes_rise entries i j d order small le inside = grind arith

-- the starts of that many buckets
pub record AreSoFar (shift : ℕ) (entries : List Entry) (starts : List ℕ) (buckets at : ℕ) : Type 0 where
  pub count : length starts ≡ buckets
  pub inside : at ≤ length entries
  pub passed : (k : ℕ) (d : Entry) → k < at → k < length entries → bucket_of shift (get_or entries k d).hash < buckets
  pub before : (bucket k : ℕ) (d : Entry) → bucket < length starts → k < get_or starts bucket 0 → k < length entries
      → bucket_of shift (get_or entries k d).hash < bucket
  pub after : (bucket k : ℕ) (d : Entry) → bucket < length starts → get_or starts bucket 0 ≤ k → k < length entries
      → bucket ≤ bucket_of shift (get_or entries k d).hash
  pub within : (bucket : ℕ) → bucket < length starts → get_or starts bucket 0 ≤ length entries

pub one_start_more : (shift : ℕ) (entries : List Entry) (starts : List ℕ) (buckets at start : ℕ) → IsOrdered entries → AreSmall entries
    → AreSoFar shift entries starts buckets at → at ≤ start → start ≤ length entries
    → ((k : ℕ) (d : Entry) → at ≤ k → k < start → bucket_of shift (get_or entries k d).hash < buckets)
    → ((d : Entry) → start < length entries → buckets ≤ bucket_of shift (get_or entries start d).hash)
    → AreSoFar shift entries (starts ++ start ∷ []) (buckets + 1) start
one_start_more shift entries starts buckets at start order small so_far later inside skipped stopped =
    let count = so_far.count in
    let long = length-append starts (start ∷ []) in
    record {
      count = omega (arith, count, long);
      inside = inside;
      passed = λ k d below within. let less = earlier k d below within in omega (arith, less);
      before = λ bucket k d few below within. by_before bucket k d few below within (nat_lt bucket (length starts)) refl;
      after = λ bucket k d few above within. by_after bucket k d few above within (nat_lt bucket (length starts)) refl;
      within = λ bucket few. by_within bucket few (nat_lt bucket (length starts)) refl;
    }
  where
    earlier : (k : ℕ) (d : Entry) → k < start → k < length entries → bucket_of shift (get_or entries k d).hash < buckets
    earlier k d below within = grind (arith, common_steps)

    last : (bucket : ℕ) → bucket < length (starts ++ start ∷ []) → nat_lt bucket (length starts) ≡ false
        → (bucket ≡ buckets) × (get_or (starts ++ start ∷ []) bucket 0 ≡ start)
    last bucket few more = grind (arith, common_steps)

    by_before : (bucket k : ℕ) (d : Entry) → bucket < length (starts ++ start ∷ []) → k < get_or (starts ++ start ∷ []) bucket 0 → k < length entries
        → (b : Bool) → nat_lt bucket (length starts) ≡ b → bucket_of shift (get_or entries k d).hash < bucket
    by_before bucket k d few below within b less = grind (arith, common_steps)

    by_after : (bucket k : ℕ) (d : Entry) → bucket < length (starts ++ start ∷ []) → get_or (starts ++ start ∷ []) bucket 0 ≤ k → k < length entries
        → (b : Bool) → nat_lt bucket (length starts) ≡ b → bucket ≤ bucket_of shift (get_or entries k d).hash
    by_after bucket k d few above within true less = grind (arith, common_steps)
    by_after bucket k d few above within false more =
        let part = last bucket few more in
        let is = part.0 in
        let same = part.1 in
        let le : start ≤ k = omega (arith, above, same) in
        let here = stopped d (omega (arith, le, within)) in
        let rise = buckets_rise shift (get_or entries start d).hash (get_or entries k d).hash (hashes_rise entries start k d order small le within) in
        omega (arith, here, rise, is)

    by_within : (bucket : ℕ) → bucket < length (starts ++ start ∷ []) → (b : Bool) → nat_lt bucket (length starts) ≡ b
        → get_or (starts ++ start ∷ []) bucket 0 ≤ length entries
    by_within bucket few b less = grind (arith, common_steps)
