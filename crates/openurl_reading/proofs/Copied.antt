-- Copies that are made if a test passes.
use Rattle.std.proofs.Common.{◌≡◌, List, [], ◌∷◌, Bool, true, false, not, refl, sym, ap, ◌∙◌, subst, take, inl, inr}
use Rattle.std.specs.List.{All}
use Rattle.std.specs.Str.{bytes_eq}
use Rattle.std.proofs.lemmas.List.Elements.{All-cons, All-head, All-tail}
use Rattle.text_model.specs.Texts.{Text}
use Rattle.kev_read.specs.Pairs.{KeyValue, all_of}
use Rattle.openurl_reading.specs.OldKeys.{OldKey, filled, copied, copied_if, copy, copying, choosing}
use Rattle.openurl_reading.specs.Steps.{Step, unchanged, changed, taken, after}
use Rattle.openurl_reading.specs.Values.{most_values}
use Rattle.openurl_reading.proofs.Each.{one_has}
use Rattle.openurl_reading.proofs.Filled.{HasSome, IsFilled, KeepsKey, kept_filled, filled_unchanged, filled-keeps, fill-fills, all_keep_filled}
use Rattle.openurl_reading.proofs.Passing.{AreAccepted, allows, copies_pass}
use Rattle.openurl_reading.proofs.Settled.{filled-none}
use Rattle.openurl_reading.proofs.Titled.{unchanged_if, some_values}
use Rattle.openurl_reading.proofs.Values.{all_of-taken}

-- nothing is copied, or the values of a key to another one, under which they count
pub data IsCopyOf (old : Text) (pairs next : List KeyValue) : Type 0 where
  no_copy : next ≡ pairs → IsCopyOf old pairs next
  one_copy : (new : Text) → allows old new ≡ true → next ≡ taken pairs (copy (record { old = old; new = new })) → IsCopyOf old pairs next

pub copy_of_passes : (old : Text) (pairs next : List KeyValue) → IsCopyOf old pairs next → AreAccepted pairs → AreAccepted next
copy_of_passes old pairs next (no_copy same) all = subst AreAccepted (sym same) all
copy_of_passes old pairs next (one_copy new may one) all =
    let key : OldKey = record { old = old; new = new } in
    subst AreAccepted (sym one) (copies_pass (key ∷ []) pairs (one_has (λ (key : OldKey). allows key.old key.new ≡ true) key may) all)

-- ---- one copy

pub copied-keeps : (b : Bool) (key : OldKey) (pairs : List KeyValue) → (copied_if b key pairs).keeps ≡ true
copied-keeps true key pairs = filled-keeps (take most_values (all_of pairs key.old)) (all_of pairs key.new)
copied-keeps false key pairs = refl

pub copying_keeps : (key : Text) (test : List KeyValue → Bool) (one : OldKey) → KeepsKey key (copying test one)
copying_keeps key test one = inr (λ p. inl (copied-keeps (test p) one p))

pub copying-is : (test : List KeyValue → Bool) (old new : Text) (pairs : List KeyValue) → allows old new ≡ true
    → IsCopyOf old pairs (taken pairs (copying test (record { old = old; new = new })))
copying-is test old new pairs may = by_test (test pairs)
  where
    by_test : (b : Bool) → IsCopyOf old pairs (changed new (copied_if b (record { old = old; new = new }) pairs) pairs)
    by_test true = one_copy new may refl
    by_test false = no_copy refl

-- without old values, nothing is copied
pub copying-none : (test : List KeyValue → Bool) (key : OldKey) (pairs : List KeyValue) → all_of pairs key.old ≡ []
    → (copying test key).change pairs ≡ unchanged
copying-none test key pairs none =
    unchanged_if (test pairs) (copied key pairs)
    (ap (λ values. filled (take most_values values) (all_of pairs key.new)) none ∙ filled-none (all_of pairs key.new))

-- nor if the key has got some values
pub copying-filled : (test : List KeyValue → Bool) (key : OldKey) (pairs : List KeyValue) → IsFilled key pairs → (copying test key).change pairs ≡ unchanged
copying-filled test key pairs filled = unchanged_if (test pairs) (copied key pairs) (filled_unchanged (take most_values) key pairs refl filled)

pub copying-failed : (test : List KeyValue → Bool) (key : OldKey) (pairs : List KeyValue) → test pairs ≡ false → (copying test key).change pairs ≡ unchanged
copying-failed test key pairs fails = ap (λ b. copied_if b key pairs) fails

-- steps that keep what a key has leave it some values
pub still_some : (key : Text) (steps : List Step) (pairs : List KeyValue) → All (KeepsKey key) steps → HasSome (all_of pairs key)
    → HasSome (all_of (after steps pairs) key)
still_some key [] pairs keeps some = some
still_some key (step ∷ steps) pairs keeps some =
    still_some key steps (taken pairs step) (All-tail (KeepsKey key) step steps keeps) (one (All-head (KeepsKey key) step steps keeps))
  where
    one : KeepsKey key step → HasSome (all_of (taken pairs step) key)
    one (inl other) = subst HasSome (sym (all_of-taken step pairs key other)) some
    one (inr all) = kept_filled (record { old = key; new = key }) step pairs (bytes_eq step.key key) refl (all pairs) some

-- a copy that was made is not made again
pub made_fills : (key : OldKey) (made : List KeyValue → List KeyValue) (before : List KeyValue) (later : List Step) → made before ≡ taken before (copy key)
    → bytes_eq key.new key.old ≡ false → All (λ step. bytes_eq step.key key.old ≡ false) later → All (KeepsKey key.new) later
    → IsFilled key (after later (made before))
made_fills key made before later is apart old keeps =
    all_keep_filled key later (made before) old keeps
    (subst (IsFilled key) (sym is) (fill-fills (take most_values) key before some_values apart))

pub copying-made : (test : List KeyValue → Bool) (key : OldKey) (pairs : List KeyValue) → test pairs ≡ true
    → taken pairs (copying test key) ≡ taken pairs (copy key)
copying-made test key pairs passes = ap (λ b. changed key.new (copied_if b key pairs) pairs) passes

pub not_copied : (test : List KeyValue → Bool) (key : OldKey) (pairs : List KeyValue) → test pairs ≡ false → taken pairs (copying test key) ≡ pairs
not_copied test key pairs fails = ap (λ b. changed key.new (copied_if b key pairs) pairs) fails

pub copying_settles : (test : List KeyValue → Bool) (key : OldKey) (before : List KeyValue) (later : List Step)
    → bytes_eq key.new key.old ≡ false → All (λ step. bytes_eq step.key key.old ≡ false) later → All (KeepsKey key.new) later
    → (test before ≡ false → (copying test key).change (after later (taken before (copying test key))) ≡ unchanged)
    → (copying test key).change (after later (taken before (copying test key))) ≡ unchanged
copying_settles test key before later apart old keeps none = by_test (test before) refl
  where
    made : List KeyValue → List KeyValue
    made p = taken p (copying test key)

    by_test : (b : Bool) → test before ≡ b → (copying test key).change (after later (taken before (copying test key))) ≡ unchanged
    by_test true e =
        copying-filled test key (after later (made before)) (made_fills key made before later (copying-made test key before e) apart old keeps)
    by_test false e = none e

-- ---- one of two copies

pub choosing_first : (test : List KeyValue → Bool) (key other : OldKey) (pairs : List KeyValue)
    → test (taken pairs (copy key)) ≡ test pairs → test pairs ≡ true → after (choosing test key other) pairs ≡ taken pairs (copy key)
choosing_first test key other pairs same e =
    let next = taken pairs (copy key) in
    ap (λ p. taken p (copying (λ q. not (test q)) other)) (ap (λ b. changed key.new (copied_if b key pairs) pairs) e)
    ∙ ap (λ b. changed other.new (copied_if (not b) other next) next) (same ∙ e)

pub choosing_second : (test : List KeyValue → Bool) (key other : OldKey) (pairs : List KeyValue)
    → test pairs ≡ false → after (choosing test key other) pairs ≡ taken pairs (copy other)
choosing_second test key other pairs e =
    ap (λ p. taken p (copying (λ q. not (test q)) other)) (ap (λ b. changed key.new (copied_if b key pairs) pairs) e)
    ∙ ap (λ b. changed other.new (copied_if (not b) other pairs) pairs) e

pub choosing-is : (test : List KeyValue → Bool) (old a b : Text) (pairs : List KeyValue) → allows old a ≡ true → allows old b ≡ true
    → test (taken pairs (copy (record { old = old; new = a }))) ≡ test pairs
    → IsCopyOf old pairs (after (choosing test (record { old = old; new = a }) (record { old = old; new = b })) pairs)
choosing-is test old a b pairs may may' same = by_test (test pairs) refl
  where
    by_test : (c : Bool) → test pairs ≡ c → IsCopyOf old pairs (after (choosing test (record { old = old; new = a }) (record { old = old; new = b })) pairs)
    by_test true e = one_copy a may (choosing_first test (record { old = old; new = a }) (record { old = old; new = b }) pairs same e)
    by_test false e = one_copy b may' (choosing_second test (record { old = old; new = a }) (record { old = old; new = b }) pairs e)

pub choosing_keeps : (key : Text) (test : List KeyValue → Bool) (one other : OldKey) → All (KeepsKey key) (choosing test one other)
choosing_keeps key test one other =
    All-cons (KeepsKey key) (copying test one) (copying (λ pairs. not (test pairs)) other ∷ []) (copying_keeps key test one)
    (one_has (KeepsKey key) (copying (λ pairs. not (test pairs)) other) (copying_keeps key (λ pairs. not (test pairs)) other))

pub both_unchanged : (test : List KeyValue → Bool) (key other : OldKey) (now : List KeyValue) → (copying test key).change now ≡ unchanged
    → (copying (λ pairs. not (test pairs)) other).change now ≡ unchanged → All (λ step. step.change now ≡ unchanged) (choosing test key other)
both_unchanged test key other now a b =
    let P : Step → Type 0 = λ step. step.change now ≡ unchanged in
    All-cons P (copying test key) (copying (λ pairs. not (test pairs)) other ∷ []) a (one_has P (copying (λ pairs. not (test pairs)) other) b)

pub choosing_settles : (test : List KeyValue → Bool) (key other : OldKey) (before : List KeyValue) (later : List Step)
    → test (taken before (copy key)) ≡ test before → test (after later (after (choosing test key other) before)) ≡ test before
    → bytes_eq key.new key.old ≡ false → bytes_eq other.new other.old ≡ false
    → All (λ step. bytes_eq step.key key.old ≡ false) later → All (λ step. bytes_eq step.key other.old ≡ false) later
    → All (KeepsKey key.new) later → All (KeepsKey other.new) later
    → All (λ step. step.change (after later (after (choosing test key other) before)) ≡ unchanged) (choosing test key other)
choosing_settles test key other before later same still apart apart' old old' keeps keeps' = by_test (test before) refl
  where
    made : List KeyValue → List KeyValue
    made p = after (choosing test key other) p

    by_test : (b : Bool) → test before ≡ b
        → All (λ step. step.change (after later (after (choosing test key other) before)) ≡ unchanged) (choosing test key other)
    by_test true e =
        let now = after later (made before) in
        both_unchanged test key other now
        (copying-filled test key now (made_fills key made before later (choosing_first test key other before same e) apart old keeps))
        (copying-failed (λ pairs. not (test pairs)) other now (ap not (still ∙ e)))
    by_test false e =
        let now = after later (made before) in
        both_unchanged test key other now
        (copying-failed test key now (still ∙ e))
        (copying-filled (λ pairs. not (test pairs)) other now
        (made_fills other made before later (choosing_second test key other before e) apart' old' keeps'))
