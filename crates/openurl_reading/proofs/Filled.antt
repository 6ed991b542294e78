-- A key that gets the values of another one has some afterwards, or there were none.
use Rattle.std.proofs.Common.{◌≡◌, List, [], ◌∷◌, ◌++◌, map, Bool, true, false, cond, refl, sym, ap, ◌∙◌, subst, inl, inr, ◌⊎◌, get_or, take, arith}
use Rattle.std.specs.List.{All}
use Rattle.std.specs.Str.{bytes_eq}
use Rattle.std.proofs.lemmas.List.Elements.{All-head, All-tail, All-cons}
use Rattle.text_model.specs.Texts.{Text}
use Rattle.kev_read.specs.Pairs.{KeyValue, all_of}
use Rattle.openurl_reading.specs.Steps.{Step, unchanged, taken, after}
use Rattle.openurl_reading.specs.Values.{most_values}
use Rattle.openurl_reading.specs.OldKeys.{OldKey, filled, copy}
use Rattle.openurl_reading.proofs.Settled.{filled-none}
use Rattle.openurl_reading.proofs.Values.{same_key, values_after, all_of-taken, all_of-taken-own}

abbrev pub HasSome : List Text → Type 0
HasSome values = (v : Text) × (vs : List Text) × (values ≡ v ∷ vs)

unfoldable pub IsFilled : OldKey → List KeyValue → Type 0
IsFilled key pairs = (all_of pairs key.old ≡ []) ⊎ HasSome (all_of pairs key.new)

-- a step that fills the new key with what a function makes of the old values
abbrev pub fill : (List Text → List Text) → OldKey → Step
fill f key = record { key = key.new; change = λ pairs. filled (f (all_of pairs key.old)) (all_of pairs key.new) }

pub filled_unchanged : (f : List Text → List Text) (key : OldKey) (pairs : List KeyValue) → f [] ≡ [] → IsFilled key pairs
    → (fill f key).change pairs ≡ unchanged
unfolding IsFilled
filled_unchanged f key pairs none (inl e) =
    let known = all_of pairs key.new in
    ap (λ values. filled (f values) known) e ∙ ap (λ values. filled values known) none ∙ filled-none known
filled_unchanged f key pairs none (inr some) = ap (λ values. filled (f (all_of pairs key.old)) values) some.2

-- some values before others, or after them, are some
begins_with : (front values : List Text) → HasSome front → HasSome (front ++ values)
begins_with front values some = (some.0, some.1 ++ values, ap (λ vs. vs ++ values) some.2)

begins : (front values : List Text) → HasSome values → HasSome (front ++ values)
begins [] values some = some
begins (w ∷ ws) values some = (w, ws ++ values, refl)

-- a step keeps the values of its key, or replaces them by some if there are some
abbrev pub KeepsSome : Step → List KeyValue → Type 0
KeepsSome step pairs = ((step.change pairs).keeps ≡ true) ⊎ (HasSome (all_of pairs step.key) → HasSome (step.change pairs).values)

abbrev pub KeepsKey : Text → Step → Type 0
KeepsKey key step = (bytes_eq step.key key ≡ false) ⊎ ((pairs : List KeyValue) → KeepsSome step pairs)

pub kept_filled : (key : OldKey) (step : Step) (pairs : List KeyValue) (b : Bool) → bytes_eq step.key key.new ≡ b → KeepsSome step pairs
    → HasSome (all_of pairs key.new) → HasSome (all_of (taken pairs step) key.new)
kept_filled key step pairs false t keeps some =
    subst HasSome (sym (all_of-taken step pairs key.new t)) some
kept_filled key step pairs true t (inr replaces) some =
    let own : HasSome (all_of pairs step.key) = subst (λ k. HasSome (all_of pairs k)) (sym (same_key step.key key.new t)) some in
    let change = step.change pairs in
    subst (λ k. HasSome (all_of (taken pairs step) k)) (same_key step.key key.new t)
    (subst HasSome (sym (all_of-taken-own step pairs))
    (begins_with change.values (cond change.keeps (all_of pairs step.key) []) (replaces own)))
kept_filled key step pairs true t (inl keeps) some =
    let change = step.change pairs in
    let same : all_of (taken pairs step) key.new ≡ change.values ++ all_of pairs key.new =
    subst (λ k. all_of (taken pairs step) k ≡ change.values ++ all_of pairs k) (same_key step.key key.new t)
    (all_of-taken-own step pairs ∙ ap (λ b. change.values ++ cond b (all_of pairs step.key) []) keeps) in
    subst HasSome (sym same) (begins change.values (all_of pairs key.new) some)

-- a step that keeps what the new key has, and is not of the old key, leaves it filled
pub keeps_filled : (key : OldKey) (step : Step) (pairs : List KeyValue) → bytes_eq step.key key.old ≡ false → KeepsKey key.new step
    → IsFilled key pairs → IsFilled key (taken pairs step)
unfolding IsFilled
keeps_filled key step pairs old keeps (inl none) = inl (all_of-taken step pairs key.old old ∙ none)
keeps_filled key step pairs old (inl other) (inr some) = inr (subst HasSome (sym (all_of-taken step pairs key.new other)) some)
keeps_filled key step pairs old (inr keeps) (inr some) = inr (kept_filled key step pairs (bytes_eq step.key key.new) refl (keeps pairs) some)

pub all_keep_filled : (key : OldKey) (steps : List Step) (pairs : List KeyValue) → All (λ step. bytes_eq step.key key.old ≡ false) steps
    → All (KeepsKey key.new) steps → IsFilled key pairs → IsFilled key (after steps pairs)
all_keep_filled key [] pairs old keeps filled = filled
all_keep_filled key (step ∷ steps) pairs old keeps filled =
    let P : Step → Type 0 = λ step. bytes_eq step.key key.old ≡ false in
    all_keep_filled key steps (taken pairs step) (All-tail P step steps old) (All-tail (KeepsKey key.new) step steps keeps)
    (keeps_filled key step pairs (All-head P step steps old) (All-head (KeepsKey key.new) step steps keeps) filled)

pub filled-keeps : (values known : List Text) → (filled values known).keeps ≡ true
filled-keeps values [] = refl
filled-keeps values (v ∷ vs) = refl

-- ---- the step itself fills

abbrev pub MakesSome : (List Text → List Text) → Type 0
MakesSome f = (v : Text) (vs : List Text) → HasSome (f (v ∷ vs))

filled-fills : (f : List Text → List Text) → MakesSome f → (values known : List Text)
    → (values ≡ []) ⊎ HasSome (values_after (filled (f values) known) known)
filled-fills f some values (v ∷ vs) = inr (v, vs, refl)
filled-fills f some [] [] = inl refl
filled-fills f some (v ∷ vs) [] =
    let w = some v vs in inr (w.0, w.1 ++ [], ap (λ values. values ++ []) w.2)

pub fill-fills : (f : List Text → List Text) (key : OldKey) (pairs : List KeyValue) → MakesSome f → bytes_eq key.new key.old ≡ false
    → IsFilled key (taken pairs (fill f key))
unfolding IsFilled
fill-fills f key pairs some h =
    elim (filled-fills f some (all_of pairs key.old) (all_of pairs key.new)) [
      | inl none ↦ inl (all_of-taken (fill f key) pairs key.old h ∙ none)
      | inr values ↦ inr (subst HasSome (sym (all_of-taken-own (fill f key) pairs)) values)
    ]

-- ---- all old keys

abbrev AreApart : List OldKey → OldKey → Type 0
AreApart others key = All (λ other. bytes_eq other.new key.old ≡ false) others

copies_keep : (key : OldKey) (others : List OldKey) (pairs : List KeyValue) → AreApart others key → IsFilled key pairs
    → IsFilled key (after (map copy others) pairs)
copies_keep key [] pairs apart filled = filled
copies_keep key (other ∷ others) pairs apart filled =
    let P : OldKey → Type 0 = λ other. bytes_eq other.new key.old ≡ false in
    copies_keep key others (taken pairs (copy other)) (All-tail P other others apart)
    (keeps_filled key (copy other) pairs (All-head P other others apart) (inr (λ p. inl (filled-keeps _ (all_of p other.new)))) filled)

pub copies_fill : (keys : List OldKey) (pairs : List KeyValue) → MakesSome (take most_values) → All (AreApart keys) keys
    → All (λ key. IsFilled key (after (map copy keys) pairs)) keys
copies_fill [] pairs some apart = λ k d h. absurd (omega arith)
copies_fill (key ∷ keys) pairs some apart =
    let P : OldKey → Type 0 = λ other. bytes_eq other.new key.old ≡ false in
    let next = taken pairs (copy key) in
    let own : AreApart (key ∷ keys) key = All-head (AreApart (key ∷ keys)) key keys apart in
    let rest = All-tail (AreApart (key ∷ keys)) key keys apart in
    All-cons (λ k. IsFilled k (after (map copy keys) next)) key keys
    (copies_keep key keys next (All-tail P key keys own) (fill-fills (take most_values) key pairs some (All-head P key keys own)))
    (copies_fill keys next some (λ k d h. All-tail (λ other. bytes_eq other.new (get_or keys k d).old ≡ false) key keys (rest k d h)))
