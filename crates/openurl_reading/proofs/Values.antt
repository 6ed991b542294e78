-- What a step leaves under a key.
use Rattle.std.proofs.Common.{◌≡◌, List, [], ◌∷◌, ◌++◌, map, filter, Bool, true, false, cond, not, refl, sym, ap, ◌∙◌, subst}
use Rattle.std.specs.List.{All}
use Rattle.std.specs.Str.{bytes_eq}
use Rattle.std.proofs.lemmas.List.{map-append}
use Rattle.std.proofs.lemmas.List.Elements.{filter-append, All-head, All-tail}
use Rattle.std.proofs.lemmas.Slice.Eq.{bytes_eq-Decides}
use Rattle.text_model.specs.Texts.{Text}
use Rattle.kev_read.specs.Pairs.{KeyValue, has_key, all_of}
use Rattle.openurl_reading.specs.Steps.{Change, Step, pairs_with, kept, others, taken, after}
use Rattle.openurl_reading.proofs.Others.{bytes_eq-same}

pub same_key : (a b : Text) → bytes_eq a b ≡ true → a ≡ b
same_key a b h = (bytes_eq-Decides a b).0 h

pub all_of-append : (a b : List KeyValue) (key : Text) → all_of (a ++ b) key ≡ all_of a key ++ all_of b key
all_of-append a b key =
    ap (map (λ p. p.value)) (filter-append (has_key key) a b) ∙ map-append (λ (p : KeyValue). p.value) (filter (has_key key) a) (filter (has_key key) b)

pub pairs_with-own : (key : Text) (values : List Text) → all_of (pairs_with key values) key ≡ values
pairs_with-own key [] = refl
pairs_with-own key (v ∷ vs) = rw (bytes_eq-same key) (ap (λ r. v ∷ r) (pairs_with-own key vs))

pairs_with-other : (key other : Text) (values : List Text) → bytes_eq key other ≡ false → all_of (pairs_with key values) other ≡ []
pairs_with-other key other [] h = refl
pairs_with-other key other (v ∷ vs) h = rw h (pairs_with-other key other vs h)

-- a pair of the key goes, and it is none of another key
other_more : (key other : Text) (pair : KeyValue) (rest : List KeyValue) (b : Bool) → has_key key pair ≡ b → bytes_eq key other ≡ false
    → all_of (others key rest) other ≡ all_of rest other
    → all_of (cond (not b) (pair ∷ others key rest) (others key rest)) other ≡ all_of (pair ∷ rest) other
other_more key other pair rest true h apart e =
    let none : has_key other pair ≡ false = subst (λ k. bytes_eq k other ≡ false) (sym (same_key pair.key key h)) apart in
    rw none e
other_more key other pair rest false h apart e =
    all_of-append (pair ∷ []) (others key rest) other ∙ ap (λ r. all_of (pair ∷ []) other ++ r) e ∙ sym (all_of-append (pair ∷ []) rest other)

pub all_of-others : (key other : Text) (pairs : List KeyValue) → bytes_eq key other ≡ false → all_of (others key pairs) other ≡ all_of pairs other
all_of-others key other [] h = refl
all_of-others key other (pair ∷ pairs) h = other_more key other pair pairs (has_key key pair) refl h (all_of-others key other pairs h)

all_of-kept-other : (keeps : Bool) (key other : Text) (pairs : List KeyValue) → bytes_eq key other ≡ false
    → all_of (kept keeps key pairs) other ≡ all_of pairs other
all_of-kept-other true key other pairs h = refl
all_of-kept-other false key other pairs h = all_of-others key other pairs h

-- another key has the values that it had
pub all_of-taken : (step : Step) (pairs : List KeyValue) (other : Text) → bytes_eq step.key other ≡ false → all_of (taken pairs step) other ≡ all_of pairs other
all_of-taken step pairs other h =
    let change = step.change pairs in
    all_of-append (pairs_with step.key change.values) (kept change.keeps step.key pairs) other
    ∙ ap (λ r. r ++ all_of (kept change.keeps step.key pairs) other) (pairs_with-other step.key other change.values h)
    ∙ all_of-kept-other change.keeps step.key other pairs h

pub all_of-after : (steps : List Step) (pairs : List KeyValue) (other : Text) → All (λ step. bytes_eq step.key other ≡ false) steps
    → all_of (after steps pairs) other ≡ all_of pairs other
all_of-after [] pairs other all = refl
all_of-after (step ∷ steps) pairs other all =
    all_of-after steps (taken pairs step) other (All-tail (λ s. bytes_eq s.key other ≡ false) step steps all)
    ∙ all_of-taken step pairs other (All-head (λ s. bytes_eq s.key other ≡ false) step steps all)

others-own : (key : Text) (pair : KeyValue) (rest : List KeyValue) (b : Bool) → has_key key pair ≡ b → all_of rest key ≡ []
    → all_of (cond (not b) (pair ∷ rest) rest) key ≡ []
others-own key pair rest true h e = e
others-own key pair rest false h e = rw h e

all_of-others-own : (key : Text) (pairs : List KeyValue) → all_of (others key pairs) key ≡ []
all_of-others-own key [] = refl
all_of-others-own key (pair ∷ pairs) = others-own key pair (others key pairs) (has_key key pair) refl (all_of-others-own key pairs)

-- the values of a key after a change of them
abbrev pub values_after : Change → List Text → List Text
values_after change values = change.values ++ cond change.keeps values []

all_of-kept-own : (keeps : Bool) (key : Text) (pairs : List KeyValue) → all_of (kept keeps key pairs) key ≡ cond keeps (all_of pairs key) []
all_of-kept-own true key pairs = refl
all_of-kept-own false key pairs = all_of-others-own key pairs

pub all_of-taken-own : (step : Step) (pairs : List KeyValue) → all_of (taken pairs step) step.key ≡ values_after (step.change pairs) (all_of pairs step.key)
all_of-taken-own step pairs =
    let change = step.change pairs in
    all_of-append (pairs_with step.key change.values) (kept change.keeps step.key pairs) step.key
    ∙ ap (λ r. r ++ all_of (kept change.keeps step.key pairs) step.key) (pairs_with-own step.key change.values)
    ∙ ap (λ r. change.values ++ r) (all_of-kept-own change.keeps step.key pairs)
