-- A step leaves the pairs of all other keys.
use Rattle.std.proofs.Common.{◌≡◌, List, [], ◌∷◌, ◌++◌, filter, Bool, true, false, not, refl, ap, ◌∙◌, cond}
use Rattle.std.proofs.lemmas.List.Elements.{filter-append}
use Rattle.std.specs.Str.{bytes_eq}
use Rattle.std.proofs.lemmas.Bool.{and_from, eq-eqb}
use Rattle.text_model.specs.Texts.{Text}
use Rattle.kev_read.specs.Pairs.{KeyValue, has_key}
use Rattle.openurl_reading.specs.Steps.{Step, pairs_with, kept, others, taken}

pub bytes_eq-same : (key : Text) → bytes_eq key key ≡ true
bytes_eq-same [] = refl
bytes_eq-same (b ∷ t) = and_from _ _ (eq-eqb b b refl) (bytes_eq-same t)

others-pairs_with : (key : Text) (values : List Text) → others key (pairs_with key values) ≡ []
others-pairs_with key [] = refl
others-pairs_with key (v ∷ vs) = rw (bytes_eq-same key) (others-pairs_with key vs)

filter_cond : (test : KeyValue → Bool) (pair : KeyValue) (rest : List KeyValue) (b : Bool) → test pair ≡ b → filter test rest ≡ rest
    → filter test (cond b (pair ∷ rest) rest) ≡ cond b (pair ∷ rest) rest
filter_cond test pair rest false h e = e
filter_cond test pair rest true h e = rw h (ap (λ more. pair ∷ more) e)

filter_twice : (test : KeyValue → Bool) (pairs : List KeyValue) → filter test (filter test pairs) ≡ filter test pairs
filter_twice test [] = refl
filter_twice test (pair ∷ pairs) = filter_cond test pair (filter test pairs) (test pair) refl (filter_twice test pairs)

others-kept : (keeps : Bool) (key : Text) (pairs : List KeyValue) → others key (kept keeps key pairs) ≡ others key pairs
others-kept true key pairs = refl
others-kept false key pairs = filter_twice (λ pair. not (has_key key pair)) pairs

pub others-taken : (step : Step) (pairs : List KeyValue) → others step.key (taken pairs step) ≡ others step.key pairs
others-taken step pairs =
    let change = step.change pairs in
    filter-append (λ pair. not (has_key step.key pair)) (pairs_with step.key change.values) (kept change.keeps step.key pairs)
    ∙ ap (λ front. front ++ others step.key (kept change.keeps step.key pairs)) (others-pairs_with step.key change.values)
    ∙ others-kept change.keeps step.key pairs
