-- No step gives a key that the request may not have, and the other keys are those that the resolver adds.
use Rattle.std.proofs.Common.{◌≡◌, List, [], ◌∷◌, ◌++◌, filter, map, Bool, true, false, not, refl, arith, cond, get_or, ap, ◌∙◌, append-nil}
use Rattle.std.specs.List.{All}
use Rattle.std.specs.Str.{bytes_eq}
use Rattle.std.proofs.lemmas.Bool.{and_parts, not-true}
use Rattle.std.proofs.lemmas.List.Sums.{AllPass-from_list_all}
use Rattle.std.proofs.lemmas.List.Elements.{All-append, All-take, All-filter, All-cons, All-head, All-tail, filter-append}
use Rattle.text_model.specs.Texts.{Text}
use Rattle.kev_read.specs.Pairs.{KeyValue, has_key}
use Rattle.openurl_reading.specs.Counting.{is_added_key, is_free, is_accepted, is_column, accepted, counting, most_pairs}
use Rattle.openurl_reading.specs.Keys.{in_small_letters, key_of, named}
use Rattle.openurl_reading.specs.Steps.{Step, pairs_with, kept, taken, after}
use Rattle.openurl_reading.specs.Reading.{steps, normal_form, derived, with_derived}
use Rattle.openurl_reading.proofs.Additions.{additions, all_derived}
use Rattle.openurl_reading.proofs.Each.{all_stay, none_stays}
use Rattle.openurl_reading.proofs.SmallKeys.{IsNamed, named_are, small_stays}
use Rattle.openurl_reading.proofs.Values.{same_key}

abbrev pub AreFree : List KeyValue → Type 0
AreFree pairs = All (λ pair. is_free pair.key ≡ true) pairs

accepted_more : (pair : KeyValue) (pairs : List KeyValue) (b : Bool) → is_accepted pair ≡ b → AreFree (accepted pairs)
    → AreFree (cond b (pair ∷ accepted pairs) (accepted pairs))
accepted_more pair pairs false h all = all
accepted_more pair pairs true h all =
    let parts = and_parts _ _ h in
    All-cons (λ p. is_free p.key ≡ true) pair (accepted pairs) parts.0 all

free-accepted : (pairs : List KeyValue) → AreFree (accepted pairs)
free-accepted [] = λ k d h. absurd (omega arith)
free-accepted (pair ∷ pairs) = accepted_more pair pairs (is_accepted pair) refl (free-accepted pairs)

pub free-counting : (pairs : List KeyValue) → AreFree (counting pairs)
free-counting pairs = All-take (λ p. is_free p.key ≡ true) most_pairs (accepted (map named pairs)) (free-accepted (map named pairs))

-- ---- what holds of the keys of pairs and of steps holds after the steps

keys_with : (P : Text → Type 0) (key : Text) (values : List Text) → P key → All (λ (pair : KeyValue). P pair.key) (pairs_with key values)
keys_with P key [] h = λ k d g. absurd (omega arith)
keys_with P key (v ∷ vs) h = All-cons (λ (p : KeyValue). P p.key) (record { key = key; value = v }) (pairs_with key vs) h (keys_with P key vs h)

keys_kept : (P : Text → Type 0) (keeps : Bool) (key : Text) (pairs : List KeyValue) → All (λ (pair : KeyValue). P pair.key) pairs
    → All (λ (pair : KeyValue). P pair.key) (kept keeps key pairs)
keys_kept P true key pairs all = all
keys_kept P false key pairs all = All-filter (λ pair. not (has_key key pair)) (λ (p : KeyValue). P p.key) pairs all

keys_after : (P : Text → Type 0) (all : List Step) (pairs : List KeyValue) → All (λ (step : Step). P step.key) all
    → All (λ (pair : KeyValue). P pair.key) pairs → All (λ (pair : KeyValue). P pair.key) (after all pairs)
keys_after P [] pairs keys have = have
keys_after P (step ∷ more) pairs keys have =
    let change = step.change pairs in
    keys_after P more (taken pairs step) (All-tail (λ (s : Step). P s.key) step more keys)
    (All-append (λ (p : KeyValue). P p.key) (pairs_with step.key change.values) (kept change.keeps step.key pairs)
    (keys_with P step.key change.values (All-head (λ (s : Step). P s.key) step more keys)) (keys_kept P change.keeps step.key pairs have))

pub free-normal_form : (pairs : List KeyValue) → AreFree pairs → AreFree (normal_form pairs)
unfolding steps
free-normal_form pairs free = keys_after (λ key. is_free key ≡ true) steps pairs (AllPass-from_list_all (λ step. is_free step.key) steps refl) free

-- keys are written as before, in small letters if they are known
pub named-normal_form : (pairs : List KeyValue) → All IsNamed pairs → All IsNamed (normal_form pairs)
unfolding steps
named-normal_form pairs are =
    keys_after (λ key. key_of key ≡ key) steps pairs
    (λ k d h. let key = (get_or steps k d).key in
    small_stays key (same_key (in_small_letters key) key
    (AllPass-from_list_all (λ step. bytes_eq (in_small_letters step.key) step.key) steps refl k d h)))
    are

pub named-counting : (pairs : List KeyValue) → All IsNamed (counting pairs)
named-counting pairs =
    All-take IsNamed most_pairs (accepted (map named pairs)) (All-filter is_accepted IsNamed (map named pairs) (named_are pairs))

pub named-derived : (pairs : List KeyValue) → All IsNamed (derived pairs)
named-derived pairs =
    all_derived IsNamed pairs
    (λ k d h v e. let key = (get_or (additions pairs) k d).key in
    small_stays key (same_key (in_small_letters key) key
    (AllPass-from_list_all (λ addition. bytes_eq (in_small_letters addition.key) addition.key) (additions pairs) refl k d h)))

-- ---- columns

not_column : (key : Text) → is_free key ≡ true → is_column key ≡ false
not_column key h = not-true (is_column key) (and_parts _ _ h).1

abbrev pub AreNoColumns : List KeyValue → Type 0
AreNoColumns pairs = All (λ pair. is_column pair.key ≡ false) pairs

derived_no_columns : (pairs : List KeyValue) → AreNoColumns (derived pairs)
derived_no_columns pairs =
    all_derived (λ pair. is_column pair.key ≡ false) pairs
    (λ k d h v e. not-true _ (AllPass-from_list_all (λ addition. not (is_column addition.key)) (additions pairs) refl k d h))

pub no_columns : (pairs : List KeyValue) → AreFree pairs → AreNoColumns (with_derived pairs)
no_columns pairs free =
    All-append (λ p. is_column p.key ≡ false) (derived pairs) pairs (derived_no_columns pairs) (λ k d h. not_column (get_or pairs k d).key (free k d h))

-- ---- keys that the resolver adds

none_added : (pairs : List KeyValue) → AreFree pairs → filter (λ pair. is_added_key pair.key) pairs ≡ []
none_added pairs free =
    none_stays (λ pair. is_added_key pair.key) pairs (λ k d h. not-true (is_added_key (get_or pairs k d).key) (and_parts _ _ (free k d h)).0)

all_added : (pairs : List KeyValue) → filter (λ pair. is_added_key pair.key) (derived pairs) ≡ derived pairs
all_added pairs =
    let test : KeyValue → Bool = λ pair. is_added_key pair.key in
    all_stay test (derived pairs)
    (all_derived (λ pair. test pair ≡ true) pairs
    (λ k d h v e. AllPass-from_list_all (λ addition. is_added_key addition.key) (additions pairs) refl k d h))

pub added_are_derived : (pairs : List KeyValue) → AreFree pairs → filter (λ pair. is_added_key pair.key) (with_derived pairs) ≡ derived pairs
added_are_derived pairs free =
    let test : KeyValue → Bool = λ pair. is_added_key pair.key in
    filter-append test (derived pairs) pairs ∙ ap (λ rest. filter test (derived pairs) ++ rest) (none_added pairs free)
    ∙ append-nil (filter test (derived pairs)) ∙ all_added pairs
