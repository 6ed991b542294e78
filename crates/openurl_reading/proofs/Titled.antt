-- `title` gives its values to the key of the request's kind, and to no other one.
use Rattle.std.proofs.Common.{◌≡◌, List, [], ◌∷◌, map, take, Bool, true, false, cond, not, ◌&&◌, ◌||◌, refl, sym, ap, ◌∙◌, subst, inl, inr, ◌⊎◌, get_or}
use Rattle.std.specs.Prelude.{codes, slice_get}
use Rattle.std.specs.List.{All}
use Rattle.std.specs.Option.{is_some}
use Rattle.std.specs.Str.{bytes_eq}
use Rattle.std.proofs.lemmas.List.Elements.{All-map}
use Rattle.text_model.specs.Texts.{Text}
use Rattle.kev_read.specs.Pairs.{KeyValue, all_of}
use Rattle.openurl_reading.specs.declared.kinds.Kind.{Kind}
use Rattle.openurl_reading.specs.declared.kinds.Kind.TheVariants.{Book, Dissertation, Journal}
use Rattle.openurl_reading.specs.Keys.{is_one_of}
use Rattle.openurl_reading.specs.Kinds.{has, kind_of}
use Rattle.openurl_reading.specs.Steps.{Change, unchanged, changed, taken, after}
use Rattle.openurl_reading.specs.Values.{most_values}
use Rattle.openurl_reading.specs.OldKeys.{filled, copied, copied_if, copy}
use Rattle.openurl_reading.specs.Titles.{title_key, title_keys, is_titled, of_title, titling, titlings}
use Rattle.openurl_reading.proofs.Filled.{HasSome, IsFilled, MakesSome, fill-fills}
use Rattle.openurl_reading.proofs.Settled.{filled-none, stays-unchanged, steps-stay}
use Rattle.openurl_reading.proofs.Values.{same_key}

pub some_values : MakesSome (take most_values)
some_values v vs = (v, take 19 vs, refl)

-- no change, whether the test passes or not
pub unchanged_if : (b : Bool) (change : Change) → change ≡ unchanged → cond b change unchanged ≡ unchanged
unchanged_if true change h = h
unchanged_if false change h = refl

or-true : (b : Bool) → b || true ≡ true
or-true true = refl
or-true false = refl

-- ---- a request with one of the titles

titled-by : (kind : Kind) (pairs : List KeyValue) → HasSome (all_of pairs (title_key kind)) → is_titled pairs ≡ true
titled-by Book pairs some =
    ap (λ vs. is_some (slice_get vs 0) || (has pairs (codes "rft.title") || (has pairs (codes "rft.jtitle") || false))) some.2
titled-by Dissertation pairs some =
    ap (λ vs. has pairs (codes "rft.btitle") || (is_some (slice_get vs 0) || (has pairs (codes "rft.jtitle") || false))) some.2
    ∙ or-true (has pairs (codes "rft.btitle"))
titled-by Journal pairs some =
    ap (λ vs. has pairs (codes "rft.btitle") || (has pairs (codes "rft.title") || (is_some (slice_get vs 0) || false))) some.2
    ∙ ap (λ b. has pairs (codes "rft.btitle") || b) (or-true (has pairs (codes "rft.title"))) ∙ or-true (has pairs (codes "rft.btitle"))

some_titled : (b t j : List Text) → is_some (slice_get b 0) || (is_some (slice_get t 0) || (is_some (slice_get j 0) || false)) ≡ true
    → HasSome b ⊎ (HasSome t ⊎ HasSome j)
some_titled (v ∷ vs) t j h = inl (v, vs, refl)
some_titled [] (v ∷ vs) j h = inr (inl (v, vs, refl))
some_titled [] [] (v ∷ vs) h = inr (inr (v, vs, refl))
some_titled [] [] [] h = cc

-- `title` has no value, or the key of a kind has one
abbrev pub IsTitled : List KeyValue → Type 0
IsTitled pairs = (kind : Kind) × IsFilled (of_title (title_key kind)) pairs

titled : (pairs : List KeyValue) → is_titled pairs ≡ true → IsTitled pairs
unfolding IsFilled
titled pairs h =
    elim (some_titled (all_of pairs (codes "rft.btitle")) (all_of pairs (codes "rft.title")) (all_of pairs (codes "rft.jtitle")) h) [
      | inl book ↦ (Book, inr book)
      | inr other ↦ elim other [ inl dissertation ↦ (Dissertation, inr dissertation) | inr journal ↦ (Journal, inr journal) ]
    ]

-- ---- steps that change nothing

titling-stays : (key : Text) (kind : Kind) (pairs : List KeyValue) → IsFilled (of_title (title_key kind)) pairs → (titling key).change pairs ≡ unchanged
unfolding IsFilled
titling-stays key kind pairs (inl none) =
    unchanged_if (not (is_titled pairs) && bytes_eq key (title_key (kind_of pairs))) (copied (of_title key) pairs)
    (ap (λ values. filled (take most_values values) (all_of pairs key)) none ∙ filled-none (all_of pairs key))
titling-stays key kind pairs (inr some) =
    ap (λ b. copied_if (not b && bytes_eq key (title_key (kind_of pairs))) (of_title key) pairs) (titled-by kind pairs some)

pub all_unchanged : (keys : List Text) (kind : Kind) (pairs : List KeyValue) → IsFilled (of_title (title_key kind)) pairs
    → All (λ step. step.change pairs ≡ unchanged) (map titling keys)
all_unchanged keys kind pairs filled =
    All-map (λ step. step.change pairs ≡ unchanged) titling keys (λ k d h. titling-stays (get_or keys k d) kind pairs filled)

pub titlings_stay : (pairs : List KeyValue) → is_titled pairs ≡ true → after titlings pairs ≡ pairs
titlings_stay pairs h =
    let one = titled pairs h in steps-stay titlings pairs (all_unchanged title_keys one.0 pairs one.1)

-- ---- the step of the request's kind

apart_from_title : (kind : Kind) → bytes_eq (title_key kind) (codes "title") ≡ false
apart_from_title Book = refl
apart_from_title Dissertation = refl
apart_from_title Journal = refl

known_key : (kind : Kind) → is_one_of title_keys (title_key kind) ≡ true
known_key Book = refl
known_key Dissertation = refl
known_key Journal = refl

copy_fills : (kind : Kind) (pairs : List KeyValue) → IsFilled (of_title (title_key kind)) (taken pairs (copy (of_title (title_key kind))))
copy_fills kind pairs = fill-fills (take most_values) (of_title (title_key kind)) pairs some_values (apart_from_title kind)

one_copies : (keys : List Text) (pairs : List KeyValue) → is_titled pairs ≡ false → is_one_of keys (title_key (kind_of pairs)) ≡ true
    → after (map titling keys) pairs ≡ taken pairs (copy (of_title (title_key (kind_of pairs))))
one_copies [] pairs t h = cc
one_copies (key ∷ keys) pairs t h = by_test (bytes_eq key (title_key (kind_of pairs))) refl h (one_copies keys pairs t)
  where
    by_test : (b : Bool) → bytes_eq key (title_key (kind_of pairs)) ≡ b → b || is_one_of keys (title_key (kind_of pairs)) ≡ true
        → (is_one_of keys (title_key (kind_of pairs)) ≡ true
        → after (map titling keys) pairs ≡ taken pairs (copy (of_title (title_key (kind_of pairs)))))
        → after (map titling keys) (taken pairs (titling key)) ≡ taken pairs (copy (of_title (title_key (kind_of pairs))))
    by_test true e g rest =
        let kind = kind_of pairs in
        let next = taken pairs (copy (of_title (title_key kind))) in
        let passes : (titling key).change pairs ≡ copied (of_title key) pairs =
        ap (λ b. copied_if (not b && bytes_eq key (title_key kind)) (of_title key) pairs) t
        ∙ ap (λ b. copied_if b (of_title key) pairs) e in
        let same : taken pairs (titling key) ≡ next =
        ap (λ change. changed key change pairs) passes ∙ ap (λ k. taken pairs (copy (of_title k))) (same_key key (title_key kind) e) in
        ap (after (map titling keys)) same ∙ steps-stay (map titling keys) next (all_unchanged keys kind next (copy_fills kind pairs))
    by_test false e g rest =
        let fails : (titling key).change pairs ≡ unchanged =
        ap (λ b. copied_if (not b && bytes_eq key (title_key (kind_of pairs))) (of_title key) pairs) t
        ∙ ap (λ b. copied_if b (of_title key) pairs) e in
        ap (after (map titling keys)) (stays-unchanged (titling key) pairs fails) ∙ rest g

pub titlings_copy : (pairs : List KeyValue) → is_titled pairs ≡ false → after titlings pairs ≡ taken pairs (copy (of_title (title_key (kind_of pairs))))
titlings_copy pairs t = one_copies title_keys pairs t (known_key (kind_of pairs))

-- what the steps do: nothing, or one copy
pub titlings-are : (pairs : List KeyValue) → (after titlings pairs ≡ pairs) ⊎ (after titlings pairs ≡ taken pairs (copy (of_title (title_key (kind_of pairs)))))
titlings-are pairs = by_test (is_titled pairs) refl
  where
    by_test : (b : Bool) → is_titled pairs ≡ b
        → (after titlings pairs ≡ pairs) ⊎ (after titlings pairs ≡ taken pairs (copy (of_title (title_key (kind_of pairs)))))
    by_test true h = inl (titlings_stay pairs h)
    by_test false h = inr (titlings_copy pairs h)

pub titlings_fill : (pairs : List KeyValue) → IsTitled (after titlings pairs)
titlings_fill pairs = by_test (is_titled pairs) refl
  where
    by_test : (b : Bool) → is_titled pairs ≡ b → IsTitled (after titlings pairs)
    by_test true h = subst IsTitled (sym (titlings_stay pairs h)) (titled pairs h)
    by_test false h = subst IsTitled (sym (titlings_copy pairs h)) (kind_of pairs, copy_fills (kind_of pairs) pairs)

-- without `title`, nothing is copied
pub untitled-stays : (pairs : List KeyValue) → all_of pairs (codes "title") ≡ [] → All (λ step. step.change pairs ≡ unchanged) titlings
unfolding IsFilled
untitled-stays pairs none = all_unchanged title_keys Book pairs (inl none)
