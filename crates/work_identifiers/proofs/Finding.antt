-- The first of what is found in texts, and one text more.
use Rattle.std.proofs.Common.{◌≡◌, ℕ, ◌+◌, ◌<◌, List, [], ◌∷◌, ◌++◌, Option, Some, None, length, get_or, take, drop}
use Rattle.std.proofs.Common.{refl, sym, ap, ◌∙◌, append-nil, append_assoc}
use Rattle.std.specs.Prelude.{slice_get}
use Rattle.std.specs.Borrow.{Bor}
use Rattle.std.specs.List.{filter_map}
use Rattle.std.proofs.lemmas.List.{take_more, drop_more, map_push}
use Rattle.std.proofs.lemmas.List.Elements.{filter_map-append}
use Rattle.text_model.specs.Texts.{Text, texts_of}

-- ---- what is found in one text more

more : (find : Text → Option Text) (texts : List (Bor Text)) (i : ℕ) (d : Bor Text) → i < length texts
    → filter_map find (texts_of (take (i + 1) texts)) ≡ filter_map find (texts_of (take i texts)) ++ filter_map find ((get_or texts i d).now ∷ [])
more find texts i d h =
    ap (λ l. filter_map find (texts_of l)) (take_more texts i d h)
    ∙ ap (filter_map find) (map_push (λ (b : Bor Text). b.now) (take i texts) (get_or texts i d))
    ∙ filter_map-append find (texts_of (take i texts)) ((get_or texts i d).now ∷ [])

one : (find : Text → Option Text) (t n : Text) → find t ≡ Some n → filter_map find (t ∷ []) ≡ n ∷ []
one find t n e = rw e refl

none : (find : Text → Option Text) (t : Text) → find t ≡ None → filter_map find (t ∷ []) ≡ []
none find t e = rw e refl

pub push_found : (find : Text → Option Text) (texts : List (Bor Text)) (i : ℕ) (d : Bor Text) (front : List Text) (found pushed : List (Bor Text))
    (x : Bor Text) → i < length texts → find (get_or texts i d).now ≡ Some x.now → pushed ≡ found ++ x ∷ []
    → texts_of found ≡ front ++ filter_map find (texts_of (take i texts))
    → texts_of pushed ≡ front ++ filter_map find (texts_of (take (i + 1) texts))
push_found find texts i d front found pushed x h e p so_far =
    let now = filter_map find (texts_of (take i texts)) in
    ap texts_of p ∙ map_push (λ (b : Bor Text). b.now) found x ∙ ap (λ l. l ++ x.now ∷ []) so_far ∙ append_assoc front now (x.now ∷ [])
    ∙ ap (λ l. front ++ (now ++ l)) (sym (one find (get_or texts i d).now x.now e)) ∙ ap (λ l. front ++ l) (sym (more find texts i d h))

pub push_none : (find : Text → Option Text) (texts : List (Bor Text)) (i : ℕ) (d : Bor Text) (front : List Text) (found pushed : List (Bor Text))
    → i < length texts → find (get_or texts i d).now ≡ None → pushed ≡ found
    → texts_of found ≡ front ++ filter_map find (texts_of (take i texts))
    → texts_of pushed ≡ front ++ filter_map find (texts_of (take (i + 1) texts))
push_none find texts i d front found pushed h e p so_far =
    let now = filter_map find (texts_of (take i texts)) in
    ap texts_of p ∙ so_far ∙ ap (λ l. front ++ l) (sym (append-nil now))
    ∙ ap (λ l. front ++ (now ++ l)) (sym (none find (get_or texts i d).now e)) ∙ ap (λ l. front ++ l) (sym (more find texts i d h))

-- ---- the first of what is found

abbrev pub first_found : (Text → Option Text) → List Text → Option Text
first_found find texts = slice_get (filter_map find texts) 0

pub first_none : (find : Text → Option Text) (t : Text) (texts : List Text) → find t ≡ None → first_found find (t ∷ texts) ≡ first_found find texts
first_none find t texts e = rw e refl

pub first_some : (find : Text → Option Text) (t n : Text) (texts : List Text) → find t ≡ Some n → first_found find (t ∷ texts) ≡ Some n
first_some find t n texts e = rw e refl

split : (texts : List (Bor Text)) (i : ℕ) (d : Bor Text) → i < length texts → texts_of (drop i texts) ≡ (get_or texts i d).now ∷ texts_of (drop (i + 1) texts)
split texts i d h = ap texts_of (drop_more texts i d h)

pub first_later : (find : Text → Option Text) (texts : List (Bor Text)) (i : ℕ) (d : Bor Text) → i < length texts → find (get_or texts i d).now ≡ None
    → first_found find (texts_of (drop i texts)) ≡ first_found find (texts_of (drop (i + 1) texts))
first_later find texts i d h e =
    ap (first_found find) (split texts i d h) ∙ first_none find (get_or texts i d).now (texts_of (drop (i + 1) texts)) e

pub first_here : (find : Text → Option Text) (texts : List (Bor Text)) (i : ℕ) (d : Bor Text) (n : Text) → i < length texts
    → find (get_or texts i d).now ≡ Some n → first_found find (texts_of (drop i texts)) ≡ Some n
first_here find texts i d n h e =
    ap (first_found find) (split texts i d h) ∙ first_some find (get_or texts i d).now n (texts_of (drop (i + 1) texts)) e

-- after a text in which nothing is found, and where the first one has it
pub second_found : (find : Text → Option Text) (t u n : Text) (texts : List Text) → find t ≡ None → find u ≡ Some n
    → first_found find (t ∷ u ∷ texts) ≡ Some n
second_found find t u n texts e f = first_none find t (u ∷ texts) e ∙ first_some find u n texts f

-- what holds of all that is found holds of the first
pub first_has : (P : Text → Type 0) (find : Text → Option Text) → ((t n : Text) → find t ≡ Some n → P n) → (texts : List Text) (n : Text)
    → first_found find texts ≡ Some n → P n
first_has P find each [] n h = cc
first_has P find each (t ∷ texts) n h = by_found (find t) refl (first_has P find each texts n) h
  where
    by_found : (o : Option Text) → find t ≡ o → (first_found find texts ≡ Some n → P n) → first_found find (t ∷ texts) ≡ Some n → P n
    by_found None e rest g = rest (sym (first_none find t texts e) ∙ g)
    by_found (Some m) e rest g =
        let same : Some m ≡ Some n = sym (first_some find t m texts e) ∙ g in
        let equal : m ≡ n = cc in
        each t n (e ∙ ap Some equal)
