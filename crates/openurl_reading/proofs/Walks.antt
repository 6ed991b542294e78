-- One value more of those that a loop goes over, or one pair more.
use Rattle.std.proofs.Common.{◌≡◌, ℕ, ◌+◌, ◌<◌, ◌≤◌, List, [], ◌∷◌, ◌++◌, Bool, true, false, cond, not, ◌&&◌, ◌||◌, Option, Some, None}
use Rattle.std.proofs.Common.{length, get_or, take, drop, filter, map, refl, sym, ap, ◌∙◌, append-nil}
use Rattle.std.specs.Prelude.{◌==◌, slice_get}
use Rattle.std.specs.Borrow.{Bor}
use Rattle.std.specs.Char.{to_ascii_uppercase}
use Rattle.std.specs.List.{flat_map, list_all, list_any}
use Rattle.std.specs.Option.{option_or}
use Rattle.std.proofs.lemmas.List.{take_all, drop_all, take_more, drop_more, map_push}
use Rattle.std.proofs.lemmas.List.Concat.{flat_map-append}
use Rattle.std.proofs.lemmas.List.Elements.{filter-append}
use Rattle.std.proofs.lemmas.List.Sums.{fold_push}
use Rattle.text_model.specs.Texts.{Text, texts_of}
use Rattle.kev_read.specs.Pairs.{KeyValue, has_key, all_of}
use Rattle.openurl_reading.specs.Counting.{plain}
use Rattle.openurl_reading.specs.Steps.{Step, taken, after}
use Rattle.openurl_reading.proofs.Identified.{first_found, found-cons}

-- ---- what is found in values

flat_more : {Y : Type 0} (f : Text → List Y) (texts : List (Bor Text)) (i : ℕ) (d : Bor Text) → i < length texts
    → flat_map f (texts_of (take (i + 1) texts)) ≡ flat_map f (texts_of (take i texts)) ++ f (get_or texts i d).now
flat_more f texts i d h =
    let value = (get_or texts i d).now in
    let so_far = flat_map f (texts_of (take i texts)) in
    ap (λ l. flat_map f (texts_of l)) (take_more texts i d h)
    ∙ ap (flat_map f) (map_push (λ (b : Bor Text). b.now) (take i texts) (get_or texts i d))
    ∙ flat_map-append f (texts_of (take i texts)) (value ∷ []) ∙ ap (λ l. so_far ++ l) (append-nil (f value))

pub flat_pushed : {Y : Type 0} (f : Text → List Y) (texts : List (Bor Text)) (i : ℕ) (d : Bor Text) (found pushed more : List Y) → i < length texts
    → pushed ≡ found ++ more → more ≡ f (get_or texts i d).now → found ≡ flat_map f (texts_of (take i texts))
    → pushed ≡ flat_map f (texts_of (take (i + 1) texts))
flat_pushed f texts i d found pushed more h p e so_far =
    p ∙ ap (λ l. l ++ more) so_far ∙ ap (λ l. flat_map f (texts_of (take i texts)) ++ l) e ∙ sym (flat_more f texts i d h)

pub flat_all : {Y : Type 0} (f : Text → List Y) (texts : List (Bor Text)) (i : ℕ) (found : List Y) → length texts ≤ i
    → found ≡ flat_map f (texts_of (take i texts)) → found ≡ flat_map f (texts_of texts)
flat_all f texts i found h so_far = so_far ∙ ap (λ l. flat_map f (texts_of l)) (take_all i texts h)

-- ---- the first of what is found

split : (texts : List (Bor Text)) (i : ℕ) (d : Bor Text) → i < length texts → texts_of (drop i texts) ≡ (get_or texts i d).now ∷ texts_of (drop (i + 1) texts)
split texts i d h = ap texts_of (drop_more texts i d h)

found_split : {X : Type 0} (find : Text → Option X) (texts : List (Bor Text)) (i : ℕ) (d : Bor Text) → i < length texts
    → first_found find (texts_of (drop i texts)) ≡ option_or (find (get_or texts i d).now) (first_found find (texts_of (drop (i + 1) texts)))
found_split find texts i d h =
    ap (first_found find) (split texts i d h) ∙ found-cons find (get_or texts i d).now (texts_of (drop (i + 1) texts))

pub found_later : {X : Type 0} (find : Text → Option X) (texts : List (Bor Text)) (i : ℕ) (d : Bor Text) (all : Option X) → i < length texts
    → None ≡ find (get_or texts i d).now → first_found find (texts_of (drop i texts)) ≡ all → first_found find (texts_of (drop (i + 1) texts)) ≡ all
found_later find texts i d all h e so_far =
    ap (λ o. option_or o (first_found find (texts_of (drop (i + 1) texts)))) e ∙ sym (found_split find texts i d h) ∙ so_far

pub found_here : {X : Type 0} (find : Text → Option X) (texts : List (Bor Text)) (i : ℕ) (d : Bor Text) (n : X) (all : Option X) → i < length texts
    → Some n ≡ find (get_or texts i d).now → first_found find (texts_of (drop i texts)) ≡ all → Some n ≡ all
found_here find texts i d n all h e so_far =
    ap (λ o. option_or o (first_found find (texts_of (drop (i + 1) texts)))) e ∙ sym (found_split find texts i d h) ∙ so_far

pub found_nowhere : {X : Type 0} (find : Text → Option X) (texts : List (Bor Text)) (i : ℕ) (all : Option X) → length texts ≤ i
    → first_found find (texts_of (drop i texts)) ≡ all → None ≡ all
found_nowhere find texts i all h so_far = ap (λ l. first_found find (texts_of l)) (sym (drop_all i texts h)) ∙ so_far

-- the first of lists is the first of firsts
first_both : {X : Type 0} (xs ys : List X) → slice_get (xs ++ ys) 0 ≡ option_or (slice_get xs 0) (slice_get ys 0)
first_both [] ys = refl
first_both (x ∷ xs) ys = refl

pub first_of_all : {X : Type 0} (f : Text → List X) (texts : List Text) → first_found (λ t. slice_get (f t) 0) texts ≡ slice_get (flat_map f texts) 0
first_of_all {X} f [] = refl
first_of_all {X} f (t ∷ ts) =
    let find : Text → Option X = λ t. slice_get (f t) 0 in
    found-cons find t ts ∙ ap (option_or (find t)) (first_of_all f ts) ∙ sym (first_both (f t) (flat_map f ts))

-- ---- a test of texts

any_split : (test : Text → Bool) (texts : List (Bor Text)) (i : ℕ) (d : Bor Text) → i < length texts
    → list_any test (texts_of (drop i texts)) ≡ test (get_or texts i d).now || list_any test (texts_of (drop (i + 1) texts))
any_split test texts i d h = ap (list_any test) (split texts i d h)

pub any_later : (test : Text → Bool) (texts : List (Bor Text)) (i : ℕ) (d : Bor Text) (all : Bool) → i < length texts
    → test (get_or texts i d).now ≡ false → list_any test (texts_of (drop i texts)) ≡ all → list_any test (texts_of (drop (i + 1) texts)) ≡ all
any_later test texts i d all h fails so_far =
    ap (λ b. b || list_any test (texts_of (drop (i + 1) texts))) (sym fails) ∙ sym (any_split test texts i d h) ∙ so_far

pub any_here : (test : Text → Bool) (texts : List (Bor Text)) (i : ℕ) (d : Bor Text) (all : Bool) → i < length texts
    → test (get_or texts i d).now ≡ true → list_any test (texts_of (drop i texts)) ≡ all → true ≡ all
any_here test texts i d all h passes so_far =
    ap (λ b. b || list_any test (texts_of (drop (i + 1) texts))) (sym passes) ∙ sym (any_split test texts i d h) ∙ so_far

pub any_none : (test : Text → Bool) (texts : List (Bor Text)) (i : ℕ) (all : Bool) → length texts ≤ i
    → list_any test (texts_of (drop i texts)) ≡ all → false ≡ all
any_none test texts i all h so_far = ap (λ l. list_any test (texts_of l)) (sym (drop_all i texts h)) ∙ so_far

-- ---- the values of a key

all_more : (pairs : List KeyValue) (key : Text) (i : ℕ) (d : KeyValue) → i < length pairs
    → all_of (take (i + 1) pairs) key ≡ map (λ p. p.value) (filter (has_key key) (take i pairs) ++ filter (has_key key) (get_or pairs i d ∷ []))
all_more pairs key i d h =
    ap (λ l. map (λ (p : KeyValue). p.value) (filter (has_key key) l)) (take_more pairs i d h)
    ∙ ap (map (λ (p : KeyValue). p.value)) (filter-append (has_key key) (take i pairs) (get_or pairs i d ∷ []))

pub all_pushed : (pairs : List KeyValue) (key : Text) (i : ℕ) (d : KeyValue) (values pushed : List (Bor Text)) (x : Bor Text) → i < length pairs
    → has_key key (get_or pairs i d) ≡ true → pushed ≡ values ++ x ∷ [] → x.now ≡ (get_or pairs i d).value
    → texts_of values ≡ all_of (take i pairs) key → texts_of pushed ≡ all_of (take (i + 1) pairs) key
all_pushed pairs key i d values pushed x h is p e so_far =
    let pair = get_or pairs i d in
    let known = filter (has_key key) (take i pairs) in
    ap texts_of p ∙ map_push (λ (b : Bor Text). b.now) values x ∙ ap (λ l. l ++ x.now ∷ []) so_far
    ∙ ap (λ v. all_of (take i pairs) key ++ v ∷ []) e ∙ sym (map_push (λ (p : KeyValue). p.value) known pair)
    ∙ ap (λ b. map (λ (p : KeyValue). p.value) (known ++ cond b (pair ∷ []) [])) (sym is) ∙ sym (all_more pairs key i d h)

pub all_kept : (pairs : List KeyValue) (key : Text) (i : ℕ) (d : KeyValue) (values : List (Bor Text)) → i < length pairs
    → has_key key (get_or pairs i d) ≡ false → texts_of values ≡ all_of (take i pairs) key → texts_of values ≡ all_of (take (i + 1) pairs) key
all_kept pairs key i d values h is so_far =
    let pair = get_or pairs i d in
    let known = filter (has_key key) (take i pairs) in
    so_far ∙ ap (map (λ (p : KeyValue). p.value)) (sym (append-nil known))
    ∙ ap (λ b. map (λ (p : KeyValue). p.value) (known ++ cond b (pair ∷ []) [])) (sym is) ∙ sym (all_more pairs key i d h)

-- ---- bytes

pub each_later : (test : ℕ → Bool) (t : Text) (i : ℕ) (all : Bool) → i < length t → test (get_or t i 0) ≡ true → list_all test (drop i t) ≡ all
    → list_all test (drop (i + 1) t) ≡ all
each_later test t i all h passes so_far =
    ap (λ b. b && list_all test (drop (i + 1) t)) (sym passes) ∙ sym (ap (list_all test) (drop_more t i 0 h)) ∙ so_far

pub one_fails : (test : ℕ → Bool) (t : Text) (i : ℕ) (all : Bool) → i < length t → test (get_or t i 0) ≡ false → list_all test (drop i t) ≡ all
    → false ≡ all
one_fails test t i all h fails so_far =
    ap (λ b. b && list_all test (drop (i + 1) t)) (sym fails) ∙ sym (ap (list_all test) (drop_more t i 0 h)) ∙ so_far

pub each_passes : (test : ℕ → Bool) (t : Text) (i : ℕ) (all : Bool) → length t ≤ i → list_all test (drop i t) ≡ all → true ≡ all
each_passes test t i all h so_far = ap (list_all test) (sym (drop_all i t h)) ∙ so_far

-- a value without its hyphens and spaces
abbrev pub is_plain : ℕ → Bool
is_plain b = not (b == 0x2d || b == 0x20)

plain_more : (t : Text) (i : ℕ) → i < length t
    → plain (take (i + 1) t) ≡ map to_ascii_uppercase (filter is_plain (take i t) ++ filter is_plain (get_or t i 0 ∷ []))
plain_more t i h =
    ap plain (take_more t i 0 h) ∙ ap (map to_ascii_uppercase) (filter-append is_plain (take i t) (get_or t i 0 ∷ []))

pub plain_pushed : (t : Text) (i b : ℕ) (bytes pushed : Text) → i < length t → is_plain (get_or t i 0) ≡ true → pushed ≡ bytes ++ b ∷ []
    → b ≡ to_ascii_uppercase (get_or t i 0) → bytes ≡ plain (take i t) → pushed ≡ plain (take (i + 1) t)
plain_pushed t i b bytes pushed h is p e so_far =
    let byte = get_or t i 0 in
    let known = filter is_plain (take i t) in
    p ∙ ap (λ l. l ++ b ∷ []) so_far ∙ ap (λ x. plain (take i t) ++ x ∷ []) e ∙ sym (map_push to_ascii_uppercase known byte)
    ∙ ap (λ x. map to_ascii_uppercase (known ++ cond x (byte ∷ []) [])) (sym is) ∙ sym (plain_more t i h)

pub plain_kept : (t : Text) (i : ℕ) (bytes : Text) → i < length t → is_plain (get_or t i 0) ≡ false → bytes ≡ plain (take i t)
    → bytes ≡ plain (take (i + 1) t)
plain_kept t i bytes h is so_far =
    let byte = get_or t i 0 in
    let known = filter is_plain (take i t) in
    so_far ∙ ap (map to_ascii_uppercase) (sym (append-nil known))
    ∙ ap (λ x. map to_ascii_uppercase (known ++ cond x (byte ∷ []) [])) (sym is) ∙ sym (plain_more t i h)

-- ---- a step for each key, and a text for each value

pub steps_more : {X Y : Type 0} (f : X → Y) (step : Y → Step) (keys : List X) (i : ℕ) (d : X) (pairs now next : List KeyValue) → i < length keys
    → next ≡ taken now (step (f (get_or keys i d))) → now ≡ after (map step (map f (take i keys))) pairs
    → next ≡ after (map step (map f (take (i + 1) keys))) pairs
steps_more f step keys i d pairs now next h e so_far =
    let key = f (get_or keys i d) in
    let known = map f (take i keys) in
    e ∙ ap (λ p. taken p (step key)) so_far ∙ sym (fold_push taken pairs (map step known) (step key))
    ∙ ap (λ steps. after steps pairs) (sym (map_push step known key)
    ∙ ap (map step) (sym (map_push f (take i keys) (get_or keys i d)) ∙ ap (map f) (sym (take_more keys i d h))))

pub texts_pushed : {Y : Type 0} (f : Text → Y) (texts : List (Bor Text)) (i : ℕ) (d : Bor Text) (found pushed : List Y) (x : Y) → i < length texts
    → pushed ≡ found ++ x ∷ [] → x ≡ f (get_or texts i d).now → found ≡ map f (texts_of (take i texts))
    → pushed ≡ map f (texts_of (take (i + 1) texts))
texts_pushed f texts i d found pushed x h p e so_far =
    let value = (get_or texts i d).now in
    let known = texts_of (take i texts) in
    p ∙ ap (λ l. l ++ x ∷ []) so_far ∙ ap (λ v. map f known ++ v ∷ []) e ∙ sym (map_push f known value)
    ∙ ap (map f) (sym (map_push (λ (b : Bor Text). b.now) (take i texts) (get_or texts i d)) ∙ ap texts_of (sym (take_more texts i d h)))
