-- One step more of loops over pieces.
use Rattle.std.proofs.Common.{◌≡◌, ℕ, ◌+◌, ◌<◌, ◌≤◌, List, [], ◌∷◌, ◌++◌, Bool, length, get_or, take, drop, map, sym, ap, ◌∙◌, append_assoc, refl}
use Rattle.std.specs.Borrow.{Bor}
use Rattle.std.specs.List.{flat_map}
use Rattle.std.proofs.lemmas.Grind.{flat_map-append}
use Rattle.std.proofs.lemmas.List.{append-nil, drop_all, drop_more, map-append, take_all, take_more}
use Rattle.text_model.specs.Texts.{Text, texts_of}
use Rattle.query_repair.specs.Joining.{belongs, separator, pair_after, joined_after}

-- ---- what a list of pieces has written, and one more

more_texts : (xs : List (Bor Text)) (i : ℕ) (d : Bor Text) → i < length xs
    → texts_of (take (i + 1) xs) ≡ texts_of (take i xs) ++ (get_or xs i d).now ∷ []
more_texts xs i d h =
    ap texts_of (take_more xs i d h) ∙ map-append (λ (x : Bor Text). x.now) (take i xs) (get_or xs i d ∷ [])

pub written_more : {Y : Type 0} (f : Text → List Y) (xs : List (Bor Text)) (i : ℕ) (d : Bor Text) (before after : List Y) → i < length xs
    → before ≡ flat_map f (texts_of (take i xs)) → after ≡ before ++ f (get_or xs i d).now → after ≡ flat_map f (texts_of (take (i + 1) xs))
written_more f xs i d before after h is more =
    let one = (get_or xs i d).now in
    more ∙ ap (λ s. s ++ f one) is
    ∙ sym (ap (flat_map f) (more_texts xs i d h) ∙ flat_map-append f (texts_of (take i xs)) (one ∷ [])
    ∙ ap (λ s. flat_map f (texts_of (take i xs)) ++ s) (append-nil (f one)))

pub written_after : {Y : Type 0} (f : Text → List Y) (xs : List (Bor Text)) (i : ℕ) (d : Bor Text) (start before after : List Y) → i < length xs
    → before ≡ start ++ flat_map f (texts_of (take i xs)) → after ≡ before ++ f (get_or xs i d).now
    → after ≡ start ++ flat_map f (texts_of (take (i + 1) xs))
written_after f xs i d start before after h is more =
    let done = flat_map f (texts_of (take i xs)) in
    let one = f (get_or xs i d).now in
    more ∙ ap (λ s. s ++ one) is ∙ append_assoc start done one
    ∙ ap (λ s. start ++ s) (written_more f xs i d done (done ++ one) h refl refl)

pub all_written : {Y : Type 0} (f : Text → List Y) (xs : List (Bor Text)) (n : ℕ) → length xs ≤ n
    → flat_map f (texts_of (take n xs)) ≡ flat_map f (texts_of xs)
all_written f xs n h = ap (λ s. flat_map f (texts_of s)) (take_all n xs h)

-- ---- one piece more is joined

pub joined_more : (xs : List (Bor Text)) (i : ℕ) (d : Bor Text) (text one two sep pair next all : Text) (is : Bool) → i < length xs
    → is ≡ belongs pair (get_or xs i d).now → sep ≡ separator is → one ≡ text ++ sep → two ≡ one ++ (get_or xs i d).now
    → next ≡ pair_after is pair (get_or xs i d).now → text ++ joined_after pair (texts_of (drop i xs)) ≡ all
    → two ++ joined_after next (texts_of (drop (i + 1) xs)) ≡ all
joined_more xs i d text one two sep pair next all is h test between first second then so_far =
    let x = (get_or xs i d).now in
    let b = belongs pair x in
    let rest : Text → Text = λ p. joined_after p (texts_of (drop (i + 1) xs)) in
    let written : two ≡ text ++ (separator b ++ x) =
    second ∙ ap (λ s. s ++ x) (first ∙ ap (λ s. text ++ s) (between ∙ ap separator test)) ∙ append_assoc text (separator b) x in
    ap (λ s. s ++ rest next) written ∙ ap (λ p. (text ++ (separator b ++ x)) ++ rest p) (then ∙ ap (λ c. pair_after c pair x) test)
    ∙ append_assoc text (separator b ++ x) (rest (pair_after b pair x))
    ∙ sym (ap (λ s. text ++ joined_after pair (texts_of s)) (drop_more xs i d h)) ∙ so_far

pub all_joined : (xs : List (Bor Text)) (n : ℕ) (text pair all : Text) → length xs ≤ n
    → text ++ joined_after pair (texts_of (drop n xs)) ≡ all → text ≡ all
all_joined xs n text pair all h so_far =
    sym (append-nil text) ∙ sym (ap (λ s. text ++ joined_after pair (texts_of s)) (drop_all n xs h)) ∙ so_far
