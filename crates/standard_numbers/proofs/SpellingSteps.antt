-- One byte more of a text that is searched.
use Rattle.std.proofs.Common.{◌≡◌, ℕ, zero, suc, ◌+◌, ◌-◌, ◌<◌, List, [], ◌∷◌, ◌++◌, Option, Some, None, length, get_or, take, drop, refl, ap, ◌∙◌, sym}
use Rattle.std.proofs.Common.{subst, arith, sub-one}
use Rattle.std.specs.Borrow.{Bor}
use Rattle.std.specs.List.{All}
use Rattle.std.specs.Option.{option_map_or}
use Rattle.std.proofs.lemmas.List.{drop_more, map_push, append_assoc, take_all}
use Rattle.std.proofs.lemmas.List.Elements.{All-nil, All-cons}
use Rattle.text_model.specs.Texts.{Text, texts_of}
use Rattle.standard_numbers.specs.Spellings.{space, spellings_from, spellings}

-- within a number
within : (f : ℕ → Text → Option ℕ) (left before b : ℕ) (t : Text) → 0 < left → spellings_from f left before (b ∷ t) ≡ spellings_from f (left - 1) b t
within f zero before b t h = absurd (omega arith)
within f (suc left) before b t h = rw sub-one refl

skipped : (f : ℕ → Text → Option ℕ) (left before : ℕ) (t : Text) (i d : ℕ) → i < length t → 0 < left
    → spellings_from f left before (drop i t) ≡ spellings_from f (left - 1) (get_or t i d) (drop (i + 1) t)
skipped f left before t i d h some = ap (spellings_from f left before) (drop_more t i d h) ∙ within f left before (get_or t i d) (drop (i + 1) t) some

-- where no number begins
none_at : (f : ℕ → Text → Option ℕ) (before b : ℕ) (t : Text) → f before (b ∷ t) ≡ None → spellings_from f 0 before (b ∷ t) ≡ spellings_from f 0 b t
none_at f before b t e = rw e refl

passed : (f : ℕ → Text → Option ℕ) (before : ℕ) (t : Text) (i d : ℕ) → i < length t → f before (drop i t) ≡ None
    → spellings_from f 0 before (drop i t) ≡ spellings_from f 0 (get_or t i d) (drop (i + 1) t)
passed f before t i d h e =
    let more = drop_more t i d h in
    ap (spellings_from f 0 before) more
    ∙ none_at f before (get_or t i d) (drop (i + 1) t) (subst (λ s. f before s ≡ None) more e)

-- where a number begins
some_at : (f : ℕ → Text → Option ℕ) (before b n : ℕ) (t : Text) → f before (b ∷ t) ≡ Some n
    → spellings_from f 0 before (b ∷ t) ≡ take n (b ∷ t) ∷ spellings_from f (n - 1) b t
some_at f before b n t e = rw e refl

found_at : (f : ℕ → Text → Option ℕ) (before : ℕ) (t : Text) (i d n : ℕ) → i < length t → f before (drop i t) ≡ Some n
    → spellings_from f 0 before (drop i t) ≡ take n (drop i t) ∷ spellings_from f (n - 1) (get_or t i d) (drop (i + 1) t)
found_at f before t i d n h e =
    let more = drop_more t i d h in
    ap (spellings_from f 0 before) more
    ∙ some_at f before (get_or t i d) n (drop (i + 1) t) (subst (λ s. f before s ≡ Some n) more e)
    ∙ ap (λ s. take n s ∷ spellings_from f (n - 1) (get_or t i d) (drop (i + 1) t)) (sym more)

-- one more number, pushed to those before it
pushed : (found more : List (Bor Text)) (x : Bor Text) (rest : List Text) → more ≡ found ++ x ∷ [] → texts_of more ++ rest ≡ texts_of found ++ (x.now ∷ rest)
pushed found more x rest e =
    ap (λ ws. texts_of ws ++ rest) e
    ∙ ap (λ ts. ts ++ rest) (map_push (λ (w : Bor Text). w.now) found x)
    ∙ append_assoc (texts_of found) (x.now ∷ []) rest

-- what holds of each number that begins at a place holds of all that are found
all_more : (P : Text → Type 0) (f : ℕ → Text → Option ℕ) (b : ℕ) (t : Text) (o : Option ℕ) → ((n : ℕ) → o ≡ Some n → P (take n (b ∷ t)))
    → ((left : ℕ) → All P (spellings_from f left b t))
    → All P (option_map_or (λ n. take n (b ∷ t) ∷ spellings_from f (n - 1) b t) o (spellings_from f 0 b t))
all_more P f b t None each rest = rest 0
all_more P f b t (Some n) each rest = All-cons P (take n (b ∷ t)) (spellings_from f (n - 1) b t) (each n refl) (rest (n - 1))

pub all_spellings : (P : Text → Type 0) (f : ℕ → Text → Option ℕ) → ((before : ℕ) (t : Text) (n : ℕ) → f before t ≡ Some n → P (take n t))
    → (t : Text) (left before : ℕ) → All P (spellings_from f left before t)
all_spellings P f h [] left before = All-nil P
all_spellings P f h (b ∷ t) (suc left) before = all_spellings P f h t left b
all_spellings P f h (b ∷ t) zero before =
    all_more P f b t (f before (b ∷ t)) (λ n e. h before (b ∷ t) n e) (λ left. all_spellings P f h t left b)

-- no number begins in what belongs to the number before
pub rest_skipped : (f : ℕ → Text → Option ℕ) (t : Text) (left before : ℕ) → length t ≡ left → spellings_from f left before t ≡ []
rest_skipped f [] left before h = refl
rest_skipped f (b ∷ t) zero before h = absurd (omega arith)
rest_skipped f (b ∷ t) (suc left) before h = rest_skipped f t left b (omega arith)

-- a text that is one number
pub alone : (f : ℕ → Text → Option ℕ) (t : Text) (n : ℕ) → f space t ≡ Some n → length t ≡ n → 0 < n → spellings f t ≡ t ∷ []
alone f [] n e long some = absurd (omega arith)
alone f (b ∷ t) n e long some =
    some_at f space b n t e
    ∙ ap (λ s. s ∷ spellings_from f (n - 1) b t) (take_all n (b ∷ t) (omega arith))
    ∙ ap (λ ts. (b ∷ t) ∷ ts) (rest_skipped f t (n - 1) b (omega arith))

-- ---- one byte more, after the numbers that were found before

pub step_within : (f : ℕ → Text → Option ℕ) (t : Text) (i left before k : ℕ) (found new : List (Bor Text)) (all : List Text) → i < length t → 0 < left
    → new ≡ found → k ≡ left - 1 → texts_of found ++ spellings_from f left before (drop i t) ≡ all
    → texts_of new ++ spellings_from f k (get_or t i 0) (drop (i + 1) t) ≡ all
step_within f t i left before k found new all h some same less was =
    ap (λ ws. texts_of ws ++ spellings_from f k (get_or t i 0) (drop (i + 1) t)) same
    ∙ ap (λ j. texts_of found ++ spellings_from f j (get_or t i 0) (drop (i + 1) t)) less
    ∙ ap (λ s. texts_of found ++ s) (sym (skipped f left before t i 0 h some)) ∙ was

pub step_none : (f : ℕ → Text → Option ℕ) (t : Text) (i left before k : ℕ) (rest : Text) (found new : List (Bor Text)) (all : List Text) → i < length t
    → left ≡ 0 → rest ≡ drop i t → None ≡ f before rest → new ≡ found → k ≡ left → texts_of found ++ spellings_from f left before (drop i t) ≡ all
    → texts_of new ++ spellings_from f k (get_or t i 0) (drop (i + 1) t) ≡ all
step_none f t i left before k rest found new all h zero_left place none same still was =
    let here : f before (drop i t) ≡ None = sym (subst (λ s. None ≡ f before s) place none) in
    ap (λ ws. texts_of ws ++ spellings_from f k (get_or t i 0) (drop (i + 1) t)) same
    ∙ ap (λ j. texts_of found ++ spellings_from f j (get_or t i 0) (drop (i + 1) t)) (still ∙ zero_left)
    ∙ ap (λ s. texts_of found ++ s) (sym (passed f before t i 0 h here))
    ∙ ap (λ j. texts_of found ++ spellings_from f j before (drop i t)) (sym zero_left) ∙ was

pub step_found : (f : ℕ → Text → Option ℕ) (t : Text) (i left before k n : ℕ) (rest : Text) (found new : List (Bor Text)) (x : Bor Text) (all : List Text)
    → i < length t → left ≡ 0 → rest ≡ drop i t → Some n ≡ f before rest → x.now ≡ take n rest → new ≡ found ++ x ∷ [] → k ≡ n - 1
    → texts_of found ++ spellings_from f left before (drop i t) ≡ all
    → texts_of new ++ spellings_from f k (get_or t i 0) (drop (i + 1) t) ≡ all
step_found f t i left before k n rest found new x all h zero_left place some slice more less was =
    let here : f before (drop i t) ≡ Some n = sym (subst (λ s. Some n ≡ f before s) place some) in
    pushed found new x (spellings_from f k (get_or t i 0) (drop (i + 1) t)) more
    ∙ ap (λ s. texts_of found ++ (s ∷ spellings_from f k (get_or t i 0) (drop (i + 1) t))) (slice ∙ ap (take n) place)
    ∙ ap (λ j. texts_of found ++ (take n (drop i t) ∷ spellings_from f j (get_or t i 0) (drop (i + 1) t))) less
    ∙ ap (λ s. texts_of found ++ s) (sym (found_at f before t i 0 n h here))
    ∙ ap (λ j. texts_of found ++ spellings_from f j before (drop i t)) (sym zero_left) ∙ was
