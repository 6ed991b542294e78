-- How many bytes at the beginning of a text pass a test, whether all bytes do, and whether any byte or text does: one of them at a time.
use Rattle.std.proofs.Common.{◌≡◌, ℕ, ◌+◌, ◌<◌, ◌≤◌, Bool, true, false, ◌&&◌, ◌||◌, List}
use Rattle.std.proofs.Common.{length, get_or, drop, arith, ap, sym, ◌∙◌}
use Rattle.std.specs.Borrow.{Bor}
use Rattle.std.specs.List.{list_all, list_any, prefix_len}
use Rattle.std.proofs.lemmas.List.{drop_all, drop_more}
use Rattle.std.proofs.lemmas.List.Sums.{prefix_len-drop_yes, prefix_len-drop_no}
use Rattle.text_model.specs.Texts.{Text, texts_of}

pub prefix_more : (test : ℕ → Bool) (t : Text) (i : ℕ) → i < length t → test (get_or t i 0) ≡ true → i + prefix_len test (drop i t) ≡ prefix_len test t
    → (i + 1) + prefix_len test (drop (i + 1) t) ≡ prefix_len test t
prefix_more test t i h passes so_far = omega (arith, so_far, prefix_len-drop_yes test t i 0 h passes)

pub prefix_at : (test : ℕ → Bool) (t : Text) (i : ℕ) → i < length t → test (get_or t i 0) ≡ false → i + prefix_len test (drop i t) ≡ prefix_len test t
    → i ≡ prefix_len test t
prefix_at test t i h fails so_far = omega (arith, so_far, prefix_len-drop_no test t i 0 h fails)

-- ---- all bytes

pub each_later : (test : ℕ → Bool) (t : Text) (i : ℕ) (all : Bool) → i < length t → test (get_or t i 0) ≡ true → list_all test (drop i t) ≡ all
    → list_all test (drop (i + 1) t) ≡ all
each_later test t i all h passes so_far =
    ap (λ b. b && list_all test (drop (i + 1) t)) (sym passes) ∙ sym (ap (list_all test) (drop_more t i 0 h)) ∙ so_far

pub one_fails : (test : ℕ → Bool) (t : Text) (i : ℕ) (all : Bool) → i < length t → test (get_or t i 0) ≡ false → list_all test (drop i t) ≡ all
    → false ≡ all
one_fails test t i all h fails so_far =
    ap (λ b. b && list_all test (drop (i + 1) t)) (sym fails) ∙ sym (ap (list_all test) (drop_more t i 0 h)) ∙ so_far

pub each_passes : (test : ℕ → Bool) (t : Text) (i : ℕ) (all : Bool) → length t ≤ i → list_all test (drop i t) ≡ all → true ≡ all
each_passes test t i all h so_far = ap (list_all test) (sym (drop_all i t h)) ∙ so_far

-- ---- any byte

pub other_later : (test : ℕ → Bool) (t : Text) (i : ℕ) (any : Bool) → i < length t → test (get_or t i 0) ≡ false → list_any test (drop i t) ≡ any
    → list_any test (drop (i + 1) t) ≡ any
other_later test t i any h fails so_far =
    ap (λ b. b || list_any test (drop (i + 1) t)) (sym fails) ∙ sym (ap (list_any test) (drop_more t i 0 h)) ∙ so_far

pub one_passes : (test : ℕ → Bool) (t : Text) (i : ℕ) (any : Bool) → i < length t → test (get_or t i 0) ≡ true → list_any test (drop i t) ≡ any
    → true ≡ any
one_passes test t i any h passes so_far =
    ap (λ b. b || list_any test (drop (i + 1) t)) (sym passes) ∙ sym (ap (list_any test) (drop_more t i 0 h)) ∙ so_far

pub none_passes : (test : ℕ → Bool) (t : Text) (i : ℕ) (any : Bool) → length t ≤ i → list_any test (drop i t) ≡ any → false ≡ any
none_passes test t i any h so_far = ap (list_any test) (sym (drop_all i t h)) ∙ so_far

-- ---- any text

text_split : (test : Text → Bool) (texts : List (Bor Text)) (i : ℕ) (d : Bor Text) → i < length texts
    → list_any test (texts_of (drop i texts)) ≡ test (get_or texts i d).now || list_any test (texts_of (drop (i + 1) texts))
text_split test texts i d h = ap (λ l. list_any test (texts_of l)) (drop_more texts i d h)

pub text_later : (test : Text → Bool) (texts : List (Bor Text)) (i : ℕ) (d : Bor Text) (any : Bool) → i < length texts
    → test (get_or texts i d).now ≡ false → list_any test (texts_of (drop i texts)) ≡ any → list_any test (texts_of (drop (i + 1) texts)) ≡ any
text_later test texts i d any h fails so_far =
    ap (λ b. b || list_any test (texts_of (drop (i + 1) texts))) (sym fails) ∙ sym (text_split test texts i d h) ∙ so_far

pub text_passes : (test : Text → Bool) (texts : List (Bor Text)) (i : ℕ) (d : Bor Text) (any : Bool) → i < length texts
    → test (get_or texts i d).now ≡ true → list_any test (texts_of (drop i texts)) ≡ any → true ≡ any
text_passes test texts i d any h passes so_far =
    ap (λ b. b || list_any test (texts_of (drop (i + 1) texts))) (sym passes) ∙ sym (text_split test texts i d h) ∙ so_far

pub no_text_passes : (test : Text → Bool) (texts : List (Bor Text)) (i : ℕ) (any : Bool) → length texts ≤ i
    → list_any test (texts_of (drop i texts)) ≡ any → false ≡ any
no_text_passes test texts i any h so_far = ap (λ l. list_any test (texts_of l)) (sym (drop_all i texts h)) ∙ so_far
