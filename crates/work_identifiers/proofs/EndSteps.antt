-- One byte more of a text, from its beginning or from its end.
use Rattle.std.proofs.Common.{◌≡◌, ℕ, zero, suc, ◌+◌, ◌-◌, ◌<◌, ◌≤◌, List, [], Bool, true, false, cond, ◌||◌, length}
use Rattle.std.proofs.Common.{get_or, take, drop, refl, ap, sym, ◌∙◌, arith, slice_set, get_or-take, replicate}
use Rattle.std.specs.Prelude.{◌==◌, nat_lt, slice_index}
use Rattle.std.specs.List.{prefix_len}
use Rattle.std.proofs.lemmas.List.{take_all, drop_all, length-take-le, get_or-set_other, get_or-replicate}
use Rattle.std.proofs.lemmas.List.Sums.{prefix_len-drop_yes, prefix_len-drop_no, count_by_more_yes, count_by_more_no, count_by-le-length}
use Rattle.std.proofs.lemmas.Grind.{get_or-set_at}
use Rattle.std.proofs.lemmas.Bool.{eqb-true}
use Rattle.std.proofs.lemmas.Bool.Decides.{nat_tests}
use Rattle.text_model.specs.Texts.{Text}
use Rattle.work_identifiers.specs.Ends.{is_before, from_start, is_after, opening_of, count_of, is_unopened, ends_loosely, cut_at, to_end}
use Rattle.work_identifiers.specs.Ends.{is_break, is_no_break, first_part}

-- ---- from the beginning

pub start_more : (t : Text) (i : ℕ) → i < length t → i + prefix_len is_before (drop i t) ≡ prefix_len is_before t → is_before (get_or t i 0) ≡ true
    → (i + 1) + prefix_len is_before (drop (i + 1) t) ≡ prefix_len is_before t
start_more t i h e is = omega (arith, e, prefix_len-drop_yes is_before t i 0 h is)

pub start_at : (t : Text) (i : ℕ) → i < length t → i + prefix_len is_before (drop i t) ≡ prefix_len is_before t → is_before (get_or t i 0) ≡ false
    → drop i t ≡ from_start t
start_at t i h e no_more =
    let n : i ≡ prefix_len is_before t = omega (arith, e, prefix_len-drop_no is_before t i 0 h no_more) in ap (λ k. drop k t) n

pub start_none : (t : Text) (i : ℕ) → length t ≤ i → i + prefix_len is_before (drop i t) ≡ prefix_len is_before t → [] ≡ from_start t
start_none t i h e =
    let n : length t ≤ prefix_len is_before t = omega (arith, e, h) in sym (drop_all (prefix_len is_before t) t n)

pub ruleset start_steps = (start_more, start_at, start_none)

-- ---- up to a break

pub part_more : (t : Text) (i : ℕ) → i < length t → i + prefix_len is_no_break (drop i t) ≡ prefix_len is_no_break t → is_break (get_or t i 0) ≡ false
    → (i + 1) + prefix_len is_no_break (drop (i + 1) t) ≡ prefix_len is_no_break t
part_more t i h e is =
    let other : is_no_break (get_or t i 0) ≡ true = rw is refl in omega (arith, e, prefix_len-drop_yes is_no_break t i 0 h other)

pub part_at : (t : Text) (i : ℕ) → i < length t → i + prefix_len is_no_break (drop i t) ≡ prefix_len is_no_break t → is_break (get_or t i 0) ≡ true
    → take i t ≡ first_part t
part_at t i h e is =
    let other : is_no_break (get_or t i 0) ≡ false = rw is refl in
    let n : i ≡ prefix_len is_no_break t = omega (arith, e, prefix_len-drop_no is_no_break t i 0 h other) in ap (λ k. take k t) n

pub part_all : (t : Text) (i : ℕ) → i ≡ length t → i + prefix_len is_no_break (drop i t) ≡ prefix_len is_no_break t → t ≡ first_part t
part_all t i h e =
    let n : length t ≤ prefix_len is_no_break t = omega (arith, e, h) in sym (take_all (prefix_len is_no_break t) t n)

pub ruleset part_steps = (part_more, part_at, part_all)

-- ---- up to where it does not end loosely

-- how often a text has each byte
abbrev pub AreCounts : List ℕ → Text → Type 0
AreCounts counts text = (b : ℕ) → b < 256 → slice_index counts b ≡ count_of b text

pub none_counted : AreCounts (replicate 256 0) []
none_counted b below = get_or-replicate 256 b 0 0 below

pub counted_more : (counts : List ℕ) (t : Text) (i : ℕ) → i < length t → length counts ≡ 256 → get_or t i 0 < 256 → AreCounts counts (take i t)
    → AreCounts (slice_set counts (get_or t i 0) (slice_index counts (get_or t i 0) + 1)) (take (i + 1) t)
counted_more counts t i within size byte are b below = by_test (get_or t i 0 == b) refl
  where
    x : ℕ
    x = get_or t i 0

    is : ℕ → Bool
    is c = c == b

    by_test : (e : Bool) → is (get_or t i 0) ≡ e → slice_index (slice_set counts x (slice_index counts x + 1)) b ≡ count_of b (take (i + 1) t)
    by_test true e =
        let same : b ≡ x = sym (eqb-true x b e) in
        get_or-set_at counts x b (slice_index counts x + 1) 0 same (omega (arith, byte, size))
        ∙ ap (λ n. n + 1) (ap (slice_index counts) (sym same) ∙ are b below) ∙ sym (count_by_more_yes is t i 0 within e)
    by_test false e =
        get_or-set_other counts x b (slice_index counts x + 1) 0 (λ same. grind (arith, nat_tests)) ∙ are b below ∙ sym (count_by_more_no is t i 0 within e)

pub count_within : (counts : List ℕ) (t : Text) (i b : ℕ) → AreCounts counts (take i t) → b < 256 → i ≤ length t → slice_index counts b ≤ i
count_within counts t i b are below within =
    let few : count_of b (take i t) ≤ length (take i t) = count_by-le-length (λ c. c == b) (take i t) in
    omega (arith, are b below, few, length-take-le i t within)

opening_below : (b : ℕ) → b < 256 → opening_of b < 256
opening_below b h = grind (arith, nat_tests)

last_is : (t : Text) (i : ℕ) → i < length t → slice_index (take (i + 1) t) (length (take (i + 1) t) - 1) ≡ get_or t i 0
last_is t i within =
    let size : length (take (i + 1) t) ≡ i + 1 = length-take-le (i + 1) t (omega (arith, within)) in
    ap (λ n. slice_index (take (i + 1) t) (n - 1)) size ∙ grind (arith, get_or-take)

pub loose_by_counts : (counts : List ℕ) (t : Text) (i : ℕ) → i < length t → get_or t i 0 < 256 → AreCounts counts (take (i + 1) t)
    → (is_after (get_or t i 0) || nat_lt (slice_index counts (opening_of (get_or t i 0))) (slice_index counts (get_or t i 0)))
    ≡ ends_loosely (take (i + 1) t)
loose_by_counts counts t i within byte are =
    let x = get_or t i 0 in
    ap (λ n. is_after x || nat_lt n (slice_index counts x)) (are (opening_of x) (opening_below x byte))
    ∙ ap (λ n. is_after x || nat_lt (count_of (opening_of x) (take (i + 1) t)) n) (are x byte)
    ∙ ap (λ b. is_after b || is_unopened b (take (i + 1) t)) (sym (last_is t i within))

cut_step : (t : Text) (n i : ℕ) → n ≡ i + 1 → cut_at n t ≡ cond (ends_loosely (take n t)) (cut_at i t) (take n t)
cut_step t zero i e = absurd (omega (arith, e))
cut_step t (suc n) i e = let same : n ≡ i = omega (arith, e) in ap (λ k. cond (ends_loosely (take (suc n) t)) (cut_at k t) (take (suc n) t)) same

pub cut_next : (t : Text) (i : ℕ) → cut_at (i + 1) t ≡ cond (ends_loosely (take (i + 1) t)) (cut_at i t) (take (i + 1) t)
cut_next t i = cut_step t (i + 1) i refl

-- what does not end loosely stays
pub to_end-same : (t : Text) → ends_loosely t ≡ false → to_end t ≡ t
to_end-same t h = whole (length t) refl
  where
    whole : (n : ℕ) → n ≡ length t → cut_at n t ≡ t
    whole zero e = sym (drop_all 0 t (omega (arith, e)))
    whole (suc n) e =
        let all : take (suc n) t ≡ t = take_all (suc n) t (omega (arith, e)) in
        ap (λ s. cond (ends_loosely s) (cut_at n t) s) all ∙ ap (λ b. cond b (cut_at n t) t) h
