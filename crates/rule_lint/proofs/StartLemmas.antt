-- No name before the start of a search resembles the one that is searched for.
use Rattle.std.proofs.Common.{◌≡◌, ℕ, zero, suc, ◌+◌, ◌-◌, ◌<◌, ◌≤◌, Bool, true, false, ◌||◌}
use Rattle.std.proofs.Common.{◌&&◌, ◌==◌, Bor, List, [], ◌∷◌, ◌++◌, bytes_eq, length, get_or, nat_lt, take, drop}
use Rattle.std.proofs.Common.{inl, inr, refl, sym, ap, ◌∙◌, arith, codes}
use Rattle.std.specs.Prelude.{◌⊎◌}
use Rattle.std.specs.List.{find}
use Rattle.std.specs.HashMap.{HashMap}
use Rattle.std.specs.Str.{str_eq_ignore_ascii_case}
use Rattle.std.proofs.lemmas.Bool.{and_parts, eqb-true, ltb-false, ltb-true, or_cases}
use Rattle.std.proofs.lemmas.Slice.Eq.{bytes_eq-Decides}
use Rattle.std.proofs.lemmas.List.{drop-map, length-drop, take_all}
use Rattle.text_model.specs.Texts.{Text, texts_of}
use Rattle.kbart_rows.specs.declared.keys.Keys.{Keys}
use Rattle.rule_lint.specs.Names.{adds_prefix, has_one_before, has_one_replaced, has_two_exchanged, is_edited_first, is_one_edit, resembles}
use Rattle.rule_lint.specs.Private.Starts.{AreSearchStarts, IsMarked, IsStart, exchanged_key, first_with, key_at}
use Rattle.rule_lint.specs.Private.Starts.{lower_case, lowered_key, name_hash, shorter_key, whole_key, without}

-- ---- one more name

kept_mark : (m : ℕ) (old new : HashMap ℕ ℕ Keys) (k : ℕ) (name : Text) → ((h : ℕ) → first_with new h ≤ first_with old h) → IsMarked m old k name
    → IsMarked m new k name
kept_mark m old new k name kept marked =
    record {
      whole = omega (arith, kept (whole_key m name), marked.whole);
      lowered = omega (arith, kept (lowered_key m name), marked.lowered);
      shorter = λ i l. omega (arith, kept (shorter_key m (without name i) i), marked.shorter i l);
      exchanged = λ i l. omega (arith, kept (exchanged_key m (without name i) (get_or name i 0) i), marked.exchanged i l);
    }

pub one_more_marked : (m : ℕ) (old new : HashMap ℕ ℕ Keys) (names : List Text) (place : ℕ) → ((h : ℕ) → first_with new h ≤ first_with old h)
    → ((k : ℕ) → k < place → IsMarked m old k (get_or names k [])) → IsMarked m new place (get_or names place []) → (k : ℕ) → k < place + 1
    → IsMarked m new k (get_or names k [])
one_more_marked m old new names place kept marked last k within = by_test (nat_lt k place) refl
  where
    by_test : (b : Bool) → nat_lt k place ≡ b → IsMarked m new k (get_or names k [])
    by_test true e = kept_mark m old new k (get_or names k []) kept (marked k (ltb-true k place e))
    by_test false e = let here : k ≡ place = omega (arith, within, ltb-false k place e) in rw here last

-- ---- one more byte of a name

pub below : (next start bound : ℕ) → next ≤ start → start ≤ bound → next ≤ bound
below next start bound least before = omega (arith, least, before)

pub up_to_next : (start next : ℕ) (bound : ℕ → ℕ) (i : ℕ) → next ≤ start → ((j : ℕ) → j < i → start ≤ bound j) → next ≤ bound i
    → (j : ℕ) → j < i + 1 → next ≤ bound j
up_to_next start next bound i least before here j within = by_test (nat_lt j i) refl
  where
    by_test : (b : Bool) → nat_lt j i ≡ b → next ≤ bound j
    by_test true e = below next start (bound j) least (before j (ltb-true j i e))
    by_test false e = let same_place : j ≡ i = omega (arith, within, ltb-false j i e) in rw same_place here

pub up_to_end : (start : ℕ) (bound : ℕ → ℕ) (n i : ℕ) → start ≤ bound n → ((j : ℕ) → j < i → start ≤ bound j) → n ≤ i
    → (j : ℕ) → j ≤ n → start ≤ bound j
up_to_end start bound n i last before reached j within = by_test (nat_lt j n) refl
  where
    by_test : (b : Bool) → nat_lt j n ≡ b → start ≤ bound j
    by_test true e = before j (omega (arith, reached, ltb-true j n e))
    by_test false e = let same_place : j ≡ n = omega (arith, within, ltb-false j n e) in rw same_place last

-- ---- what names that resemble each other have in common

pub data IsNear : Text → Text → Type 0 where
  is_longer : (t u : Text) (i : ℕ) → i ≤ length t → i < length u → t ≡ without u i → IsNear t u
  is_shorter : (t u : Text) (i : ℕ) → i < length t → u ≡ without t i → IsNear t u
  is_replaced : (t u : Text) (i : ℕ) → i < length t → i < length u → without t i ≡ without u i → IsNear t u
  is_exchanged : (t u : Text) (i : ℕ) → i < length t → suc i < length u → without t i ≡ without u (suc i) → get_or t i 0 ≡ get_or u (suc i) 0
      → IsNear t u

without_next : (c : ℕ) (u : Text) (i : ℕ) → without (c ∷ u) (suc i) ≡ c ∷ without u i
without_next c u i =
    let next : suc i + 1 ≡ suc (i + 1) = omega arith in
    ap (λ n. take (suc i) (c ∷ u) ++ drop n (c ∷ u)) next

further : (b c : ℕ) (t u : Text) → b ≡ c → IsNear t u → IsNear (b ∷ t) (c ∷ u)
further b c t u equal (is_longer t' u' i n l e) =
    is_longer (b ∷ t) (c ∷ u) (suc i) (omega (arith, n)) (omega (arith, l)) (cc (equal, e, without_next c u i))
further b c t u equal (is_shorter t' u' i l e) = is_shorter (b ∷ t) (c ∷ u) (suc i) (omega (arith, l)) (cc (equal, e, without_next b t i))
further b c t u equal (is_replaced t' u' i l m e) =
    is_replaced (b ∷ t) (c ∷ u) (suc i) (omega (arith, l)) (omega (arith, m)) (cc (equal, e, without_next b t i, without_next c u i))
further b c t u equal (is_exchanged t' u' i l m e byte) =
    is_exchanged (b ∷ t) (c ∷ u) (suc i) (omega (arith, l)) (omega (arith, m)) (cc (equal, e, without_next b t i, without_next c u (suc i))) byte

same : (t u : Text) → bytes_eq t u ≡ true → t ≡ u
same t u e = (bytes_eq-Decides t u).0 e

before : (t u : Text) → has_one_before t u ≡ true → IsNear t u
before t [] e = absurd (cc (e))
before t (c ∷ u) e = is_longer t (c ∷ u) 0 (omega arith) (omega arith) (same t u e)

after : (t u : Text) → has_one_before u t ≡ true → IsNear t u
after [] u e = absurd (cc (e))
after (b ∷ t) u e = is_shorter (b ∷ t) u 0 (omega arith) (same u t e)

replaced : (t u : Text) → has_one_replaced t u ≡ true → IsNear t u
replaced [] u e = absurd (cc (e))
replaced (b ∷ t) [] e = absurd (cc (e))
replaced (b ∷ t) (c ∷ u) e = is_replaced (b ∷ t) (c ∷ u) 0 (omega arith) (omega arith) (same t u e)

exchanged : (t u : Text) → has_two_exchanged t u ≡ true → IsNear t u
exchanged (a ∷ b ∷ t) (c ∷ d ∷ u) e =
    let parts = and_parts ((a == d) && (b == c)) (bytes_eq t u) e in
    let firsts = and_parts (a == d) (b == c) parts.0 in
    let equal : b ≡ c = eqb-true b c firsts.1 in
    is_exchanged (a ∷ b ∷ t) (c ∷ d ∷ u) 0 (omega arith) (omega arith) (cc (equal, same t u parts.1)) (eqb-true a d firsts.0)
exchanged (a ∷ b ∷ t) (c ∷ []) e = absurd (cc (e))
exchanged (a ∷ b ∷ t) [] e = absurd (cc (e))
exchanged (a ∷ []) u e = absurd (cc (e))
exchanged [] u e = absurd (cc (e))

edited_first : (t u : Text) → is_edited_first t u ≡ true → IsNear t u
edited_first t u e = by_side (or_cases (has_one_before t u || has_one_before u t) (has_one_replaced t u || has_two_exchanged t u) e)
  where
    by_length : (has_one_before t u ≡ true) ⊎ (has_one_before u t ≡ true) → IsNear t u
    by_length (inl more) = before t u more
    by_length (inr less) = after t u less

    by_kind : (has_one_replaced t u ≡ true) ⊎ (has_two_exchanged t u ≡ true) → IsNear t u
    by_kind (inl one) = replaced t u one
    by_kind (inr two) = exchanged t u two

    by_side : (has_one_before t u || has_one_before u t ≡ true) ⊎ (has_one_replaced t u || has_two_exchanged t u ≡ true) → IsNear t u
    by_side (inl length) = by_length (or_cases (has_one_before t u) (has_one_before u t) length)
    by_side (inr kind) = by_kind (or_cases (has_one_replaced t u) (has_two_exchanged t u) kind)

one_edit : (t u : Text) → is_one_edit t u ≡ true → IsNear t u
one_edit [] u e = edited_first [] u e
one_edit (b ∷ t) [] e = edited_first (b ∷ t) [] e
one_edit (b ∷ t) (c ∷ u) e = by_place (one_edit t u) (or_cases (is_edited_first (b ∷ t) (c ∷ u)) (b == c && is_one_edit t u) e)
  where
    by_place : (is_one_edit t u ≡ true → IsNear t u) → (is_edited_first (b ∷ t) (c ∷ u) ≡ true) ⊎ ((b == c && is_one_edit t u) ≡ true)
        → IsNear (b ∷ t) (c ∷ u)
    by_place rest (inl first) = edited_first (b ∷ t) (c ∷ u) first
    by_place rest (inr later) =
        let parts = and_parts (b == c) (is_one_edit t u) later in
        further b c t u (eqb-true b c parts.0) (rest parts.1)

-- ---- no name before the start

near : (m : ℕ) (firsts : HashMap ℕ ℕ Keys) (t u : Text) (k start : ℕ) → IsNear t u → IsStart m firsts t start → IsMarked m firsts k u → start ≤ k
near m firsts t u k start (is_longer t' u' i n l e) from marked =
    omega (arith, from.longer i n, marked.shorter i l, ap (λ text. first_with firsts (shorter_key m text i)) e)
near m firsts t u k start (is_shorter t' u' i l e) from marked =
    omega (arith, from.shorter i l, marked.whole, ap (λ text. first_with firsts (whole_key m text)) e)
near m firsts t u k start (is_replaced t' u' i l n e) from marked =
    omega (arith, from.replaced i l, marked.shorter i n, ap (λ text. first_with firsts (shorter_key m text i)) e)
near m firsts t u k start (is_exchanged t' u' i l n e byte) from marked =
    let next : i + 1 ≡ suc i = omega arith in
    let key : exchanged_key m (without t i) (get_or t i 0) (i + 1) ≡ exchanged_key m (without u (suc i)) (get_or u (suc i) 0) (suc i) =
    rw (e, byte, next) refl in
    omega (arith, from.exchanged i l, marked.exchanged (suc i) n, ap (first_with firsts) key)

alike : (m : ℕ) (firsts : HashMap ℕ ℕ Keys) (t u : Text) (k start : ℕ) → resembles t u ≡ true → IsStart m firsts t start → IsMarked m firsts k u → start ≤ k
alike m firsts t u k start e from marked = by_case (or_cases (str_eq_ignore_ascii_case t u) (adds_prefix t u || is_one_edit t u) e)
  where
    by_edit : (adds_prefix t u ≡ true) ⊎ (is_one_edit t u ≡ true) → start ≤ k
    by_edit (inl prefix) =
        omega (arith, from.prefixed, marked.whole, ap (λ text. first_with firsts (whole_key m text)) (same u (codes "rft." ++ t) prefix))
    by_edit (inr edit) = near m firsts t u k start (one_edit t u edit) from marked

    by_case : (str_eq_ignore_ascii_case t u ≡ true) ⊎ ((adds_prefix t u || is_one_edit t u) ≡ true) → start ≤ k
    by_case (inl case) =
        omega (arith, from.lowered, marked.lowered, ap (λ text. first_with firsts (key_at m (name_hash m text) 1 0)) (same (lower_case t) (lower_case u) case))
    by_case (inr other) = by_edit (or_cases (adds_prefix t u) (is_one_edit t u) other)

not_before : (m : ℕ) (firsts : HashMap ℕ ℕ Keys) (names : List Text) (name : Text) (start k : ℕ) → AreSearchStarts m firsts names → IsStart m firsts name start
    → k < length names → k < start → resembles name (get_or names k []) ≡ false
not_before m firsts names name start k are from within early = by_test (resembles name (get_or names k [])) refl
  where
    by_test : (b : Bool) → resembles name (get_or names k []) ≡ b → resembles name (get_or names k []) ≡ false
    by_test false e = e
    by_test true e = absurd (omega (arith, early, alike m firsts name (get_or names k []) k start e from (are k within)))

find_after : (p : Text → Bool) (names : List Text) (start : ℕ) → start ≤ length names → ((k : ℕ) → k < start → p (get_or names k []) ≡ false)
    → find p (drop start names) ≡ find p names
find_after p names zero within none = refl
find_after p [] (suc start) within none = refl
find_after p (name ∷ names) (suc start) within none =
    let first : p name ≡ false = none 0 (omega arith) in
    rw first (find_after p names start (omega (arith, within)) (λ k l. none (suc k) (omega (arith, l))))

pub find_from_start : (m : ℕ) (firsts : HashMap ℕ ℕ Keys) (names : List Text) (name : Text) (start from : ℕ) → AreSearchStarts m firsts names
    → IsStart m firsts name start → from ≤ start → from ≤ length names → find (resembles name) (drop from names) ≡ find (resembles name) names
find_from_start m firsts names name start from are is below within =
    find_after (resembles name) names from within
    (λ k l. not_before m firsts names name start k are is (omega (arith, l, within)) (omega (arith, l, below)))

pub texts_from : (names : List (Bor Text)) (from : ℕ) → texts_of (take (length names - from) (drop from names)) ≡ drop from (texts_of names)
texts_from names from =
    ap texts_of (take_all (length names - from) (drop from names) (omega (arith, length-drop from names))) ∙ sym (drop-map (λ name. name.now) from names)
