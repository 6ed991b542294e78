-- What a `%` and more bytes after a piece leave as it was: its key, its marks and its base.
use Rattle.std.proofs.Common.{◌≡◌, ℕ, zero, suc, ◌+◌, ◌<◌, ◌≤◌, inl, inr, Bool, true, false, cond, not, ◌&&◌, [], ◌∷◌, ◌++◌, length, get_or}
use Rattle.std.proofs.Common.{take, drop, refl, ap, ◌∙◌, arith, length-append, eq-eqb}
use Rattle.std.specs.Prelude.{◌==◌, nat_eq, nat_lt, codes}
use Rattle.std.specs.Char.{to_ascii_lowercase}
use Rattle.std.specs.List.{prefix_len, list_all}
use Rattle.std.proofs.Math.ListN.{get_or-append}
use Rattle.std.proofs.Math.Nat.{eq-or-lt_of_le}
use Rattle.std.proofs.Math.Seq.{get_or-append_seam}
use Rattle.std.proofs.lemmas.List.{take-append-le, drop-append-le, get_or-take, length-take-le}
use Rattle.std.proofs.lemmas.List.Folds.{list_all_at, prefix_len-append}
use Rattle.std.proofs.lemmas.List.Sums.{prefix_len-le-length, prefix_len_is, prefix_len_passes, prefix_len_stops}
use Rattle.text_model.specs.Texts.{Text}
use Rattle.uri_text.specs.AnyCase.{begins_in_any_case}
use Rattle.query_repair.specs.Keys.{is_key_byte, key_length, key_of, begins_pair, is_title, is_known}
use Rattle.query_repair.specs.Pieces.{begins_with_question, mark_length, after_marks, unmarked, base_length, base_of, after_base}
use Rattle.query_repair.specs.Pieces.{is_base_byte, is_base, begins_known, has_base}
use Rattle.query_repair.specs.Joining.{is_titled}
use Rattle.query_repair.proofs.Marks.{enough}

-- ---- its key

prefix_before : (p : ℕ → Bool) (c : ℕ) (z s : Text) → p c ≡ false → prefix_len p (z ++ c ∷ s) ≡ prefix_len p z
prefix_before p c [] s e = ap (λ b. cond b (1 + prefix_len p s) 0) e
prefix_before p c (b ∷ z) s e = ap (λ n. cond (p b) (1 + n) 0) (prefix_before p c z s e)

equals_at : (c : ℕ) (z s : Text) (n : ℕ) → n ≤ length z → (c == 0x3d) ≡ false → (get_or (z ++ c ∷ s) n 0 == 0x3d) ≡ (get_or z n 0 == 0x3d)
equals_at c [] s zero within e = e
equals_at c [] s (suc n) within e = absurd (omega arith)
equals_at c (b ∷ z) s zero within e = refl
equals_at c (b ∷ z) s (suc n) within e = equals_at c z s n (omega arith) e

-- as before any byte that is neither of a key nor `=`
pub pair_before : (c : ℕ) (z s : Text) → is_key_byte c ≡ false → (c == 0x3d) ≡ false → begins_pair (z ++ c ∷ s) ≡ begins_pair z
unfolding begins_pair
pair_before c z s h e =
    ap (λ n. nat_lt 0 n && (get_or (z ++ c ∷ s) n 0 == 0x3d)) (prefix_before is_key_byte c z s h)
    ∙ ap (λ t. nat_lt 0 (key_length z) && t) (equals_at c z s (key_length z) (prefix_len-le-length is_key_byte z) e)

pub pair_same : (z s : Text) → begins_pair (z ++ 0x25 ∷ s) ≡ begins_pair z
pair_same z s = pair_before 0x25 z s refl refl

key_end : (z s : Text) → key_length (z ++ 0x25 ∷ s) ≡ key_length z
key_end z s = prefix_before is_key_byte 0x25 z s refl

key_same : (z s : Text) → key_of (z ++ 0x25 ∷ s) ≡ key_of z
key_same z s =
    ap (λ n. take n (z ++ 0x25 ∷ s)) (key_end z s) ∙ take-append-le (key_length z) z (0x25 ∷ s) (prefix_len-le-length is_key_byte z)

pub titled_same : (z s : Text) → is_titled (z ++ 0x25 ∷ s) ≡ is_titled z
titled_same z s =
    ap (λ b. b && is_title (key_of (z ++ 0x25 ∷ s))) (pair_same z s) ∙ ap (λ key. begins_pair z && is_title key) (key_same z s)

known_same : (z s : Text) → begins_known (z ++ 0x25 ∷ s) ≡ begins_known z
known_same z s =
    ap (λ b. b && is_known (key_of (z ++ 0x25 ∷ s))) (pair_same z s) ∙ ap (λ key. begins_pair z && is_known key) (key_same z s)

-- ---- its marks

escape_same : (z s : Text) → begins_in_any_case (z ++ 0x25 ∷ s) (codes "amp;") ≡ begins_in_any_case z (codes "amp;")
escape_same [] s = refl
escape_same (a ∷ []) s = refl
escape_same (a ∷ b ∷ []) s = refl
escape_same (a ∷ b ∷ c ∷ []) s = refl
escape_same (a ∷ b ∷ c ∷ d ∷ z) s = refl

question_same : (z s : Text) → begins_with_question (z ++ 0x25 ∷ s) ≡ begins_with_question z
question_same [] s = refl
question_same (b ∷ z) s = refl

mark_same : (z s : Text) → mark_length (z ++ 0x25 ∷ s) ≡ mark_length z
mark_same z s =
    ap (λ b. cond b 4 (cond (begins_with_question (z ++ 0x25 ∷ s)) 1 0)) (escape_same z s)
    ∙ ap (λ b. cond (begins_in_any_case z (codes "amp;")) 4 (cond b 1 0)) (question_same z s)

pub no_and : (x y : Bool) → y ≡ false → (x && y) ≡ false
no_and true y e = e
no_and false y e = refl

within_four : (x y : Bool) (n : ℕ) → 4 ≤ n → cond x 4 (cond y 1 0) ≤ n
within_four true y n h = h
within_four false true n h = omega arith
within_four false false n h = omega arith

within_one : (x y : Bool) (n : ℕ) → x ≡ false → 1 ≤ n → cond x 4 (cond y 1 0) ≤ n
within_one true y n e h = cc
within_one false true n e h = h
within_one false false n e h = omega arith

pub mark_within : (z : Text) → mark_length z ≤ length z
mark_within [] = omega arith
mark_within (a ∷ []) =
    within_one (begins_in_any_case (a ∷ []) (codes "amp;")) (a == 0x3f) 1 (no_and (nat_eq (to_ascii_lowercase a) 0x61) false refl) (omega arith)
mark_within (a ∷ b ∷ []) =
    within_one (begins_in_any_case (a ∷ b ∷ []) (codes "amp;")) (a == 0x3f) 2
    (no_and (nat_eq (to_ascii_lowercase a) 0x61) _ (no_and (nat_eq (to_ascii_lowercase b) 0x6d) false refl)) (omega arith)
mark_within (a ∷ b ∷ c ∷ []) =
    within_one (begins_in_any_case (a ∷ b ∷ c ∷ []) (codes "amp;")) (a == 0x3f) 3
    (no_and (nat_eq (to_ascii_lowercase a) 0x61) _
    (no_and (nat_eq (to_ascii_lowercase b) 0x6d) _ (no_and (nat_eq (to_ascii_lowercase c) 0x70) false refl))) (omega arith)
mark_within (a ∷ b ∷ c ∷ d ∷ z) =
    within_four (begins_in_any_case (a ∷ b ∷ c ∷ d ∷ z) (codes "amp;")) (a == 0x3f) (length (a ∷ b ∷ c ∷ d ∷ z)) (omega arith)

appended_choice : (b : Bool) (x y w : Text) → cond b (x ++ w) (y ++ w) ≡ cond b x y ++ w
appended_choice true x y w = refl
appended_choice false x y w = refl

after_same : (n : ℕ) (z s : Text) → after_marks n (z ++ 0x25 ∷ s) ≡ after_marks n z ++ 0x25 ∷ s
after_same zero z s = refl
after_same (suc n) z s =
    let k : ℕ = mark_length z in
    let w : Text = 0x25 ∷ s in
    ap (λ m. cond (m == 0) (z ++ w) (after_marks n (drop m (z ++ w)))) (mark_same z s)
    ∙ ap (λ t. cond (k == 0) (z ++ w) (after_marks n t)) (drop-append-le k z w (mark_within z))
    ∙ ap (λ t. cond (k == 0) (z ++ w) t) (after_same n (drop k z) s)
    ∙ appended_choice (k == 0) z (after_marks n (drop k z)) w

unmarked_appended : (z s : Text) → unmarked (z ++ 0x25 ∷ s) ≡ unmarked z ++ 0x25 ∷ s
unfolding unmarked
unmarked_appended z s =
    let n : ℕ = length (z ++ 0x25 ∷ s) in
    after_same n z s ∙ ap (λ t. t ++ 0x25 ∷ s) (enough n (length z) z (simp length-append (omega arith)) (omega arith))

-- ---- its base

whole_grown : (p : ℕ → Bool) (z s : Text) → p 0x25 ≡ true → prefix_len p z ≡ length z → prefix_len p (z ++ 0x25 ∷ s) ≡ length z + (1 + prefix_len p s)
whole_grown p z s passes whole =
    prefix_len-append p z (0x25 ∷ s)
    ∙ ap (λ n. cond (n == length z) (length z + prefix_len p (0x25 ∷ s)) n) whole
    ∙ ap (λ b. cond b (length z + prefix_len p (0x25 ∷ s)) (length z)) (eq-eqb (length z) (length z) refl)
    ∙ ap (λ b. length z + cond b (1 + prefix_len p s) 0) passes

base_has_percent : (z s : Text) → base_length z ≡ length z → is_base (base_of (z ++ 0x25 ∷ s)) ≡ false
base_has_percent z s whole =
    let p : ℕ → Bool = λ b. not (b == 0x3f) in
    let t : Text = z ++ 0x25 ∷ s in
    let m : ℕ = prefix_len p t in
    let grown : m ≡ length z + (1 + prefix_len p s) = whole_grown p z s refl whole in
    let beyond : length z < m = omega (arith, grown) in
    let short : m ≤ length t = prefix_len-le-length p t in
    let percent : get_or (take m t) (length z) 0 ≡ 0x25 = get_or-take m t (length z) 0 beyond ∙ get_or-append_seam z 0x25 s 0 in
    let inside : length z < length (take m t) = omega (arith, length-take-le m t short, beyond) in
    no_and (begins_pair (take m t) && not (is_known (key_of (take m t)))) (list_all is_base_byte (take m t))
    (list_all_at is_base_byte (take m t) (length z) 0 inside (ap is_base_byte percent))

base_same : (z s : Text) → base_length z < length z → base_length (z ++ 0x25 ∷ s) ≡ base_length z
base_same z s within =
    let p : ℕ → Bool = λ b. not (b == 0x3f) in
    let n : ℕ = prefix_len p z in
    let t : Text = z ++ 0x25 ∷ s in
    prefix_len_is p t n 0 (simp length-append (omega arith))
    (λ k below. ap p (get_or-append z (0x25 ∷ s) 0 k (omega arith)) ∙ prefix_len_passes p z k 0 below)
    (λ more. ap p (get_or-append z (0x25 ∷ s) 0 n within) ∙ prefix_len_stops p z 0 within)

pub closed_appended : (z s : Text) → has_base z ≡ false → has_base (z ++ 0x25 ∷ s) ≡ false
unfolding has_base
closed_appended z s closed =
    let t : Text = z ++ 0x25 ∷ s in
    elim (eq-or-lt_of_le (prefix_len-le-length (λ b. not (b == 0x3f)) z)) [
      | inl whole ↦ ap (λ b. b && begins_known (after_base t)) (base_has_percent z s whole)
      | inr within ↦
          let n : ℕ = base_length z in
          let same : base_length t ≡ n = base_same z s within in
          let base : base_of t ≡ base_of z = ap (λ m. take m t) same ∙ take-append-le n z (0x25 ∷ s) (omega arith) in
          let after : after_base t ≡ after_base z ++ 0x25 ∷ s =
          ap (λ m. unmarked (drop m t)) same ∙ ap unmarked (drop-append-le n z (0x25 ∷ s) (omega arith)) ∙ unmarked_appended (drop n z) s in
          ap (λ b. is_base b && begins_known (after_base t)) base
          ∙ ap (λ r. is_base (base_of z) && begins_known r) after
          ∙ ap (λ r. is_base (base_of z) && r) (known_same (after_base z) s)
          ∙ closed
    ]
