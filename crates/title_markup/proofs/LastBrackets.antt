-- A tag at the end of a text begins with the last bracket before its last byte.
use Rattle.std.proofs.Common.{◌≡◌, ℕ, suc, ◌+◌, ◌-◌, ◌<◌, ◌≤◌, ◌⊎◌, inl, inr, [], ◌∷◌, ◌++◌, Bool, true, false, cond, Option, Some, None, length, take, drop}
use Rattle.std.proofs.Common.{get_or, refl, sym, ap, ◌∙◌, subst, append_assoc, arith}
use Rattle.std.specs.Prelude.{◌==◌, not, reverse}
use Rattle.std.specs.List.{prefix_len}
use Rattle.std.specs.Option.{option_and_then}
use Rattle.std.proofs.lemmas.Bool.{and_left, and_right, or_parts, or_cases, or_from, eqb-true, eq-eqb, ne_eqb, cond_both, cases_Bool}
use Rattle.std.proofs.lemmas.List.{length-append, length-drop, length-reverse, reverse-append, reverse-reverse, take-append-drop}
use Rattle.std.proofs.lemmas.List.{drop_more, drop_all, drop-append-le, get_or-drop}
use Rattle.text_model.specs.Texts.{Text}
use Rattle.title_markup.specs.Endings.{opening, closing, last_byte, last_bytes, or_other, from_last, has}
use Rattle.title_markup.specs.Tags.{is_name_byte, name_length, closes, ends_tag, is_inside, is_tag, tag_of, tag_length}
use Rattle.title_markup.specs.Tags.{is_bracket, unended, inner_length, from_bracket}
use Rattle.title_markup.proofs.TextEnds.{none_from, from_place}

-- ---- no tag has `>` before its last byte

-- `>` with something after it, and what is before both
abbrev followed : Text → ℕ → Text → Text
followed front c back = front ++ closing ∷ c ∷ back

open_short : (front back : Text) (c : ℕ) → prefix_len (λ b. not (b == closing)) (followed front c back) ≤ length front
open_short [] back c = omega arith
open_short (b ∷ front) back c =
    cond_both (not (b == closing)) (1 + prefix_len (λ b. not (b == closing)) (followed front c back)) 0 (λ n. n ≤ suc (length front))
    (λ _. omega (arith, open_short front back c)) (λ _. omega arith)

not_closed : (front back : Text) (c : ℕ) → closes (followed front c back) ≡ false
not_closed front back c =
    let all = length-append front (closing ∷ c ∷ back) in
    ne_eqb (prefix_len (λ b. not (b == closing)) (followed front c back) + 1) (length (followed front c back))
    (λ e. omega (arith, e, all, open_short front back c))

not_ended : (front back : Text) (c : ℕ) → ends_tag (followed front c back) ≡ false
unfolding ends_tag
not_ended front back c = and_left _ _ (not_closed front back c)

one_more : (n : ℕ) → 1 + n ≡ suc n
one_more n = omega arith

after_name : (front back : Text) (c : ℕ) → ends_tag (drop (name_length (followed front c back)) (followed front c back)) ≡ false
after_name [] back c = not_ended [] back c
after_name (b ∷ front) back c =
    cond_both (is_name_byte b) (1 + name_length (followed front c back)) 0 (λ n. ends_tag (drop n (b ∷ followed front c back)) ≡ false)
    (λ _. ap (λ n. ends_tag (drop n (b ∷ followed front c back))) (one_more (name_length (followed front c back))) ∙ after_name front back c)
    (λ _. not_ended (b ∷ front) back c)

not_inside : (front back : Text) (c : ℕ) → is_inside (followed front c back) ≡ false
unfolding is_inside
not_inside front back c = and_right _ _ (after_name front back c)

not_tag : (b : ℕ) (front back : Text) (c : ℕ) → is_tag (b ∷ followed front c back) ≡ false
not_tag b [] back c = and_right (b == opening) _ (not_inside [] back c)
not_tag b (a ∷ front) back c =
    and_right (b == opening) _
    (cond_both (a == 0x2f) (followed front c back) (a ∷ followed front c back) (λ t. is_inside t ≡ false)
    (λ _. not_inside front back c) (λ _. not_inside (a ∷ front) back c))

none_of : (t : Text) → is_tag t ≡ false → tag_of t ≡ None
none_of t h = ap (λ b. cond b (Some (length t)) None) h

-- ---- the last bracket

no_tag_before : (front back : Text) (c : ℕ) → has opening (c ∷ back) ≡ false
    → option_and_then tag_of (from_last opening (followed front c back)) ≡ None
no_tag_before [] back c free = ap (option_and_then tag_of) (none_from opening (closing ∷ c ∷ back) free)
no_tag_before (b ∷ front) back c free = by_later (from_last opening (followed front c back)) (no_tag_before front back c free)
  where
    by_later : (o : Option Text) → option_and_then tag_of o ≡ None
        → option_and_then tag_of (or_other o (cond (b == opening) (Some (b ∷ followed front c back)) None)) ≡ None
    by_later (Some t) h = h
    by_later None h =
        cond_both (b == opening) (Some (b ∷ followed front c back)) None (λ o. option_and_then tag_of o ≡ None)
        (λ _. none_of (b ∷ followed front c back) (not_tag b front back c)) (λ _. refl)

before_all : (s : Text) → has opening s ≡ false → tag_of (s ++ closing ∷ []) ≡ None
before_all [] free = refl
before_all (b ∷ s) free =
    none_of (b ∷ s ++ closing ∷ []) (and_left (b == opening) _ (or_parts (b == opening) (has opening s) free).0)

has_not_ended : (s : Text) → has opening s ≡ false → has opening (s ++ closing ∷ []) ≡ false
has_not_ended [] free = refl
has_not_ended (b ∷ s) free =
    let parts = or_parts (b == opening) (has opening s) free in
    or_from (b == opening) (has opening (s ++ closing ∷ [])) parts.0 (has_not_ended s parts.1)

drop_front : (front back : Text) → drop (length front) (front ++ back) ≡ back
drop_front front back =
    drop-append-le (length front) front back (omega arith) ∙ ap (λ u. u ++ back) (drop_all (length front) front (omega arith))

-- a text of which the first part is read from its end
abbrev at_bracket : Text → Text → Text
at_bracket r t = drop (length r - prefix_len (λ b. not (is_bracket b)) r - 1) t

abbrev ended : Text → Text → Text
ended r s = reverse r ++ (s ++ closing ∷ [])

-- the last bracket closes a tag before
after_closing : (front s : Text) → has opening s ≡ false
    → option_and_then tag_of (from_last opening (front ++ closing ∷ (s ++ closing ∷ []))) ≡ None
after_closing front [] free = no_tag_before front [] closing refl
after_closing front (c ∷ s) free = no_tag_before front (s ++ closing ∷ []) c (has_not_ended (c ∷ s) free)

abbrev IsFound : Text → Text → ℕ → Type 0
IsFound front s b = option_and_then tag_of (from_last opening (front ++ b ∷ (s ++ closing ∷ []))) ≡ tag_of (b ∷ (s ++ closing ∷ []))

-- it opens one, or closes one
opened_or_closed : (b : ℕ) (front s : Text) → has opening s ≡ false → is_bracket b ≡ true → IsFound front s b
opened_or_closed b front s free h = by_kind (or_cases (b == opening) (b == closing) h)
  where
    by_kind : ((b == opening) ≡ true) ⊎ ((b == closing) ≡ true) → IsFound front s b
    by_kind (inl opens) =
        subst (IsFound front s) (sym (eqb-true b opening opens))
        (ap (option_and_then tag_of) (from_place opening front (s ++ closing ∷ []) (has_not_ended s free)))
    by_kind (inr is) = subst (IsFound front s) (sym (eqb-true b closing is)) (after_closing front s free)

found : (r s : Text) → has opening s ≡ false
    → option_and_then tag_of (from_last opening (ended r s)) ≡ tag_of (at_bracket r (ended r s))
found [] s free =
    ap (option_and_then tag_of) (none_from opening (s ++ closing ∷ []) (has_not_ended s free)) ∙ sym (before_all s free)
found (b ∷ r) s free = by_byte (cases_Bool (is_bracket b)) (found r (b ∷ s))
  where
    back : Text
    back = b ∷ (s ++ closing ∷ [])

    split : ended (b ∷ r) s ≡ reverse r ++ back
    split =
        ap (λ u. u ++ (s ++ closing ∷ [])) (reverse-append (b ∷ []) r) ∙ append_assoc (reverse r) (b ∷ []) (s ++ closing ∷ [])

    -- at the bracket of a shorter text, or at this byte
    place : (c : Bool) → is_bracket b ≡ c
        → at_bracket (b ∷ r) (ended (b ∷ r) s)
        ≡ drop (suc (length r) - cond (not c) (1 + prefix_len (λ x. not (is_bracket x)) r) 0 - 1) (reverse r ++ back)
    place c e =
        ap (λ c. drop (suc (length r) - cond (not c) (1 + prefix_len (λ x. not (is_bracket x)) r) 0 - 1) (ended (b ∷ r) s)) e
        ∙ ap (λ t. drop (suc (length r) - cond (not c) (1 + prefix_len (λ x. not (is_bracket x)) r) 0 - 1) t) split

    by_byte : (is_bracket b ≡ true) ⊎ (is_bracket b ≡ false)
        → (has opening (b ∷ s) ≡ false → option_and_then tag_of (from_last opening (reverse r ++ back)) ≡ tag_of (at_bracket r (reverse r ++ back)))
        → option_and_then tag_of (from_last opening (ended (b ∷ r) s)) ≡ tag_of (at_bracket (b ∷ r) (ended (b ∷ r) s))
    by_byte (inl is) later =
        let size : suc (length r) - 0 - 1 ≡ length (reverse r) = omega (arith, length-reverse r) in
        ap (λ t. option_and_then tag_of (from_last opening t)) split ∙ opened_or_closed b (reverse r) s free is
        ∙ ap tag_of (sym (place true is ∙ ap (λ n. drop n (reverse r ++ back)) size ∙ drop_front (reverse r) back))
    by_byte (inr is) later =
        let apart : (b == opening) ≡ false = (or_parts (b == opening) (b == closing) is).0 in
        let n = prefix_len (λ x. not (is_bracket x)) r in
        let size : suc (length r) - (1 + n) - 1 ≡ length r - n - 1 = omega arith in
        ap (λ t. option_and_then tag_of (from_last opening t)) split ∙ later (or_from (b == opening) (has opening s) apart free)
        ∙ ap tag_of (sym (place false is ∙ ap (λ n. drop n (reverse r ++ back)) size))

-- ---- the end of a text

end_is : (t : Text) → last_byte t ≡ closing → unended t ++ closing ∷ [] ≡ t
end_is [] last = cc
end_is (b ∷ t) last =
    let n = length t in
    let same : suc n - 1 ≡ n = omega arith in
    let one : drop n (b ∷ t) ≡ get_or (b ∷ t) n 0 ∷ drop (n + 1) (b ∷ t) = drop_more (b ∷ t) n 0 (omega arith) in
    let none : drop (n + 1) (b ∷ t) ≡ [] = drop_all (n + 1) (b ∷ t) (omega arith) in
    let rest : drop n (b ∷ t) ≡ closing ∷ [] =
    one ∙ ap (λ u. get_or (b ∷ t) n 0 ∷ u) none ∙ ap (λ i. get_or (b ∷ t) i 0 ∷ []) (sym same) ∙ ap (λ c. c ∷ []) last in
    ap (λ i. take i (b ∷ t) ++ closing ∷ []) same ∙ ap (λ u. take n (b ∷ t) ++ u) (sym rest) ∙ take-append-drop n (b ∷ t)

pub tag_from_bracket : (t : Text) → last_byte t ≡ closing → option_and_then tag_of (from_last opening t) ≡ tag_of (from_bracket t)
tag_from_bracket t last =
    let front = unended t in
    let whole : front ++ closing ∷ [] ≡ t = end_is t last in
    let turned : reverse (reverse front) ≡ front = reverse-reverse front in
    let size : length (reverse front) ≡ length front = length-reverse front in
    ap (λ u. option_and_then tag_of (from_last opening u)) (sym whole)
    ∙ ap (λ u. option_and_then tag_of (from_last opening (u ++ closing ∷ []))) (sym turned)
    ∙ found (reverse front) [] refl
    ∙ ap (λ u. tag_of (at_bracket (reverse front) (u ++ closing ∷ []))) turned
    ∙ ap (λ u. tag_of (at_bracket (reverse front) u)) whole
    ∙ ap (λ n. tag_of (drop (n - inner_length front - 1) t)) size

same_last : (n : ℕ) (t : Text) → 0 < n → last_byte t ≡ closing → last_byte (last_bytes n t) ≡ closing
same_last n [] some last = cc
same_last n (b ∷ t) some last =
    let k = suc (length t) - n in
    let size = length-drop k (b ∷ t) in
    get_or-drop k (b ∷ t) (length (drop k (b ∷ t)) - 1) 0 ∙ ap (λ i. get_or (b ∷ t) i 0) (omega (arith, size, some)) ∙ last

pub tag_length_is : (t : Text) → last_byte t ≡ closing → tag_length t ≡ tag_of (from_bracket (last_bytes 224 t))
unfolding tag_length
tag_length_is t last =
    ap (λ b. cond b (option_and_then tag_of (from_last opening (last_bytes 224 t))) None) (eq-eqb (last_byte t) closing last)
    ∙ tag_from_bracket (last_bytes 224 t) (same_last 224 t (omega arith) last)
