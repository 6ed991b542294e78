-- The ends of texts.
use Rattle.std.proofs.Common.{◌≡◌, ℕ, zero, suc, ◌+◌, ◌-◌, ◌<◌, ◌≤◌, [], ◌∷◌, ◌++◌, Bool, true, false, cond, Option, Some, None, length, get_or, take, drop}
use Rattle.std.proofs.Common.{refl, sym, ap, ◌∙◌, subst, arith}
use Rattle.std.specs.Prelude.{◌==◌}
use Rattle.std.specs.Str.{IsUtf8}
use Rattle.std.proofs.lemmas.Bool.{eqb-true, eq-eqb, ne_eqb, or_parts, or_from}
use Rattle.std.proofs.lemmas.List.{drop_more, drop-append-le, take-append-le, length-append, length-drop, drop-drop, get_or-drop, get_or_append_left, drop_at}
use Rattle.std.proofs.lemmas.Option.{same_Some}
use Rattle.std.proofs.lemmas.Str.{IsUtf8-take, IsUtf8-drop, IsCharBoundary-before_ascii, IsCharBoundary-after_ascii}
use Rattle.text_model.specs.Texts.{Text}
use Rattle.title_markup.specs.Endings.{last_byte, last_bytes, or_other, from_last, has}

-- ---- one byte more of a text

or_some : (o p : Option Text) (s : Text) → or_other (or_other o (Some s)) p ≡ or_other o (Some s)
or_some None p s = refl
or_some (Some t) p s = refl

or_none : (o p : Option Text) → or_other (or_other o None) p ≡ or_other o p
or_none None p = refl
or_none (Some t) p = refl

pub found_here : (mark : ℕ) (t : Text) (i : ℕ) (o : Option Text) → i < length t → get_or t i 0 ≡ mark
    → or_other (from_last mark (drop (i + 1) t)) (Some (drop i t)) ≡ or_other (from_last mark (drop i t)) o
found_here mark t i o h e =
    let split : drop i t ≡ get_or t i 0 ∷ drop (i + 1) t = drop_more t i 0 h in
    let later = from_last mark (drop (i + 1) t) in
    let here : (get_or t i 0 == mark) ≡ true = eq-eqb (get_or t i 0) mark e in
    sym (ap (λ s. or_other (from_last mark s) o) split
    ∙ ap (λ b. or_other (or_other later (cond b (Some (get_or t i 0 ∷ drop (i + 1) t)) None)) o) here
    ∙ or_some later o (get_or t i 0 ∷ drop (i + 1) t) ∙ ap (λ s. or_other later (Some s)) (sym split))

pub found_later : (mark : ℕ) (t : Text) (i : ℕ) (o : Option Text) → i < length t → (get_or t i 0 ≡ mark → ⊥)
    → or_other (from_last mark (drop (i + 1) t)) o ≡ or_other (from_last mark (drop i t)) o
found_later mark t i o h e =
    let split : drop i t ≡ get_or t i 0 ∷ drop (i + 1) t = drop_more t i 0 h in
    let later = from_last mark (drop (i + 1) t) in
    let here : (get_or t i 0 == mark) ≡ false = ne_eqb (get_or t i 0) mark e in
    sym (ap (λ s. or_other (from_last mark s) o) split
    ∙ ap (λ b. or_other (or_other later (cond b (Some (get_or t i 0 ∷ drop (i + 1) t)) None)) o) here ∙ or_none later o)

pub ruleset found_steps = (found_here, found_later)

-- ---- the text from a byte on

pub record IsFrom (mark : ℕ) (t s : Text) : Type 0 where
  pub at : ℕ
  pub within : at < length t
  pub rest : s ≡ drop at t
  pub first : get_or t at 0 ≡ mark

pub from_of : (mark : ℕ) (t s : Text) → from_last mark t ≡ Some s → IsFrom mark t s
from_of mark [] s h = cc
from_of mark (b ∷ t) s h = by_later (from_last mark t) (from_of mark t) h
  where
    by_here : (c : Bool) → (b == mark) ≡ c → cond c (Some (b ∷ t)) None ≡ Some s → IsFrom mark (b ∷ t) s
    by_here true e g = record {
      at = 0;
      within = omega arith;
      rest = sym (same_Some (b ∷ t) s g);
      first = eqb-true b mark e;
    }
    by_here false e g = cc

    by_later : (o : Option Text) → ((u : Text) → o ≡ Some u → IsFrom mark t u)
        → or_other o (cond (b == mark) (Some (b ∷ t)) None) ≡ Some s → IsFrom mark (b ∷ t) s
    by_later None each g = by_here (b == mark) refl g
    by_later (Some u) each g =
        let from = each u refl in
        record {
          at = suc from.at;
          within = omega (arith, from.within);
          rest = sym (same_Some u s g) ∙ from.rest;
          first = from.first;
        }

-- a text ends with another one, which begins with the last mark
pub record EndsFrom (mark : ℕ) (t s : Text) : Type 0 where
  pub at : ℕ
  pub within : at < length t
  pub size : length s + at ≡ length t
  pub first : get_or t at 0 ≡ mark
  pub begins : get_or s 0 0 ≡ mark

pub ends_from : (mark n : ℕ) (t s : Text) → from_last mark (last_bytes n t) ≡ Some s → EndsFrom mark t s
ends_from mark n t s h =
    let from : IsFrom mark (last_bytes n t) s = from_of mark (last_bytes n t) s h in
    let skipped = length t - n in
    let left = length-drop skipped t in
    let all : length s ≡ length t - (skipped + from.at) =
    ap length (from.rest ∙ drop-drop from.at skipped t) ∙ length-drop (skipped + from.at) t in
    let within = from.within in
    let first : get_or t (skipped + from.at) 0 ≡ mark = sym (get_or-drop skipped t from.at 0) ∙ from.first in
    record {
      at = skipped + from.at;
      within = omega (arith, left, within);
      size = omega (arith, left, within, all);
      first = first;
      begins =
          ap (λ u. get_or u 0 0) from.rest ∙ get_or-drop from.at (last_bytes n t) 0 0
          ∙ ap (λ k. get_or (last_bytes n t) k 0) (omega arith) ∙ from.first;
    }

pub none_from : (mark : ℕ) (t : Text) → has mark t ≡ false → from_last mark t ≡ None
none_from mark [] h = refl
none_from mark (b ∷ t) h =
    let parts = or_parts (b == mark) (has mark t) h in
    ap (λ o. or_other o (cond (b == mark) (Some (b ∷ t)) None)) (none_from mark t parts.1)
    ∙ ap (λ c. cond c (Some (b ∷ t)) None) parts.0

-- the mark is in no place after this one
pub from_place : (mark : ℕ) (front rest : Text) → has mark rest ≡ false → from_last mark (front ++ mark ∷ rest) ≡ Some (mark ∷ rest)
from_place mark [] rest h =
    ap (λ o. or_other o (cond (mark == mark) (Some (mark ∷ rest)) None)) (none_from mark rest h)
    ∙ ap (λ c. cond c (Some (mark ∷ rest)) None) (eq-eqb mark mark refl)
from_place mark (b ∷ front) rest h =
    ap (λ o. or_other o (cond (b == mark) (Some (b ∷ front ++ mark ∷ rest)) None)) (from_place mark front rest h)

pub lasts : (n : ℕ) (front rest : Text) → length rest ≤ n
    → last_bytes n (front ++ rest) ≡ drop (length (front ++ rest) - n) front ++ rest
lasts n front rest h =
    let all = length-append front rest in
    drop-append-le (length (front ++ rest) - n) front rest (omega (arith, all))

pub last_of : (front : Text) (b : ℕ) → last_byte (front ++ b ∷ []) ≡ b
last_of front b =
    let all : length (front ++ b ∷ []) - 1 ≡ length front = omega (arith, length-append front (b ∷ [])) in
    ap (λ k. get_or (front ++ b ∷ []) k 0) all ∙ placed front
  where
    placed : (front : Text) → get_or (front ++ b ∷ []) (length front) 0 ≡ b
    placed [] = refl
    placed (a ∷ front) = placed front

-- ---- bytes that a text does not have

pub has_not_after : (mark : ℕ) (n : ℕ) (t : Text) → has mark t ≡ false → has mark (drop n t) ≡ false
has_not_after mark zero t h = h
has_not_after mark (suc n) [] h = h
has_not_after mark (suc n) (b ∷ t) h = has_not_after mark n t (or_parts (b == mark) (has mark t) h).1

pub has_not_before : (mark : ℕ) (n : ℕ) (t : Text) → has mark t ≡ false → has mark (take n t) ≡ false
has_not_before mark zero t h = refl
has_not_before mark (suc n) [] h = refl
has_not_before mark (suc n) (b ∷ t) h =
    let parts = or_parts (b == mark) (has mark t) h in
    or_from (b == mark) (has mark (take n t)) parts.0 (has_not_before mark n t parts.1)

-- ---- UTF-8

pub record AreCut (front rest : Text) : Type 0 where
  pub before : IsUtf8 front
  pub after : IsUtf8 rest

-- what is before a mark of ASCII, and what is after it
pub cut_utf8 : (t rest : Text) (at : ℕ) → at < length t → get_or t at 0 < 128 → last_byte t < 128 → IsUtf8 (t ++ rest)
    → AreCut (take at t) rest
cut_utf8 t rest at within first last utf8 =
    let all = length-append t rest in
    let end : (length t - 1) + 1 ≡ length t = omega (arith, within) in
    let begins : get_or (t ++ rest) at 0 < 128 = subst (λ b. b < 128) (sym (get_or_append_left t rest 0 at within)) first in
    let ends : get_or (t ++ rest) (length t - 1) 0 < 128 =
    subst (λ b. b < 128) (sym (get_or_append_left t rest 0 (length t - 1) (omega (arith, within)))) last in
    let front = IsUtf8-take (t ++ rest) at utf8 (IsCharBoundary-before_ascii (t ++ rest) at (omega (arith, all, within)) begins) in
    let back =
    IsUtf8-drop (t ++ rest) ((length t - 1) + 1) utf8
    (IsCharBoundary-after_ascii (t ++ rest) (length t - 1) utf8 (omega (arith, all, within)) ends) in
    record {
      before = subst IsUtf8 (take-append-le at t rest (omega (arith, within))) front;
      after = subst IsUtf8 (ap (λ k. drop k (t ++ rest)) end ∙ drop_at t rest (length t) refl) back;
    }
