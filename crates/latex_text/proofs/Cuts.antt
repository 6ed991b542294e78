-- Texts without the braces of a group.
use Rattle.std.proofs.Common.{◌≡◌, ℕ, suc, ◌<◌, ◌≤◌, [], ◌∷◌, ◌++◌, Bool, true, false, cond, Option, Some, None, length, take, drop, get_or}
use Rattle.std.proofs.Common.{refl, sym, ap, subst, arith}
use Rattle.std.specs.Prelude.{◌==◌, ◌||◌, not}
use Rattle.std.specs.List.{remove}
use Rattle.std.specs.Option.{option_map, unwrap_or}
use Rattle.std.specs.Str.{IsUtf8}
use Rattle.std.proofs.lemmas.Bool.{eqb-true}
use Rattle.std.proofs.lemmas.List.{length-append, take_at, drop_at}
use Rattle.std.proofs.lemmas.Option.{same_Some}
use Rattle.std.proofs.lemmas.Str.{IsUtf8-append, IsUtf8-take, IsUtf8-drop, IsCharBoundary-before_ascii}
use Rattle.text_model.specs.Texts.{Text}
use Rattle.latex_text.specs.Places.{backslash, opening, closing, dollar}
use Rattle.latex_text.specs.Groups.{closing_at, opened, ungrouped}
use Rattle.latex_text.proofs.BaseLetters.{after_ascii}

-- ---- UTF-8

pub record AreCut (front rest : Text) : Type 0 where
  pub before : IsUtf8 front
  pub after : IsUtf8 rest

placed : (front : Text) (b : ℕ) (rest : Text) → get_or (front ++ b ∷ rest) (length front) 0 ≡ b
placed [] b rest = refl
placed (a ∷ front) b rest = placed front b rest

-- what is before a byte of ASCII, and what is after it
pub cut_at : (front : Text) (b : ℕ) (rest : Text) → b < 128 → IsUtf8 (front ++ b ∷ rest) → AreCut front rest
cut_at front b rest ascii utf8 =
    let all = length-append front (b ∷ rest) in
    let at : get_or (front ++ b ∷ rest) (length front) 0 < 128 = subst (λ c. c < 128) (sym (placed front b rest)) ascii in
    let edge = IsCharBoundary-before_ascii (front ++ b ∷ rest) (length front) (omega (arith, all)) at in
    let before = IsUtf8-take (front ++ b ∷ rest) (length front) utf8 edge in
    let after = IsUtf8-drop (front ++ b ∷ rest) (length front) utf8 edge in
    record {
      before = subst IsUtf8 (take_at front (b ∷ rest) (length front) refl) before;
      after = after_ascii b rest ascii (subst IsUtf8 (drop_at front (b ∷ rest) (length front) refl) after);
    }

-- ---- the end of a group

record IsEnd (t : Text) (n : ℕ) : Type 0 where
  pub is : t ≡ take n t ++ closing ∷ drop (suc n) t

or_false : (x y : Bool) → (x || y) ≡ false → y ≡ false
or_false true y h = cc
or_false false y h = h

is_end : (f : Bool) (t : Text) (n : ℕ) → closing_at f t ≡ Some n → IsEnd t n
is_end true [] n h = cc
is_end false [] n h = cc
is_end true (b ∷ t) n h = by_rest (closing_at (not (b == dollar)) t) refl h (is_end (not (b == dollar)) t)
  where
    by_rest : (o : Option ℕ) → closing_at (not (b == dollar)) t ≡ o → option_map suc o ≡ Some n
        → ((m : ℕ) → closing_at (not (b == dollar)) t ≡ Some m → IsEnd t m) → IsEnd (b ∷ t) n
    by_rest None e g others = cc
    by_rest (Some m) e g others = subst (IsEnd (b ∷ t)) (same_Some (suc m) n g) (record { is = ap (λ u. b ∷ u) (others m e).is })
is_end false (b ∷ t) n h = by_closing (b == closing) refl h (is_end (b == dollar) t)
  where
    by_rest : (o : Option ℕ) → closing_at (b == dollar) t ≡ o → option_map suc o ≡ Some n
        → ((m : ℕ) → closing_at (b == dollar) t ≡ Some m → IsEnd t m) → IsEnd (b ∷ t) n
    by_rest None e g others = cc
    by_rest (Some m) e g others = subst (IsEnd (b ∷ t)) (same_Some (suc m) n g) (record { is = ap (λ u. b ∷ u) (others m e).is })

    by_mark : (x : Bool) → cond x None (option_map suc (closing_at (b == dollar) t)) ≡ Some n
        → ((m : ℕ) → closing_at (b == dollar) t ≡ Some m → IsEnd t m) → IsEnd (b ∷ t) n
    by_mark true g others = cc
    by_mark false g others = by_rest (closing_at (b == dollar) t) refl g others

    by_closing : (x : Bool) → (b == closing) ≡ x
        → cond x (Some 0) (cond (b == backslash || b == opening) None (option_map suc (closing_at (b == dollar) t))) ≡ Some n
        → ((m : ℕ) → closing_at (b == dollar) t ≡ Some m → IsEnd t m) → IsEnd (b ∷ t) n
    by_closing true e g others = subst (IsEnd (b ∷ t)) (same_Some 0 n g) (record { is = ap (λ c. c ∷ t) (eqb-true b closing e) })
    by_closing false e g others = by_mark (b == backslash || b == opening) g others

pub record IsOpened (t u : Text) : Type 0 where
  pub short : suc (length u) ≡ length t
  pub utf8 : IsUtf8 t → IsUtf8 u

removed_is : (t : Text) (n : ℕ) → IsEnd t n → IsOpened t (remove t n)
removed_is t n end =
    let all : length t ≡ length (take n t ++ closing ∷ drop (suc n) t) = ap length end.is in
    let long = length-append (take n t) (closing ∷ drop (suc n) t) in
    let less = length-append (take n t) (drop (suc n) t) in
    record {
      short = omega (arith, all, long, less);
      utf8 = λ utf8.
          let cut : AreCut (take n t) (drop (suc n) t) = cut_at (take n t) closing (drop (suc n) t) (omega arith) (subst IsUtf8 end.is utf8) in
          IsUtf8-append (take n t) (drop (suc n) t) cut.before cut.after;
    }

pub opened_is : (t u : Text) → opened t ≡ Some u → IsOpened t u
opened_is t u h = by_end (closing_at false t) refl h
  where
    by_end : (o : Option ℕ) → closing_at false t ≡ o → option_map (λ n. remove t n) o ≡ Some u → IsOpened t u
    by_end None e g = cc
    by_end (Some n) e g = subst (IsOpened t) (same_Some (remove t n) u g) (removed_is t n (is_end false t n e))

-- ---- a group at the beginning

-- a property that a text without the braces of its group has too
kept : (P : Text → Type 0) (b : ℕ) (t : Text) → P (b ∷ t) → ((u : Text) → b ≡ opening → opened t ≡ Some u → P u) → P (ungrouped (b ∷ t))
kept P b t same each = by_group (b == opening) refl
  where
    by_opened : (o : Option Text) → opened t ≡ o → b ≡ opening → P (unwrap_or o (b ∷ t))
    by_opened None e is = same
    by_opened (Some u) e is = each u is e

    by_group : (x : Bool) → (b == opening) ≡ x → P (cond x (unwrap_or (opened t) (b ∷ t)) (b ∷ t))
    by_group true e = by_opened (opened t) refl (eqb-true b opening e)
    by_group false e = same

pub ungrouped_short : (t : Text) → length (ungrouped t) ≤ length t
ungrouped_short [] = omega arith
ungrouped_short (b ∷ t) =
    kept (λ u. length u ≤ length (b ∷ t)) b t (omega arith) (λ u is h. let less = (opened_is t u h).short in omega (arith, less))

pub ungrouped_utf8 : (t : Text) → IsUtf8 t → IsUtf8 (ungrouped t)
ungrouped_utf8 [] utf8 = utf8
ungrouped_utf8 (b ∷ t) utf8 =
    kept IsUtf8 b t utf8
    (λ u is h. (opened_is t u h).utf8 (after_ascii b t (subst (λ c. c < 128) (sym is) (omega arith)) utf8))
