-- One byte after another.
use Rattle.std.proofs.Common.{◌≡◌, ℕ, zero, suc, ◌+◌, ◌≤◌, [], ◌∷◌, ◌++◌, Bool, true, false, None, length, take}
use Rattle.std.proofs.Common.{refl, sym, ap, ◌∙◌, subst, append-nil, append_assoc, arith}
use Rattle.std.specs.Str.{IsUtf8}
use Rattle.std.proofs.lemmas.Bool.{cond_both, cond-false, cond-true}
use Rattle.std.proofs.lemmas.List.{take-append-le, take_at, length-append}
use Rattle.text_model.specs.Texts.{Text}
use Rattle.title_markup.specs.Endings.{opening, ampersand, has}
use Rattle.title_markup.specs.Titles.{shortened, settled, read_after, read, is_blank, without_markup, IsMarkupFree}
use Rattle.title_markup.proofs.TextEnds.{has_not_before}
use Rattle.title_markup.proofs.Shortening.{HasFreeFronts, unclosed_none, unmarked_none}
use Rattle.title_markup.proofs.Settling.{free_settled, settled_free, settled_short, settled_utf8}

-- ---- texts without markup

pub nothing_free : IsMarkupFree []
nothing_free zero = unclosed_none [] refl
nothing_free (suc k) = unclosed_none [] refl

pub pushed_fronts : (front : Text) (b : ℕ) → IsMarkupFree front → HasFreeFronts (front ++ b ∷ [])
pushed_fronts front b free k h =
    let size = length-append front (b ∷ []) in
    ap shortened (take-append-le k front (b ∷ []) (omega (arith, size, h))) ∙ free k

pub pushed_free : (front : Text) (b : ℕ) → IsMarkupFree front → IsMarkupFree (settled (front ++ b ∷ []))
pushed_free front b free = settled_free (front ++ b ∷ []) (pushed_fronts front b free)

-- a text is as free as its front and its end
pub free_pushed : (front : Text) (b : ℕ) → IsMarkupFree front → shortened (front ++ b ∷ []) ≡ None → IsMarkupFree (front ++ b ∷ [])
free_pushed front b free end =
    subst IsMarkupFree (free_settled (front ++ b ∷ []) end) (pushed_free front b free)

pub read_free : (front t : Text) → IsMarkupFree front → IsMarkupFree (read_after front t)
read_free front [] free = free
read_free front (b ∷ t) free = read_free (settled (front ++ b ∷ [])) t (pushed_free front b free)

pub free_read : (front t : Text) → IsMarkupFree (front ++ t) → read_after front t ≡ front ++ t
free_read front [] free = sym (append-nil front)
free_read front (b ∷ t) free =
    let pushed : (front ++ b ∷ []) ++ t ≡ front ++ b ∷ t = append_assoc front (b ∷ []) t in
    let all = subst IsMarkupFree (sym pushed) free in
    let end : shortened (front ++ b ∷ []) ≡ None =
    ap shortened (sym (take_at (front ++ b ∷ []) t (length (front ++ b ∷ [])) refl)) ∙ all (length (front ++ b ∷ [])) in
    ap (λ u. read_after u t) (free_settled (front ++ b ∷ []) end) ∙ free_read (front ++ b ∷ []) t all ∙ pushed

pub unmarked_free : (t : Text) → has opening t ≡ false → has ampersand t ≡ false → IsMarkupFree t
unmarked_free t h g k = unmarked_none (take k t) (has_not_before opening k t h) (has_not_before ampersand k t g)

-- ---- whole texts

pub read_in_turn : (front s t : Text) → read_after front (s ++ t) ≡ read_after (read_after front s) t
read_in_turn front [] t = refl
read_in_turn front (b ∷ s) t = read_in_turn (settled (front ++ b ∷ [])) s t

read_short : (front t : Text) → length (read_after front t) ≤ length front + length t
read_short front [] = omega arith
read_short front (b ∷ t) =
    let size = length-append front (b ∷ []) in
    let less = settled_short (front ++ b ∷ []) in
    let rest = read_short (settled (front ++ b ∷ [])) t in
    omega (arith, size, less, rest)

read_utf8 : (front t : Text) → IsUtf8 (front ++ t) → IsUtf8 (read_after front t)
read_utf8 front [] utf8 = subst IsUtf8 (append-nil front) utf8
read_utf8 front (b ∷ t) utf8 =
    read_utf8 (settled (front ++ b ∷ [])) t
    (settled_utf8 (front ++ b ∷ []) t (subst IsUtf8 (sym (append_assoc front (b ∷ []) t)) utf8))

-- ---- titles

pub all_free : (t : Text) → IsMarkupFree (read t)
unfolding read
all_free t = read_free [] t nothing_free

free_same : (t : Text) → IsMarkupFree t → read t ≡ t
unfolding read
free_same t free = free_read [] t free

either : (P : Text → Type 0) (t : Text) → P t → P (read t) → P (without_markup t)
either P t same other = cond_both (is_blank (read t)) t (read t) P (λ _. same) (λ _. other)

pub free_stays : (t : Text) → IsMarkupFree t → without_markup t ≡ t
free_stays t free = either (λ u. u ≡ t) t refl (free_same t free)

pub unmarked_stays : (t : Text) → has opening t ≡ false → has ampersand t ≡ false → without_markup t ≡ t
unmarked_stays t h g = free_stays t (unmarked_free t h g)

pub read_once : (t : Text) → read (read t) ≡ read t
read_once t = free_same (read t) (all_free t)

pub once : (t : Text) → without_markup (without_markup t) ≡ without_markup t
once t = by_blank (is_blank (read t)) refl
  where
    by_blank : (b : Bool) → is_blank (read t) ≡ b → without_markup (without_markup t) ≡ without_markup t
    by_blank true e =
        let same : without_markup t ≡ t = cond-true (is_blank (read t)) t (read t) e in ap (λ u. without_markup u) same
    by_blank false e =
        let other : without_markup t ≡ read t = cond-false (is_blank (read t)) t (read t) e in
        ap (λ u. without_markup u) other ∙ free_stays (read t) (all_free t) ∙ sym other

read_less : (t : Text) → length (read t) ≤ length t
unfolding read
read_less t = omega (arith, read_short [] t)

pub short : (t : Text) → length (without_markup t) ≤ length t
short t = either (λ u. length u ≤ length t) t (omega arith) (read_less t)

all_utf8 : (t : Text) → IsUtf8 t → IsUtf8 (read t)
unfolding read
all_utf8 t utf8 = read_utf8 [] t utf8

pub is_utf8 : (t : Text) → IsUtf8 t → IsUtf8 (without_markup t)
is_utf8 t utf8 = either IsUtf8 t utf8 (all_utf8 t utf8)

pub is_filled : (t : Text) → is_blank t ≡ false → is_blank (without_markup t) ≡ false
is_filled t filled = cond_both (is_blank (read t)) t (read t) (λ u. is_blank u ≡ false) (λ _. filled) (λ e. e)

-- ---- texts of which the readings are the same

pub same_filled : (t u : Text) → read t ≡ read u → is_blank (read t) ≡ false → without_markup t ≡ without_markup u
same_filled t u same filled =
    cond-false (is_blank (read t)) t (read t) filled ∙ same
    ∙ sym (cond-false (is_blank (read u)) u (read u) (ap (λ s. is_blank s) (sym same) ∙ filled))
