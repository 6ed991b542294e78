-- What follows for whole titles.
use Rattle.std.proofs.Common.{◌≡◌, ◌≤◌, false, Option, Some, None, length, refl, ◌++◌}
use Rattle.std.specs.Prelude.{codes}
use Rattle.std.specs.Str.{IsUtf8}
use Rattle.std.proofs.lemmas.Bool.{both_ways}
use Rattle.text_model.specs.Texts.{Text}
use Rattle.retraction_remarks.specs.Titles.{is_blank, without_one, without_remarks, IsRemarkFree, IsPartOf, has_word}
use Rattle.retraction_remarks.proofs.OneLess.{part_all, part_part, part_short, one_left, one_less}
use Rattle.retraction_remarks.proofs.Fixpoint.{all_kept, free_stays, rest_free}

pub wordless_free : (t : Text) → has_word t ≡ false → IsRemarkFree t
wordless_free t h = by_one (without_one t) refl
  where
    by_one : (o : Option Text) → without_one t ≡ o → o ≡ None
    by_one None e = refl
    by_one (Some u) e = absurd (both_ways (has_word t) h (one_less t u e).word)

pub wordless_stays : (t : Text) → has_word t ≡ false → without_remarks t ≡ t
wordless_stays t h = free_stays t (wordless_free t h)

-- the word is not in `Retraction of: `, nor at its end
pub notice_stays : (t : Text) → has_word t ≡ false → without_remarks (codes "Retraction of: " ++ t) ≡ codes "Retraction of: " ++ t
notice_stays t h = wordless_stays (codes "Retraction of: " ++ t) h

pub once : (t : Text) → without_remarks (without_remarks t) ≡ without_remarks t
once t = free_stays (without_remarks t) (rest_free t)

pub is_part : (t : Text) → IsPartOf t (without_remarks t)
is_part t = all_kept (IsPartOf t) (λ u v e part. part_part t u v part (one_less u v e).part) t (part_all t)

pub is_short : (t : Text) → length (without_remarks t) ≤ length t
is_short t = part_short t (without_remarks t) (is_part t)

pub is_utf8 : (t : Text) → IsUtf8 t → IsUtf8 (without_remarks t)
is_utf8 t is = all_kept IsUtf8 (λ u v e utf8. (one_less u v e).utf8 utf8) t is

pub is_filled : (t : Text) → is_blank t ≡ false → is_blank (without_remarks t) ≡ false
is_filled t h = all_kept (λ u. is_blank u ≡ false) (λ u v e filled. (one_left u v e).filled) t h
