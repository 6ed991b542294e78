-- Readings that settle.
use Rattle.std.proofs.Common.{◌≡◌, ◌≤◌, Bool, true, false, not, ◌&&◌, refl, sym, ap, ◌∙◌, length, arith}
use Rattle.std.specs.Prelude.{nat_le}
use Rattle.std.specs.Str.{IsUtf8, bytes_eq}
use Rattle.std.proofs.lemmas.Bool.{and_parts, cond-false, cond-true, cond_both, leb-true, not-true}
use Rattle.std.proofs.lemmas.Slice.Eq.{bytes_eq-Decides}
use Rattle.text_model.specs.Texts.{Text}
use Rattle.written_texts.specs.declared.readings.Role.{Role}
use Rattle.written_texts.specs.Readings.{is_blank, is_kept, settled_by, read_once, written}

-- ---- what a reading that counts is

record IsKept (text once again : Text) : Type 0 where
  same : again ≡ once
  filled : is_blank once ≡ false
  short : length once ≤ length text

kept_is : (text once again : Text) → is_kept text once again ≡ true → IsKept text once again
kept_is text once again h =
    let parts = and_parts (bytes_eq again once && not (is_blank once)) (nat_le (length once) (length text)) h in
    let first = and_parts (bytes_eq again once) (not (is_blank once)) parts.0 in
    record {
      same = (bytes_eq-Decides again once).0 first.0;
      filled = not-true (is_blank once) first.1;
      short = leb-true (length once) (length text) parts.1;
    }

-- what holds of a text, and of a reading that counts, holds in the end
either : (P : Text → Type 0) (read : Text → Text) (t : Text) → P t → (IsKept t (read t) (read (read t)) → P (read t)) → P (settled_by read t)
either P read t stays kept =
    cond_both (is_kept t (read t) (read (read t))) (read t) t P (λ e. kept (kept_is t (read t) (read (read t)) e)) (λ e. stays)

-- ---- twice is once

same_stays : (read : Text → Text) (t : Text) → read t ≡ t → settled_by read t ≡ t
same_stays read t h = either (λ u. u ≡ t) read t refl (λ kept. h)

settled_again : (read : Text → Text) (t : Text) → settled_by read (settled_by read t) ≡ settled_by read t
settled_again read t = by_kept (is_kept t (read t) (read (read t))) refl
  where
    by_kept : (b : Bool) → is_kept t (read t) (read (read t)) ≡ b → settled_by read (settled_by read t) ≡ settled_by read t
    by_kept true e =
        let is : settled_by read t ≡ read t = cond-true (is_kept t (read t) (read (read t))) (read t) t e in
        ap (settled_by read) is ∙ same_stays read (read t) (kept_is t (read t) (read (read t)) e).same ∙ sym is
    by_kept false e =
        let is : settled_by read t ≡ t = cond-false (is_kept t (read t) (read (read t))) (read t) t e in ap (settled_by read) is

pub once : (role : Role) (t : Text) → written role (written role t) ≡ written role t
unfolding written
once role t = settled_again (read_once role) t

pub read_stays : (role : Role) (t : Text) → read_once role t ≡ t → written role t ≡ t
unfolding written
read_stays role t h = same_stays (read_once role) t h

-- ---- bounds

pub is_utf8 : ((role : Role) (t : Text) → IsUtf8 t → IsUtf8 (read_once role t)) → (role : Role) (t : Text) → IsUtf8 t → IsUtf8 (written role t)
unfolding written
is_utf8 reads role t utf8 = either IsUtf8 (read_once role) t utf8 (λ kept. reads role t utf8)

pub is_short : (role : Role) (t : Text) → length (written role t) ≤ length t
unfolding written
is_short role t = either (λ u. length u ≤ length t) (read_once role) t (omega arith) (λ kept. kept.short)

pub is_filled : (role : Role) (t : Text) → is_blank t ≡ false → is_blank (written role t) ≡ false
unfolding written
is_filled role t filled = either (λ u. is_blank u ≡ false) (read_once role) t filled (λ kept. kept.filled)
