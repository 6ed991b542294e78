-- Bytes with which no markup ends, and the end of a text without markup.
use Rattle.std.proofs.Common.{◌≡◌, ℕ, suc, ◌<◌, [], ◌∷◌, ◌++◌, false, None, length, get_or}
use Rattle.std.proofs.Common.{refl, sym, ap, ◌∙◌, subst, append-nil, append_assoc, arith}
use Rattle.std.specs.Prelude.{◌==◌}
use Rattle.std.specs.List.{list_any}
use Rattle.std.proofs.lemmas.Bool.{or_parts, or_from}
use Rattle.std.proofs.lemmas.List.{take_all}
use Rattle.std.proofs.lemmas.List.Folds.{list_any-append}
use Rattle.text_model.specs.Texts.{Text}
use Rattle.title_markup.specs.Endings.{is_closing, has}
use Rattle.title_markup.specs.Titles.{shortened, read_after, IsMarkupFree}
use Rattle.title_markup.proofs.TextEnds.{last_of}
use Rattle.title_markup.proofs.Shortening.{unclosed_none}
use Rattle.title_markup.proofs.Settling.{free_settled}
use Rattle.title_markup.proofs.Reading.{free_pushed, read_free}

pub has_not_both : (mark : ℕ) (s t : Text) → has mark s ≡ false → has mark t ≡ false → has mark (s ++ t) ≡ false
has_not_both mark s t h g = list_any-append (λ b. b == mark) s t ∙ or_from _ _ h g

pub ends_free : (t : Text) → IsMarkupFree t → shortened t ≡ None
ends_free t free = ap shortened (sym (take_all (length t) t (omega arith))) ∙ free (length t)

-- bytes with which no markup ends are appended
pub open_read : (front s : Text) → IsMarkupFree front → list_any is_closing s ≡ false → read_after front s ≡ front ++ s
open_read front [] free h = sym (append-nil front)
open_read front (b ∷ s) free h =
    let parts = or_parts (is_closing b) (list_any is_closing s) h in
    let end : shortened (front ++ b ∷ []) ≡ None =
    unclosed_none (front ++ b ∷ []) (ap is_closing (last_of front b) ∙ parts.0) in
    ap (λ u. read_after u s) (free_settled (front ++ b ∷ []) end)
    ∙ open_read (front ++ b ∷ []) s (free_pushed front b free end) parts.1 ∙ append_assoc front (b ∷ []) s

pub open_free : (front s : Text) → IsMarkupFree front → list_any is_closing s ≡ false → IsMarkupFree (front ++ s)
open_free front s free h = subst IsMarkupFree (open_read front s free h) (read_free front s free)

pub none_close : (s : Text) → ((k : ℕ) → k < length s → is_closing (get_or s k 0) ≡ false) → list_any is_closing s ≡ false
none_close [] each = refl
none_close (b ∷ s) each =
    or_from (is_closing b) (list_any is_closing s) (each 0 (omega arith)) (none_close s (λ k h. each (suc k) (omega (arith, h))))
