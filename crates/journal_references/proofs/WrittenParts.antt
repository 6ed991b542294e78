-- The parts of a reference as it is written are read.
use Rattle.std.proofs.Common.{◌≡◌, ℕ, ◌+◌, List, [], ◌∷◌, ◌++◌, false, ◌&&◌, cond, Option, Some, None, length, take, drop}
use Rattle.std.proofs.Common.{refl, sym, ap, ◌∙◌, append-nil}
use Rattle.std.specs.Prelude.{unwrap_or, nat_lt}
use Rattle.std.specs.Option.{option_and_then, option_map}
use Rattle.std.proofs.lemmas.List.{take_at, drop_at}
use Rattle.text_model.specs.Texts.{Text}
use Rattle.journal_references.specs.declared.words.Word.{Word}
use Rattle.journal_references.specs.declared.words.Word.TheVariants.{OfVolume, OfIssue, OfPages}
use Rattle.journal_references.specs.declared.pieces.Piece.{Piece}
use Rattle.journal_references.specs.declared.pieces.Piece.TheVariants.{Volume, Inner, Pages, Year, Days}
use Rattle.journal_references.specs.declared.parts.Part.{Part}
use Rattle.journal_references.specs.declared.parts.Part.TheVariants.{Sign, Mark, Month, NoDay, Maybe, Read}
use Rattle.journal_references.specs.declared.groups.Group.{Group}
use Rattle.journal_references.specs.declared.groups.Group.TheVariants.{AnyVolume, InBrackets, AnyPages, YearAfterComma, YearInBrackets}
use Rattle.journal_references.specs.Pieces.{is_year, piece_length}
use Rattle.journal_references.specs.Dates.{begins_with_month}
use Rattle.journal_references.specs.Parts.{spaces, sign_after, Match, unread, with_piece, with_part, match_part, match_parts}
use Rattle.journal_references.specs.Forms.{parts, forms, match_groups, or_other, first_match, match_form}
use Rattle.journal_references.specs.Written.{IsWhole}
use Rattle.journal_references.proofs.Beginnings.{volume_first}
use Rattle.journal_references.proofs.WrittenPieces.{HasDigit, digit_front, digit_no_opening, no_spaces, no_word, piece_then, piece_whole}
use Rattle.journal_references.proofs.WrittenPieces.{no_year_in, day_none, month_none}

-- ---- parts

abbrev pub found : Option Text → Option Text → Option Text → Text → Match
found volume issue pages rest = record { volume = volume; issue = issue; pages = pages; year = None; rest = rest }

read_piece : (p : Piece) (t s : Text) (m : Match) → m.rest ≡ t ++ s → piece_length p (t ++ s) ≡ Some (length t)
    → match_part (Read p) m ≡ Some (with_piece p t s m)
read_piece p t s m e h =
    ap (λ x. option_map (λ n. with_piece p (take n x) (drop n x) m) (piece_length p x)) e
    ∙ ap (λ o. option_map (λ n. with_piece p (take n (t ++ s)) (drop n (t ++ s)) m) o) h
    ∙ ap (λ x. Some (with_piece p x (drop (length t) (t ++ s)) m)) (take_at t s (length t) refl)
    ∙ ap (λ x. Some (with_piece p t x m)) (drop_at t s (length t) refl)

skip_word : (word : Word) (v i p : Option Text) (t : Text) → HasDigit t → match_part (Maybe word) (found v i p t) ≡ Some (found v i p t)
skip_word word v i p t h = ap (λ o. Some (found v i p (drop (unwrap_or o 0) t))) (no_word word t h)

step : (part : Part) (list : List Part) (m u : Match) → match_part part m ≡ Some u → match_parts (part ∷ list) m ≡ match_parts list u
step part list m u e = ap (λ o. option_and_then (match_parts list) o) e

stop : (part : Part) (list : List Part) (m : Match) → match_part part m ≡ None → match_parts (part ∷ list) m ≡ None
stop part list m e = ap (λ o. option_and_then (match_parts list) o) e

opening_read : (v : Option Text) (t : Text) → HasDigit t → match_part (Sign 0x28) (found v None None (0x28 ∷ t)) ≡ Some (found v None None t)
opening_read v t h = ap (λ k. Some (found v None None (drop (0 + 1 + k) (0x28 ∷ t)))) (no_spaces t h)

comma_read : (v i p : Option Text) (t : Text) → HasDigit t → match_part (Sign 0x2c) (found v i p (0x2c ∷ 0x20 ∷ t)) ≡ Some (found v i p t)
comma_read v i p t h = ap (λ k. Some (found v i p (drop (0 + 1 + (1 + k)) (0x2c ∷ 0x20 ∷ t)))) (no_spaces t h)

mark_read : (v i p : Option Text) (t : Text) → HasDigit t → match_part Mark (found v i p (0x2c ∷ 0x20 ∷ t)) ≡ Some (found v i p t)
mark_read v i p t h = ap (λ k. Some (found v i p (drop (0 + 1 + (1 + k)) (0x2c ∷ 0x20 ∷ t)))) (no_spaces t h)

no_month : (v i p : Option Text) (t : Text) → IsWhole Pages t → HasDigit t → match_part Month (found v i p t) ≡ Some (found v i p t)
no_month v i p t whole h = ap (λ k. Some (found v i p (drop k t))) (month_none t whole h)

no_day : (v i p : Option Text) (t : Text) → IsWhole Pages t → match_part NoDay (found v i p t) ≡ Some (found v i p t)
no_day v i p t whole =
    let m = found v i p t in
    ap (λ n. option_map (λ k. with_part NoDay (take k t) (drop k t) m) (cond (nat_lt 0 n && begins_with_month (drop n t)) None (Some 0))) (day_none t whole)

no_opening : (v i p : Option Text) (t : Text) → HasDigit t → match_part (Sign 0x28) (found v i p t) ≡ None
no_opening v i p [] h = cc
no_opening v i p (b ∷ t) h =
    let m = found v i p (b ∷ t) in
    let take_some : Option ℕ → Option Match = option_map (λ n. with_part (Sign 0x28) (take n (b ∷ t)) (drop n (b ∷ t)) m) in
    ap (λ k. take_some (sign_after k 0x28 (drop k (b ∷ t)))) (no_spaces (b ∷ t) h)
    ∙ ap (λ c. take_some (cond c (Some (0 + 1 + spaces t)) None)) (digit_no_opening b h)

-- ---- groups

volume_read : (v : Text) (r : Text) → IsWhole Volume v
    → match_parts (parts AnyVolume) (unread (v ++ 0x28 ∷ r)) ≡ Some (found (Some v) None None (0x28 ∷ r))
volume_read v r whole =
    let t : Text = v ++ 0x28 ∷ r in
    let m = found None None None t in
    step (Maybe OfVolume) (Read Volume ∷ []) m m (skip_word OfVolume None None None t (digit_front v (0x28 ∷ r) (volume_first v whole.1)))
    ∙ step (Read Volume) [] m (found (Some v) None None (0x28 ∷ r)) (read_piece Volume v (0x28 ∷ r) m refl (piece_then Volume v 0x28 r whole refl))

issue_read : (v i r : Text) → IsWhole Inner i → HasDigit i
    → match_parts (parts InBrackets) (found (Some v) None None (0x28 ∷ (i ++ 0x29 ∷ 0x2c ∷ r))) ≡ Some (found (Some v) (Some i) None (0x2c ∷ r))
issue_read v i r whole h =
    let s : Text = 0x29 ∷ 0x2c ∷ r in
    let t : Text = i ++ s in
    let digit = digit_front i s h in
    let m = found (Some v) None None t in
    let u = found (Some v) (Some i) None s in
    step (Sign 0x28) (Maybe OfIssue ∷ Read Inner ∷ Sign 0x29 ∷ []) (found (Some v) None None (0x28 ∷ t)) m (opening_read (Some v) t digit)
    ∙ step (Maybe OfIssue) (Read Inner ∷ Sign 0x29 ∷ []) m m (skip_word OfIssue (Some v) None None t digit)
    ∙ step (Read Inner) (Sign 0x29 ∷ []) m u (read_piece Inner i s m refl (piece_then Inner i 0x29 (0x2c ∷ r) whole refl))
    ∙ step (Sign 0x29) [] u (found (Some v) (Some i) None (0x2c ∷ r)) refl

pages_read : (v i p : Text) → IsWhole Pages p → HasDigit p
    → match_parts (parts AnyPages) (found (Some v) (Some i) None (0x2c ∷ 0x20 ∷ p)) ≡ Some (found (Some v) (Some i) (Some p) [])
pages_read v i p whole h =
    let m = found (Some v) (Some i) None p in
    step Mark (NoDay ∷ Maybe OfPages ∷ Maybe OfIssue ∷ Read Pages ∷ []) (found (Some v) (Some i) None (0x2c ∷ 0x20 ∷ p)) m
    (mark_read (Some v) (Some i) None p h)
    ∙ step NoDay (Maybe OfPages ∷ Maybe OfIssue ∷ Read Pages ∷ []) m m (no_day (Some v) (Some i) None p whole)
    ∙ step (Maybe OfPages) (Maybe OfIssue ∷ Read Pages ∷ []) m m (skip_word OfPages (Some v) (Some i) None p h)
    ∙ step (Maybe OfIssue) (Read Pages ∷ []) m m (skip_word OfIssue (Some v) (Some i) None p h)
    ∙ step (Read Pages) [] m (found (Some v) (Some i) (Some p) [])
    (read_piece Pages p [] m (sym (append-nil p)) (ap (λ x. piece_length Pages x) (append-nil p) ∙ piece_whole Pages p whole))

year_missing : (v i p : Text) → IsWhole Pages p → HasDigit p → is_year p ≡ false
    → match_parts (parts YearAfterComma) (found (Some v) (Some i) None (0x2c ∷ 0x20 ∷ p)) ≡ None
year_missing v i p whole h other =
    let m = found (Some v) (Some i) None p in
    step (Sign 0x2c) (Month ∷ Read Year ∷ []) (found (Some v) (Some i) None (0x2c ∷ 0x20 ∷ p)) m (comma_read (Some v) (Some i) None p h)
    ∙ step Month (Read Year ∷ []) m m (no_month (Some v) (Some i) None p whole h)
    ∙ stop (Read Year) [] m (ap (λ o. option_map (λ n. with_piece Year (take n p) (drop n p) m) o) (no_year_in p whole other))

brackets_missing : (v i p : Text) → HasDigit p
    → match_parts (parts YearInBrackets) (found (Some v) (Some i) None (0x2c ∷ 0x20 ∷ p)) ≡ None
brackets_missing v i p h =
    let m = found (Some v) (Some i) None p in
    let list : List Part = Month ∷ Read Year ∷ Read Days ∷ Sign 0x29 ∷ [] in
    step Mark (Sign 0x28 ∷ list) (found (Some v) (Some i) None (0x2c ∷ 0x20 ∷ p)) m (mark_read (Some v) (Some i) None p h)
    ∙ stop (Sign 0x28) list m (no_opening (Some v) (Some i) None p h)

-- ---- forms

group_step : (group : Group) (form : List Group) (m u : Match) → match_parts (parts group) m ≡ Some u
    → match_groups (group ∷ form) m ≡ match_groups form u
group_step group form m u e = ap (λ o. option_and_then (match_groups form) o) e

group_stop : (group : Group) (form : List Group) (m : Match) → match_parts (parts group) m ≡ None → match_groups (group ∷ form) m ≡ None
group_stop group form m e = ap (λ o. option_and_then (match_groups form) o) e

sixth : (o₁ o₂ o₃ o₄ o₅ o₆ rest : Option Match) (m : Match) → o₁ ≡ None → o₂ ≡ None → o₃ ≡ None → o₄ ≡ None → o₅ ≡ None → o₆ ≡ Some m
    → or_other o₁ (or_other o₂ (or_other o₃ (or_other o₄ (or_other o₅ (or_other o₆ rest))))) ≡ Some m
sixth o₁ o₂ o₃ o₄ o₅ o₆ rest m e₁ e₂ e₃ e₄ e₅ e₆ = rw (e₁, e₂, e₃, e₄, e₅, e₆) refl

pub form_read : (v i p : Text) → IsWhole Volume v → IsWhole Inner i → HasDigit i → IsWhole Pages p → HasDigit p → is_year p ≡ false
    → match_form (v ++ (0x28 ∷ (i ++ (0x29 ∷ 0x2c ∷ 0x20 ∷ p)))) ≡ Some (found (Some v) (Some i) (Some p) [])
form_read v i p volume issue issue_digit pages pages_digit other =
    let t : Text = v ++ (0x28 ∷ (i ++ (0x29 ∷ 0x2c ∷ 0x20 ∷ p))) in
    let m = found (Some v) (Some i) None (0x2c ∷ 0x20 ∷ p) in
    let u = found (Some v) (Some i) (Some p) [] in
    let after : (form : List Group) → match_groups (AnyVolume ∷ InBrackets ∷ form) (unread t) ≡ match_groups form m =
    λ form.
    group_step AnyVolume (InBrackets ∷ form) (unread t) (found (Some v) None None (0x28 ∷ (i ++ (0x29 ∷ 0x2c ∷ 0x20 ∷ p))))
    (volume_read v (i ++ (0x29 ∷ 0x2c ∷ 0x20 ∷ p)) volume)
    ∙ group_step InBrackets form (found (Some v) None None (0x28 ∷ (i ++ (0x29 ∷ 0x2c ∷ 0x20 ∷ p)))) m (issue_read v i (0x20 ∷ p) issue issue_digit) in
    let with_pages : (form : List Group) → match_groups (AnyPages ∷ form) m ≡ match_groups form u =
    λ form. group_step AnyPages form m u (pages_read v i p pages pages_digit) in
    let no_year = year_missing v i p pages pages_digit other in
    sixth (match_groups (AnyVolume ∷ InBrackets ∷ YearInBrackets ∷ AnyPages ∷ []) (unread t))
    (match_groups (AnyVolume ∷ InBrackets ∷ YearAfterComma ∷ AnyPages ∷ []) (unread t))
    (match_groups (AnyVolume ∷ InBrackets ∷ AnyPages ∷ YearInBrackets ∷ []) (unread t))
    (match_groups (AnyVolume ∷ InBrackets ∷ AnyPages ∷ YearAfterComma ∷ []) (unread t))
    (match_groups (AnyVolume ∷ InBrackets ∷ YearAfterComma ∷ []) (unread t))
    (match_groups (AnyVolume ∷ InBrackets ∷ AnyPages ∷ []) (unread t)) (first_match (drop 6 forms) t) u
    (after (YearInBrackets ∷ AnyPages ∷ []) ∙ group_stop YearInBrackets (AnyPages ∷ []) m (brackets_missing v i p pages_digit))
    (after (YearAfterComma ∷ AnyPages ∷ []) ∙ group_stop YearAfterComma (AnyPages ∷ []) m no_year)
    (after (AnyPages ∷ YearInBrackets ∷ []) ∙ with_pages (YearInBrackets ∷ []))
    (after (AnyPages ∷ YearAfterComma ∷ []) ∙ with_pages (YearAfterComma ∷ []))
    (after (YearAfterComma ∷ []) ∙ group_stop YearAfterComma [] m no_year)
    (after (AnyPages ∷ []) ∙ with_pages [])
