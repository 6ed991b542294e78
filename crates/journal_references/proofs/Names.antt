-- The name before a reference.
use Rattle.std.proofs.Common.{◌≡◌, ℕ, ◌+◌, ◌-◌, ◌<◌, ◌≤◌, List, [], ◌∷◌, Bool, true, false, Some}
use Rattle.std.proofs.Common.{length, get_or, take, drop, reverse, refl, sym, ap, ◌∙◌, subst, arith}
use Rattle.std.specs.Char.{is_ascii_alphanumeric, is_ascii_digit}
use Rattle.std.specs.List.{suffix_len}
use Rattle.std.specs.Str.{IsUtf8, IsCharBoundary}
use Rattle.std.proofs.Common.{ltb}
use Rattle.std.proofs.lemmas.Bool.{and_parts, ltb-true, ltb-false}
use Rattle.std.proofs.lemmas.Bool.Decides.{nat_tests}
use Rattle.std.proofs.lemmas.List.{take-take, length-take, get_or-take, get_or-drop, get_or-reverse, get_or_past}
use Rattle.std.proofs.lemmas.List.Sums.{suffix_len-le-length, prefix_len_passes}
use Rattle.std.proofs.lemmas.Option.{same_Some, option_and_then_some}
use Rattle.std.proofs.lemmas.Str.{IsUtf8-take}
use Rattle.text_model.specs.Texts.{Text}
use Rattle.journal_references.specs.declared.pieces.Piece.{Piece}
use Rattle.journal_references.specs.declared.parts.Part.{Part}
use Rattle.journal_references.specs.declared.parts.Part.TheVariants.{Date, Needed, Maybe, Read}
use Rattle.journal_references.specs.declared.groups.Group.{Group}
use Rattle.journal_references.specs.Dates.{date_length}
use Rattle.journal_references.specs.Parts.{Match, unread, match_part, match_parts}
use Rattle.journal_references.specs.Forms.{parts, match_groups}
use Rattle.journal_references.specs.References.{Reference, is_loose, tight}
use Rattle.journal_references.proofs.Beginnings.{is_firm, piece_first}
use Rattle.journal_references.proofs.Starts.{IsStart, digit_starts, word_starts, maybe_starts, date_starts}
use Rattle.journal_references.proofs.Kept.{some_part}
use Rattle.journal_references.proofs.Found.{begins, begins_well, IsFound}

-- ---- the beginning of a reference

piece_digit : (piece : Piece) (list : List Part) (m r : Match) → is_firm piece ≡ true → match_parts (Read piece ∷ list) m ≡ Some r
    → is_ascii_digit (get_or m.rest 0 0) ≡ true
piece_digit piece list m r firm h =
    option_and_then_some (match_parts list) (match_part (Read piece) m) r h
    (λ u e g. let taken = some_part (Read piece) m u e in piece_first piece m.rest taken.n firm taken.is)

-- words, a date, and a piece that begins with a digit
list_starts : (list : List Part) (m r : Match) → begins list ≡ true → match_parts list m ≡ Some r → IsStart m.rest
list_starts [] m r ok h = cc
list_starts (Needed word ∷ list) m r ok h =
    option_and_then_some (match_parts list) (match_part (Needed word) m) r h
    (λ u e g.
    let taken = some_part (Needed word) m u e in
    word_starts word m.rest taken.n taken.is (subst (λ x. IsStart x.rest) taken.whole (list_starts list u r ok g)))
list_starts (Maybe word ∷ list) m r ok h =
    option_and_then_some (match_parts list) (match_part (Maybe word) m) r h
    (λ u e g.
    let taken = some_part (Maybe word) m u e in
    maybe_starts word m.rest taken.n taken.is (subst (λ x. IsStart x.rest) taken.whole (list_starts list u r ok g)))
list_starts (Date ∷ list) m r ok h =
    option_and_then_some (match_parts list) (match_part Date m) r h
    (λ u e g.
    let taken = some_part Date m u e in
    date_starts m.rest taken.n (same_Some (date_length m.rest) taken.n taken.is)
    (subst (λ x. IsStart x.rest) taken.whole (list_starts list u r ok g)))
list_starts (Read piece ∷ list) m r ok h = digit_starts m.rest (piece_digit piece list m r ok h)
list_starts (_ ∷ list) m r ok h = cc

pub form_starts : (form : List Group) (t : Text) (r : Match) → begins_well form ≡ true → match_groups form (unread t) ≡ Some r → IsStart t
form_starts [] t r ok h = cc
form_starts (group ∷ form) t r ok h =
    option_and_then_some (match_groups form) (match_parts (parts group) (unread t)) r h (λ u e g. list_starts (parts group) (unread t) u ok e)

begun_at : (text : Text) (r : Reference) (is : IsFound text r) → is_ascii_alphanumeric (get_or text is.at 0) ≡ true
begun_at text r is =
    let same : is.at ≡ is.at + 0 = omega arith in
    ap (λ k. is_ascii_alphanumeric (get_or text k 0)) same
    ∙ ap is_ascii_alphanumeric (sym (get_or-drop is.at text 0 0))
    ∙ (form_starts is.form (drop is.at text) is.found (and_parts _ _ is.sound).0 is.matches).begun

-- ---- characters

low_of_begun : (b : ℕ) → is_ascii_alphanumeric b ≡ true → (0 < b) × (b < 128)
low_of_begun b h = grind (arith, nat_tests)

low_of_loose : (b : ℕ) → is_loose b ≡ true → (0 < b) × (b < 128)
low_of_loose b h = grind (arith, nat_tests)

boundary : (t : Text) (k : ℕ) → (0 < get_or t k 0) × (get_or t k 0 < 128) → k ≤ length t → IsCharBoundary t k
boundary t k low within = (within, λ _ high. omega (arith, low.1, high))

-- ---- without loose bytes at the end

abbrev tight_count : Text → ℕ
tight_count t = length t - suffix_len is_loose t

loose_after : (t : Text) → tight_count t < length t → is_loose (get_or t (tight_count t) 0) ≡ true
loose_after t short =
    let s = suffix_len is_loose t in
    let most : s ≤ length t = suffix_len-le-length is_loose t in
    let back : is_loose (get_or (reverse t) (s - 1) 0) ≡ true = prefix_len_passes is_loose (reverse t) (s - 1) 0 (omega arith) in
    let place : length t - 1 - (s - 1) ≡ length t - s = omega arith in
    ap (λ k. is_loose (get_or t k 0)) (sym place) ∙ ap is_loose (sym (get_or-reverse t (s - 1) 0 (omega arith))) ∙ back

within : (text : Text) (at : ℕ) → is_ascii_alphanumeric (get_or text at 0) ≡ true → at < length text
within text at begun = by_test (ltb at (length text)) refl
  where
    by_test : (c : Bool) → ltb at (length text) ≡ c → at < length text
    by_test true e = ltb-true at (length text) e
    by_test false e =
        let past : get_or text at 0 ≡ 0 = get_or_past text at 0 (ltb-false at (length text) e) in
        absurd (omega (arith, (low_of_begun (get_or text at 0) begun).0, past))

boundary_of : (text : Text) (at : ℕ) → is_ascii_alphanumeric (get_or text at 0) ≡ true
    → (n : ℕ) → n ≡ tight_count (take at text) → IsCharBoundary text n
boundary_of text at begun n is = by_test (ltb n at) refl
  where
    by_test : (c : Bool) → ltb n at ≡ c → IsCharBoundary text n
    by_test true e =
        let less : n < at = ltb-true n at e in
        let long : at < length text = within text at begun in
        let whole : length (take at text) ≡ at = omega (arith, length-take at text) in
        let loose : is_loose (get_or (take at text) (tight_count (take at text)) 0) ≡ true = loose_after (take at text) (omega arith) in
        let here : is_loose (get_or text n 0) ≡ true =
        ap is_loose (sym (get_or-take at text n 0 less)) ∙ ap (λ k. is_loose (get_or (take at text) k 0)) is ∙ loose in
        boundary text n (low_of_loose _ here) (omega arith)
    by_test false e =
        let long : at < length text = within text at begun in
        let same : at ≡ n = omega (arith, is, ltb-false n at e, length-take at text) in
        boundary text n (subst (λ k. (0 < get_or text k 0) × (get_or text k 0 < 128)) same (low_of_begun _ begun)) (omega arith)

tight_of : (text : Text) (at : ℕ) → tight (take at text) ≡ take (tight_count (take at text)) text
tight_of text at =
    let most : tight_count (take at text) ≤ at = omega (arith, length-take at text) in
    take-take (tight_count (take at text)) at text most

pub name_front : (text : Text) (r : Reference) → IsFound text r → (n : ℕ) × (r.name ≡ take n text)
name_front text r is = (tight_count (take is.at text), ap (λ x. x.name) is.is ∙ tight_of text is.at)

pub name_utf8 : (text : Text) (r : Reference) → IsFound text r → IsUtf8 text → IsUtf8 r.name
name_utf8 text r is utf8 =
    let n = tight_count (take is.at text) in
    let front : r.name ≡ take n text = ap (λ x. x.name) is.is ∙ tight_of text is.at in
    subst IsUtf8 (sym front) (IsUtf8-take text n utf8 (boundary_of text is.at (begun_at text r is) n refl))
