-- References in a text are read as their characters.
use Rattle.std.proofs.Common.{◌≡◌, ℕ, ◌-◌, ◌<◌, ◌≤◌, ◌⊎◌, inl, inr, [], ◌∷◌, ◌++◌, true, false, cond, Some, None, length, take, drop}
use Rattle.std.proofs.Common.{refl, sym, ap, ◌∙◌, append_assoc, arith}
use Rattle.std.specs.Prelude.{◌==◌, nat_le, not, encode_utf8, codes}
use Rattle.std.specs.Char.{len_utf8}
use Rattle.std.specs.List.{list_any}
use Rattle.std.specs.Option.{option_and_then, option_map}
use Rattle.std.proofs.lemmas.Bool.{and_parts, eq-eqb, leb-true, not-true, cases_lt}
use Rattle.std.proofs.lemmas.Bool.Decides.{nat_tests}
use Rattle.std.proofs.lemmas.List.{take_at, length-append}
use Rattle.std.proofs.lemmas.Str.{encode_ascii, length-encode}
use Rattle.text_model.specs.Texts.{Text}
use Rattle.title_markup.specs.declared.references.Reference.{Reference}
use Rattle.title_markup.specs.Endings.{opening, closing, ampersand, semicolon, is_closing, last_byte, last_bytes, from_last, or_other, has}
use Rattle.title_markup.specs.Tags.{tag_of, tag_length}
use Rattle.title_markup.specs.References.{named, character_of, body_of, reference_of, reference_ending, reference_with, is_body}
use Rattle.title_markup.specs.Titles.{before_reference, shortened, settled, read_after, read, IsMarkupFree}
use Rattle.title_markup.proofs.TextEnds.{last_of, lasts, from_place}
use Rattle.title_markup.proofs.Shortening.{high, high_quiet}
use Rattle.title_markup.proofs.Settling.{free_settled, rest_same}
use Rattle.title_markup.proofs.Reading.{nothing_free, read_free, read_in_turn}
use Rattle.title_markup.proofs.Appending.{has_not_both, ends_free, open_read, open_free, none_close}

-- ---- a reference at the end of a text

last_semicolon : (front body : Text) → last_byte (front ++ reference_with body) ≡ semicolon
last_semicolon front body =
    ap last_byte (sym (append_assoc front (ampersand ∷ body) (semicolon ∷ []))) ∙ last_of (front ++ ampersand ∷ body) semicolon

body_is : (body : Text) → body_of (reference_with body) ≡ body
body_is body =
    let size : length (body ++ semicolon ∷ []) - 1 ≡ length body = omega (arith, length-append body (semicolon ∷ [])) in
    ap (λ k. take k (body ++ semicolon ∷ [])) size ∙ take_at body (semicolon ∷ []) (length body) refl

reference_found : (front body : Text) (c : ℕ) → length body ≤ 8 → has ampersand body ≡ false → character_of body ≡ Some c
    → reference_ending (front ++ reference_with body) ≡ Some (record { len = length (reference_with body); character = c })
unfolding reference_ending
reference_found front body c short free is =
    let reference = reference_with body in
    let all = front ++ reference in
    let size : length reference ≤ 10 = omega (arith, short, length-append body (semicolon ∷ [])) in
    let closed : (last_byte all == semicolon) ≡ true = eq-eqb (last_byte all) semicolon (last_semicolon front body) in
    let before = drop (length all - 10) front in
    let found : from_last ampersand (last_bytes 10 all) ≡ Some reference =
    ap (λ s. from_last ampersand s) (lasts 10 front reference size)
    ∙ from_place ampersand before (body ++ semicolon ∷ []) (has_not_both ampersand body (semicolon ∷ []) free refl) in
    ap (λ b. cond b (option_and_then reference_of (from_last ampersand (last_bytes 10 all))) None) closed
    ∙ ap (λ o. option_and_then reference_of o) found
    ∙ ap (λ o. option_map (λ n. made (length reference) n) o) (ap character_of (body_is body) ∙ is)
  where
    made : ℕ → ℕ → Reference
    made n m = record { len = n; character = m }

reference_last : (front body : Text) (c : ℕ) → length body ≤ 8 → has ampersand body ≡ false → character_of body ≡ Some c
    → shortened (front ++ reference_with body) ≡ Some (front ++ encode_utf8 c)
unfolding shortened tag_length
reference_last front body c short free is =
    let reference = reference_with body in
    let all = front ++ reference in
    let size = length-append front reference in
    let left : length all - length reference ≡ length front = omega (arith, size) in
    let other : (last_byte all == closing) ≡ false = ap (λ b. b == closing) (last_semicolon front body) in
    ap (λ b. or_other (option_map (λ n. take (length all - n) all)
    (cond b (option_and_then tag_of (from_last opening (last_bytes 224 all))) None)) (before_reference all)) other
    ∙ ap (λ o. option_map (λ (r : Reference). take (length all - r.len) all ++ encode_utf8 r.character) o) (reference_found front body c short free is)
    ∙ ap (λ k. Some (take k all ++ encode_utf8 c)) left ∙ ap (λ u. Some (u ++ encode_utf8 c)) (take_at front reference (length front) refl)

-- ---- a reference in a text

two_bytes : (c : ℕ) → 128 ≤ c → 1 < len_utf8 c
two_bytes c h = grind (arith, nat_tests)

character_read : (front : Text) (c : ℕ) → IsMarkupFree front → read_after front (encode_utf8 c) ≡ settled (front ++ encode_utf8 c)
character_read front c free = by_size (cases_lt c 128)
  where
    by_size : (c < 128) ⊎ (128 ≤ c) → read_after front (encode_utf8 c) ≡ settled (front ++ encode_utf8 c)
    by_size (inl ascii) =
        let one = encode_ascii c ascii in
        ap (λ s. read_after front s) one ∙ ap (λ s. settled (front ++ s)) (sym one)
    by_size (inr beyond) =
        let several : 1 < length (encode_utf8 c) = omega (arith, length-encode c, two_bytes c beyond) in
        let quiet : list_any is_closing (encode_utf8 c) ≡ false =
        none_close (encode_utf8 c) (λ k h. high_quiet _ (high c k h several)) in
        open_read front (encode_utf8 c) free quiet
        ∙ sym (free_settled (front ++ encode_utf8 c) (ends_free (front ++ encode_utf8 c) (open_free front (encode_utf8 c) free quiet)))

one_read : (front body : Text) (c : ℕ) → IsMarkupFree front → is_body body ≡ true → character_of body ≡ Some c
    → read_after front (reference_with body) ≡ read_after front (encode_utf8 c)
one_read front body c free h is =
    let parts = and_parts _ _ h in
    let sizes = and_parts (nat_le (length body) 8) (not (has ampersand body)) parts.0 in
    let short : length body ≤ 8 = leb-true (length body) 8 sizes.0 in
    let unmarked = not-true (has ampersand body) sizes.1 in
    let unclosed = not-true (list_any is_closing body) parts.1 in
    let whole : (front ++ ampersand ∷ body) ++ semicolon ∷ [] ≡ front ++ reference_with body =
    append_assoc front (ampersand ∷ body) (semicolon ∷ []) in
    read_in_turn front (ampersand ∷ body) (semicolon ∷ [])
    ∙ ap (λ u. settled (u ++ semicolon ∷ [])) (open_read front (ampersand ∷ body) free unclosed) ∙ ap settled whole
    ∙ sym (rest_same (front ++ reference_with body) (front ++ encode_utf8 c) (reference_last front body c short unmarked is))
    ∙ sym (character_read front c free)

pub reference_read : (body front back : Text) (c : ℕ) → is_body body ≡ true → character_of body ≡ Some c
    → read (front ++ reference_with body ++ back) ≡ read (front ++ encode_utf8 c ++ back)
unfolding read
reference_read body front back c h is =
    let before = read_after [] front in
    ap (λ t. read_after [] t) (append_assoc front (reference_with body) back) ∙ read_in_turn [] front (reference_with body ++ back)
    ∙ read_in_turn before (reference_with body) back
    ∙ ap (λ u. read_after u back) (one_read before body c (read_free [] front nothing_free) h is)
    ∙ sym (read_in_turn before (encode_utf8 c) back) ∙ sym (read_in_turn [] front (encode_utf8 c ++ back))
    ∙ sym (ap (λ t. read_after [] t) (append_assoc front (encode_utf8 c) back))

-- ---- examples

pub ampersand_read : (front back : Text) → read (front ++ codes "&amp;" ++ back) ≡ read (front ++ encode_utf8 0x26 ++ back)
unfolding named
ampersand_read front back = reference_read (codes "amp") front back 0x26 refl refl

pub letter_read : (front back : Text) → read (front ++ codes "&eacute;" ++ back) ≡ read (front ++ encode_utf8 0xe9 ++ back)
unfolding named
letter_read front back = reference_read (codes "eacute") front back 0xe9 refl refl

pub decimal_read : (front back : Text) → read (front ++ codes "&#233;" ++ back) ≡ read (front ++ encode_utf8 0xe9 ++ back)
decimal_read front back = reference_read (codes "#233") front back 0xe9 refl refl

pub hexadecimal_read : (front back : Text) → read (front ++ codes "&#xe9;" ++ back) ≡ read (front ++ encode_utf8 0xe9 ++ back)
hexadecimal_read front back = reference_read (codes "#xe9") front back 0xe9 refl refl
