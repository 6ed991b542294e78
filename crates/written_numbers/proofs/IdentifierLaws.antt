-- What is written for identifiers.
use Rattle.std.proofs.Common.{◌≡◌, ℕ, ◌<◌, ◌≤◌, ◌+◌, true, false, List, [], ◌∷◌, ◌++◌, length, map, filter, encode_utf8}
use Rattle.std.proofs.Common.{refl, ap, ◌∙◌, inl, inr, append-nil, arith}
use Rattle.std.specs.Prelude.{◌==◌, ◌&&◌, not, nat_le}
use Rattle.std.specs.Char.{IsScalar}
use Rattle.std.specs.List.{All, flat_map, list_all, slice_split}
use Rattle.std.specs.Str.{IsUtf8, IsAscii}
use Rattle.std.proofs.lemmas.Bool.{and_parts, cond_both, cond-false, cond-true, eqb-true}
use Rattle.std.proofs.lemmas.Bool.Decides.{nat_tests}
use Rattle.std.proofs.lemmas.List.{length-append}
use Rattle.std.proofs.lemmas.List.Elements.{All-nil, All-cons}
use Rattle.std.proofs.lemmas.List.Splits.{slice_split_none}
use Rattle.std.proofs.lemmas.Str.{IsUtf8-nil, IsUtf8-append, IsUtf8-encode, encode_ascii}
use Rattle.std.proofs.lemmas.Str.Ascii.{IsAscii-nil, IsAscii-cons}
use Rattle.text_model.specs.Texts.{Text}
use Rattle.written_numbers.specs.Characters.{is_in, line_feed}
use Rattle.written_numbers.specs.Layout.{layout, breaks, unbroken, identifier_character, without_layout}
use Rattle.written_numbers.specs.Identifiers.{blanks_before, blanks_after, trimmed, is_filled, filled_lines, begins_identifier, continued, of_lines}
use Rattle.written_numbers.specs.Identifiers.{identifier_text, is_plain_byte, is_plain}
use Rattle.written_numbers.proofs.Ranges.{not_in, in_scalar}
use Rattle.written_numbers.proofs.Mapped.{IsShort, one_short, one_scalar, mapped_short, mapped_utf8, mapped_away, mapped_plain}
use Rattle.written_numbers.proofs.Parts.{AreUtf8, parts_utf8, map_utf8, filter_utf8, spread, spread_parts, spread_map, some_part, not_empty}
use Rattle.written_numbers.proofs.Trimming.{trimmed_utf8, trimmed_short, trimmed_same}

-- ---- one character

unbroken_short : (c : ℕ) → IsShort c (unbroken c)
unfolding unbroken
unbroken_short c = cond_both (is_in breaks c) line_feed c (λ d. IsShort c d) (λ e. inl (omega arith)) (λ e. inr refl)

character_short : (c : ℕ) → length (identifier_character c) ≤ length (encode_utf8 c)
unfolding identifier_character
character_short c =
    cond_both (is_in layout c) [] (encode_utf8 (unbroken c)) (λ u. length u ≤ length (encode_utf8 c)) (λ e. omega arith)
    (λ e. one_short c (unbroken c) (unbroken_short c))

character_utf8 : (c : ℕ) → IsScalar c → IsUtf8 (identifier_character c)
unfolding identifier_character
character_utf8 c is =
    cond_both (is_in layout c) [] (encode_utf8 (unbroken c)) IsUtf8 (λ e. IsUtf8-nil)
    (λ e. IsUtf8-encode (unbroken c) (one_scalar c (unbroken c) (unbroken_short c) is))

-- ---- lines

continued_utf8 : (lines : List Text) → AreUtf8 lines → IsUtf8 (continued lines)
continued_utf8 [] are = IsUtf8-nil
continued_utf8 (line ∷ lines) are =
    cond_both (begins_identifier line) [] (line ++ continued lines) IsUtf8 (λ e. IsUtf8-nil)
    (λ e. IsUtf8-append line (continued lines) are.0 (continued_utf8 lines are.1))

of_lines_utf8 : (lines : List Text) → AreUtf8 lines → IsUtf8 (of_lines lines)
of_lines_utf8 [] are = IsUtf8-nil
of_lines_utf8 (line ∷ lines) are = IsUtf8-append line (continued lines) are.0 (continued_utf8 lines are.1)

-- the bytes of all lines
total : List Text → ℕ
total [] = 0
total (line ∷ lines) = length line + total lines

continued_short : (lines : List Text) → length (continued lines) ≤ total lines
unfolding total
continued_short [] = omega arith
continued_short (line ∷ lines) =
    cond_both (begins_identifier line) [] (line ++ continued lines) (λ u. length u ≤ length line + total lines) (λ e. omega arith)
    (λ e. omega (arith, length-append line (continued lines), continued_short lines))

of_lines_short : (lines : List Text) → length (of_lines lines) ≤ total lines
unfolding total
of_lines_short [] = omega arith
of_lines_short (line ∷ lines) = omega (arith, length-append line (continued lines), continued_short lines)

filter_total : (lines : List Text) → total (filter is_filled lines) ≤ total lines
unfolding total
filter_total [] = omega arith
filter_total (line ∷ lines) =
    cond_both (is_filled line) (line ∷ filter is_filled lines) (filter is_filled lines) (λ u. total u ≤ length line + total lines)
    (λ e. omega (arith, filter_total lines)) (λ e. omega (arith, filter_total lines))

spread_total : (lines : List Text) → total lines ≤ spread line_feed lines
unfolding total
spread_total [] = omega arith
spread_total (line ∷ lines) = omega (arith, spread_total lines)

lines_total : (t : Text) → total (filled_lines t) ≤ length t
unfolding total filled_lines
lines_total t =
    some_part (λ parts. total (filter is_filled (map trimmed parts)) ≤ length t) (λ b. b == line_feed) t
    (λ part parts is.
    omega (
      arith,
      filter_total (map trimmed (part ∷ parts)),
      trimmed_short part,
      spread_total (map trimmed parts),
      spread_map line_feed trimmed trimmed_short parts,
      spread_parts line_feed t part parts is,
    ))

lines_utf8 : (t : Text) → IsUtf8 t → AreUtf8 (filled_lines t)
unfolding filled_lines
lines_utf8 t utf8 =
    filter_utf8 is_filled (map trimmed (slice_split (λ b. b == line_feed) t))
    (map_utf8 trimmed trimmed_utf8 (slice_split (λ b. b == line_feed) t) (parts_utf8 line_feed (omega arith) t utf8))

-- ---- identifiers

pub identifier_short : (t : Text) → IsUtf8 t → length (identifier_text t) ≤ length t
unfolding identifier_text without_layout
identifier_short t utf8 =
    omega (
      arith,
      of_lines_short (filled_lines (without_layout t)),
      lines_total (without_layout t),
      mapped_short identifier_character character_short t utf8,
    )

pub identifier_utf8 : (t : Text) → IsUtf8 t → IsUtf8 (identifier_text t)
unfolding identifier_text without_layout
identifier_utf8 t utf8 =
    of_lines_utf8 (filled_lines (without_layout t)) (lines_utf8 (without_layout t) (mapped_utf8 identifier_character character_utf8 t utf8))

pub layout_read : (c : ℕ) (front back : Text) → is_in layout c ≡ true → IsUtf8 front
    → identifier_text (front ++ encode_utf8 c ++ back) ≡ identifier_text (front ++ back)
unfolding identifier_text without_layout layout identifier_character
layout_read c front back is utf8 =
    ap (λ u. of_lines (filled_lines u))
    (mapped_away identifier_character c front back utf8 (in_scalar layout c refl is) (cond-true (is_in layout c) [] (encode_utf8 (unbroken c)) is))

-- ---- identifiers that stay

record Stays (b : ℕ) : Type 0 where
  small : b < 128
  same : identifier_character b ≡ b ∷ []
  inside : (b == line_feed) ≡ false

byte_small : (b : ℕ) → is_plain_byte b ≡ true → (nat_le 0 b && nat_le b 0x7f) ≡ true
byte_small b h = grind (arith, nat_tests)

byte_inside : (b : ℕ) → is_plain_byte b ≡ true → (b == line_feed) ≡ false
byte_inside b h = grind (arith, nat_tests)

byte_unbroken : (b : ℕ) → is_plain_byte b ≡ true → is_in breaks b ≡ false
unfolding breaks
byte_unbroken b h = grind (arith, nat_tests)

byte_stays : (b : ℕ) → is_plain_byte b ≡ true → Stays b
unfolding layout unbroken identifier_character
byte_stays b h =
    let small : b < 128 = grind (arith, nat_tests, byte_small b h) in
    let away : is_in layout b ≡ false = not_in (0, 0x7f) layout b refl (byte_small b h) in
    record {
      small = small;
      same =
          cond-false (is_in layout b) [] (encode_utf8 (unbroken b)) away
          ∙ ap (λ d. encode_utf8 d) (cond-false (is_in breaks b) line_feed b (byte_unbroken b h)) ∙ encode_ascii b small;
      inside = byte_inside b h;
    }

all_stay : (t : Text) → list_all is_plain_byte t ≡ true → flat_map identifier_character t ≡ t
all_stay [] h = refl
all_stay (b ∷ t) h =
    let tests = and_parts (is_plain_byte b) (list_all is_plain_byte t) h in
    ap (λ u. u ++ flat_map identifier_character t) (byte_stays b tests.0).same ∙ ap (λ u. b ∷ u) (all_stay t tests.1)

all_ascii : (t : Text) → list_all is_plain_byte t ≡ true → IsAscii t
all_ascii [] h = IsAscii-nil
all_ascii (b ∷ t) h =
    let tests = and_parts (is_plain_byte b) (list_all is_plain_byte t) h in
    IsAscii-cons b t (byte_stays b tests.0).small (all_ascii t tests.1)

no_ends : (t : Text) → list_all is_plain_byte t ≡ true → All (λ b. (b == line_feed) ≡ false) t
no_ends [] h = All-nil (λ b. (b == line_feed) ≡ false)
no_ends (b ∷ t) h =
    let tests = and_parts (is_plain_byte b) (list_all is_plain_byte t) h in
    All-cons (λ d. (d == line_feed) ≡ false) b t (byte_stays b tests.0).inside (no_ends t tests.1)

one_line : (t : Text) → of_lines (filter is_filled (t ∷ [])) ≡ t
one_line [] = refl
one_line (b ∷ t) =
    ap (λ lines. of_lines lines) (cond-true (is_filled (b ∷ t)) ((b ∷ t) ∷ []) [] (ap (λ x. not x) (not_empty b t))) ∙ append-nil (b ∷ t)

lines_same : (t : Text) → All (λ b. (b == line_feed) ≡ false) t → trimmed t ≡ t → of_lines (filled_lines t) ≡ t
unfolding filled_lines
lines_same t none same =
    ap (λ u. of_lines (filter is_filled (map trimmed u))) (slice_split_none (λ b. b == line_feed) t none)
    ∙ ap (λ u. of_lines (filter is_filled (u ∷ []))) same ∙ one_line t

pub identifier_stays : (t : Text) → is_plain t ≡ true → identifier_text t ≡ t
unfolding identifier_text without_layout
identifier_stays t h =
    let tests = and_parts (list_all is_plain_byte t) (blanks_before t == 0 && blanks_after t == 0) h in
    let ends = and_parts (blanks_before t == 0) (blanks_after t == 0) tests.1 in
    ap (λ u. of_lines (filled_lines u)) (mapped_plain identifier_character t (all_ascii t tests.0) (all_stay t tests.0))
    ∙ lines_same t (no_ends t tests.0) (trimmed_same t (eqb-true (blanks_before t) 0 ends.0) (eqb-true (blanks_after t) 0 ends.1))
