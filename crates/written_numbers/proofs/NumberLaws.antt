-- What is written for numbers.
use Rattle.std.proofs.Common.{◌≡◌, ℕ, ◌-◌, ◌<◌, ◌≤◌, ◌+◌, Bool, true, false, List, [], ◌∷◌, ◌++◌, cond, length, encode_utf8}
use Rattle.std.proofs.Common.{refl, sym, ap, ◌∙◌, subst, inl, inr, arith}
use Rattle.std.specs.Prelude.{◌==◌, ◌&&◌, ◌||◌, not, nat_le}
use Rattle.std.specs.Char.{IsScalar}
use Rattle.std.specs.List.{All, flat_map}
use Rattle.std.specs.Str.{IsUtf8, IsAscii}
use Rattle.std.proofs.lemmas.Bool.{and_parts, cond_both, cond-false, cond-true, eqb-true}
use Rattle.std.proofs.lemmas.Bool.Decides.{nat_tests}
use Rattle.std.proofs.lemmas.List.Elements.{All-nil, All-cons}
use Rattle.std.proofs.lemmas.Str.{IsUtf8-nil, IsUtf8-encode, encode_ascii}
use Rattle.std.proofs.lemmas.Str.Ascii.{IsAscii-nil, IsAscii-cons}
use Rattle.text_model.specs.Texts.{Text}
use Rattle.written_numbers.specs.Characters.{Range, is_between, is_in, dashes, wide_spaces, marks, line_ends, arabic_digits, persian_digits}
use Rattle.written_numbers.specs.Characters.{devanagari_digits, full_width, line_feed, space, hyphen, narrow, ascii_of, number_character}
use Rattle.written_numbers.specs.Numbers.{visible, in_ascii, joined_lines, number_text, may_follow, is_plain_after, is_plain}
use Rattle.written_numbers.proofs.Ranges.{apart_from, not_in, not_in_both, in_scalar}
use Rattle.written_numbers.proofs.Mapped.{IsShort, one_short, one_scalar, mapped_short, mapped_utf8, mapped_same, mapped_away, mapped_plain}
use Rattle.written_numbers.proofs.NumberLines.{lines_short, lines_utf8, lines_same}

-- ---- one character

narrow_short : (c : ℕ) → IsShort c (narrow c)
unfolding narrow
narrow_short c =
    let P : ℕ → Type 0 = λ d. IsShort c d in
    cond_both (is_between arabic_digits c) (c - 0x630) _ P (λ e. inl (small 0x660 0x669 0x630 e refl))
    (λ e. cond_both (is_between persian_digits c) (c - 0x6c0) _ P (λ g. inl (small 0x6f0 0x6f9 0x6c0 g refl))
    (λ g. cond_both (is_between devanagari_digits c) (c - 0x936) _ P (λ h. inl (small 0x966 0x96f 0x936 h refl))
    (λ h. cond_both (is_between full_width c) (c - 0xfee0) c P (λ k. inl (small 0xff01 0xff5e 0xfee0 k refl)) (λ k. inr refl))))
  where
    small : (a b by : ℕ) → (nat_le a c && nat_le c b) ≡ true → nat_le (b - by) 127 ≡ true → c - by < 128
    small a b by is h = grind (arith, nat_tests)

ascii_short : (c : ℕ) → IsShort c (ascii_of c)
unfolding ascii_of
ascii_short c =
    let P : ℕ → Type 0 = λ d. IsShort c d in
    cond_both (is_in dashes c) hyphen _ P (λ e. inl (omega arith))
    (λ e. cond_both (is_in wide_spaces c) space _ P (λ g. inl (omega arith))
    (λ g. cond_both (is_in line_ends c) line_feed (narrow c) P (λ h. inl (omega arith)) (λ h. narrow_short c)))

character_short : (c : ℕ) → length (number_character c) ≤ length (encode_utf8 c)
unfolding number_character
character_short c =
    cond_both (is_in marks c) [] (encode_utf8 (ascii_of c)) (λ u. length u ≤ length (encode_utf8 c)) (λ e. omega arith)
    (λ e. one_short c (ascii_of c) (ascii_short c))

character_utf8 : (c : ℕ) → IsScalar c → IsUtf8 (number_character c)
unfolding number_character
character_utf8 c is =
    cond_both (is_in marks c) [] (encode_utf8 (ascii_of c)) IsUtf8 (λ e. IsUtf8-nil)
    (λ e. IsUtf8-encode (ascii_of c) (one_scalar c (ascii_of c) (ascii_short c) is))

-- ---- numbers

pub number_short : (t : Text) → IsUtf8 t → length (number_text t) ≤ length t
unfolding number_text in_ascii
number_short t utf8 = omega (arith, lines_short (in_ascii t), mapped_short number_character character_short t utf8)

pub number_utf8 : (t : Text) → IsUtf8 t → IsUtf8 (number_text t)
unfolding number_text in_ascii
number_utf8 t utf8 = lines_utf8 (in_ascii t) (mapped_utf8 number_character character_utf8 t utf8)

-- ---- characters at any place

same_number : (c d : ℕ) (front back : Text) → IsUtf8 front → IsScalar c → IsScalar d → number_character c ≡ number_character d
    → number_text (front ++ encode_utf8 c ++ back) ≡ number_text (front ++ encode_utf8 d ++ back)
unfolding number_text in_ascii
same_number c d front back utf8 is other same = ap (λ u. joined_lines u) (mapped_same number_character c d front back utf8 is other same)

-- a character that is no mark
written_as : (c d : ℕ) → is_in marks c ≡ false → ascii_of c ≡ d → number_character c ≡ encode_utf8 d
unfolding number_character
written_as c d none is = cond-false (is_in marks c) [] (encode_utf8 (ascii_of c)) none ∙ ap (λ e. encode_utf8 e) is

pub dash_read : (c : ℕ) (front back : Text) → is_in dashes c ≡ true → IsUtf8 front
    → number_text (front ++ encode_utf8 c ++ back) ≡ number_text (front ++ encode_utf8 hyphen ++ back)
unfolding dashes marks ascii_of wide_spaces line_ends narrow number_character
dash_read c front back is utf8 =
    let written : ascii_of c ≡ hyphen = cond-true (is_in dashes c) hyphen _ is in
    same_number c hyphen front back utf8 (in_scalar dashes c refl is) refl (written_as c hyphen (not_in_both dashes marks c refl is) written)

pub space_read : (c : ℕ) (front back : Text) → is_in wide_spaces c ≡ true → IsUtf8 front
    → number_text (front ++ encode_utf8 c ++ back) ≡ number_text (front ++ encode_utf8 space ++ back)
unfolding dashes marks ascii_of wide_spaces line_ends narrow number_character
space_read c front back is utf8 =
    let written : ascii_of c ≡ space =
    cond-false (is_in dashes c) hyphen _ (not_in_both wide_spaces dashes c refl is) ∙ cond-true (is_in wide_spaces c) space _ is in
    same_number c space front back utf8 (in_scalar wide_spaces c refl is) refl (written_as c space (not_in_both wide_spaces marks c refl is) written)

pub mark_read : (c : ℕ) (front back : Text) → is_in marks c ≡ true → IsUtf8 front
    → number_text (front ++ encode_utf8 c ++ back) ≡ number_text (front ++ back)
unfolding number_text in_ascii marks number_character
mark_read c front back is utf8 =
    ap (λ u. joined_lines u)
    (mapped_away number_character c front back utf8 (in_scalar marks c refl is) (cond-true (is_in marks c) [] (encode_utf8 (ascii_of c)) is))

-- ---- ASCII that stays

shifted : List Range
shifted = arabic_digits ∷ persian_digits ∷ devanagari_digits ∷ full_width ∷ []

narrowed : (a b d e : Bool) (x y z w c : ℕ) → (a || (b || (d || (e || false)))) ≡ false → cond a x (cond b y (cond d z (cond e w c))) ≡ c
narrowed false false false false x y z w c h = refl
narrowed true b d e x y z w c h = cc
narrowed false true d e x y z w c h = cc
narrowed false false true e x y z w c h = cc
narrowed false false false true x y z w c h = cc

unshifted : (c : ℕ) → is_in shifted c ≡ false → narrow c ≡ c
unfolding narrow shifted
unshifted c h =
    narrowed (is_between arabic_digits c) (is_between persian_digits c) (is_between devanagari_digits c) (is_between full_width c) _ _ _ _ c h

-- a character of none of the lists
unlisted : (c : ℕ) → is_in dashes c ≡ false → is_in wide_spaces c ≡ false → is_in line_ends c ≡ false → ascii_of c ≡ narrow c
unfolding ascii_of
unlisted c a b d =
    cond-false (is_in dashes c) hyphen _ a ∙ cond-false (is_in wide_spaces c) space _ b ∙ cond-false (is_in line_ends c) line_feed (narrow c) d

visible_stays : (c : ℕ) → is_in visible c ≡ true → number_character c ≡ encode_utf8 c
unfolding visible dashes marks wide_spaces line_ends shifted
visible_stays c is =
    written_as c c (not_in_both visible marks c refl is)
    (unlisted c (not_in_both visible dashes c refl is) (not_in_both visible wide_spaces c refl is) (not_in_both visible line_ends c refl is)
    ∙ unshifted c (not_in_both visible shifted c refl is))

-- ---- digits

as_digit : (a by c : ℕ) → by + 0x30 ≡ a → (nat_le a c && nat_le c (a + 9)) ≡ true → (nat_le 0x23 (c - by) && nat_le (c - by) 0x7e) ≡ true
as_digit a by c h is = grind (arith, nat_tests)

in_visible : (c : ℕ) → (nat_le 0x23 c && nat_le c 0x7e) ≡ true → is_in visible c ≡ true
unfolding visible
in_visible c is = later (is_between (0x21, 0x21) c) (is_between (0x23, 0x7e) c) is
  where
    later : (x y : Bool) → y ≡ true → (x || (y || false)) ≡ true
    later true y h = refl
    later false true h = refl
    later false false h = h

low_scalar : (c : ℕ) → (nat_le 0x23 c && nat_le c 0x7e) ≡ true → IsScalar c
low_scalar c is = in_scalar ((0x23, 0x7e) ∷ []) c refl (ap (λ b. b || false) is)

digit_read : (r : Range) (by c : ℕ) (front back : Text) → is_between r c ≡ true → IsScalar c → number_character c ≡ encode_utf8 (c - by)
    → (nat_le 0x23 (c - by) && nat_le (c - by) 0x7e) ≡ true → IsUtf8 front
    → number_text (front ++ encode_utf8 c ++ back) ≡ number_text (front ++ encode_utf8 (c - by) ++ back)
digit_read r by c front back is scalar written digit utf8 =
    same_number c (c - by) front back utf8 scalar (low_scalar (c - by) digit)
    (written ∙ sym (visible_stays (c - by) (in_visible (c - by) digit)))

pub arabic_read : (c : ℕ) (front back : Text) → is_between arabic_digits c ≡ true → IsUtf8 front
    → number_text (front ++ encode_utf8 c ++ back) ≡ number_text (front ++ encode_utf8 (c - 0x630) ++ back)
unfolding dashes marks wide_spaces line_ends narrow
arabic_read c front back is utf8 =
    let written : ascii_of c ≡ c - 0x630 =
    unlisted c (not_in arabic_digits dashes c refl is) (not_in arabic_digits wide_spaces c refl is) (not_in arabic_digits line_ends c refl is)
    ∙ cond-true (is_between arabic_digits c) (c - 0x630) _ is in
    digit_read arabic_digits 0x630 c front back is (in_scalar (arabic_digits ∷ []) c refl (ap (λ b. b || false) is))
    (written_as c (c - 0x630) (not_in arabic_digits marks c refl is) written) (as_digit 0x660 0x630 c refl is) utf8

pub persian_read : (c : ℕ) (front back : Text) → is_between persian_digits c ≡ true → IsUtf8 front
    → number_text (front ++ encode_utf8 c ++ back) ≡ number_text (front ++ encode_utf8 (c - 0x6c0) ++ back)
unfolding dashes marks wide_spaces line_ends narrow
persian_read c front back is utf8 =
    let written : ascii_of c ≡ c - 0x6c0 =
    unlisted c (not_in persian_digits dashes c refl is) (not_in persian_digits wide_spaces c refl is) (not_in persian_digits line_ends c refl is)
    ∙ cond-false (is_between arabic_digits c) (c - 0x630) _ (apart_from persian_digits arabic_digits c refl is)
    ∙ cond-true (is_between persian_digits c) (c - 0x6c0) _ is in
    digit_read persian_digits 0x6c0 c front back is (in_scalar (persian_digits ∷ []) c refl (ap (λ b. b || false) is))
    (written_as c (c - 0x6c0) (not_in persian_digits marks c refl is) written) (as_digit 0x6f0 0x6c0 c refl is) utf8

pub devanagari_read : (c : ℕ) (front back : Text) → is_between devanagari_digits c ≡ true → IsUtf8 front
    → number_text (front ++ encode_utf8 c ++ back) ≡ number_text (front ++ encode_utf8 (c - 0x936) ++ back)
unfolding dashes marks wide_spaces line_ends narrow
devanagari_read c front back is utf8 =
    let written : ascii_of c ≡ c - 0x936 =
    unlisted c (not_in devanagari_digits dashes c refl is) (not_in devanagari_digits wide_spaces c refl is)
    (not_in devanagari_digits line_ends c refl is)
    ∙ cond-false (is_between arabic_digits c) (c - 0x630) _ (apart_from devanagari_digits arabic_digits c refl is)
    ∙ cond-false (is_between persian_digits c) (c - 0x6c0) _ (apart_from devanagari_digits persian_digits c refl is)
    ∙ cond-true (is_between devanagari_digits c) (c - 0x936) _ is in
    digit_read devanagari_digits 0x936 c front back is (in_scalar (devanagari_digits ∷ []) c refl (ap (λ b. b || false) is))
    (written_as c (c - 0x936) (not_in devanagari_digits marks c refl is) written) (as_digit 0x966 0x936 c refl is) utf8

-- ---- numbers that stay

byte_stays : (gap : Bool) (b : ℕ) → may_follow gap b ≡ true → (b < 128) × (number_character b ≡ b ∷ []) × ((b == line_feed) ≡ false)
unfolding visible number_character marks ascii_of dashes wide_spaces line_ends narrow
byte_stays gap b follows = by_kind (is_in visible b) (b == space) refl refl follows
  where
    low : is_in visible b ≡ true → b < 128
    low e = grind (arith, nat_tests)

    no_end : is_in visible b ≡ true → (b == line_feed) ≡ false
    no_end e = grind (arith, nat_tests)

    blank : number_character space ≡ space ∷ []
    blank = encode_ascii space (omega arith)

    by_kind : (x y : Bool) → is_in visible b ≡ x → (b == space) ≡ y → (x || y && not gap) ≡ true
        → (b < 128) × (number_character b ≡ b ∷ []) × ((b == line_feed) ≡ false)
    by_kind true y e g h = (low e, visible_stays b e ∙ encode_ascii b (low e), no_end e)
    by_kind false true e g h =
        subst (λ d. (d < 128) × (number_character d ≡ d ∷ []) × ((d == line_feed) ≡ false)) (sym (eqb-true b space g)) (omega arith, blank, refl)
    by_kind false false e g h = cc

all_stay : (gap : Bool) (t : Text) → is_plain_after gap t ≡ true → flat_map number_character t ≡ t
all_stay gap [] h = refl
all_stay gap (b ∷ t) h =
    let tests = and_parts (may_follow gap b) (is_plain_after (b == space) t) h in
    ap (λ u. u ++ flat_map number_character t) (byte_stays gap b tests.0).1 ∙ ap (λ u. b ∷ u) (all_stay (b == space) t tests.1)

all_ascii : (gap : Bool) (t : Text) → is_plain_after gap t ≡ true → IsAscii t
all_ascii gap [] h = IsAscii-nil
all_ascii gap (b ∷ t) h =
    let tests = and_parts (may_follow gap b) (is_plain_after (b == space) t) h in
    IsAscii-cons b t (byte_stays gap b tests.0).0 (all_ascii (b == space) t tests.1)

no_ends : (gap : Bool) (t : Text) → is_plain_after gap t ≡ true → All (λ b. (b == line_feed) ≡ false) t
no_ends gap [] h = All-nil (λ b. (b == line_feed) ≡ false)
no_ends gap (b ∷ t) h =
    let tests = and_parts (may_follow gap b) (is_plain_after (b == space) t) h in
    All-cons (λ d. (d == line_feed) ≡ false) b t (byte_stays gap b tests.0).2 (no_ends (b == space) t tests.1)

pub number_stays : (t : Text) → is_plain t ≡ true → number_text t ≡ t
unfolding number_text in_ascii
number_stays t h =
    ap (λ u. joined_lines u) (mapped_plain number_character t (all_ascii true t h) (all_stay true t h)) ∙ lines_same t (no_ends true t h) h
