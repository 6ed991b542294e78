-- An identifier is normalised byte by byte.
use Rattle.std.proofs.Common.{◌≡◌, ℕ, ◌≤◌, ◌<◌, Bool, true, false, cond, List, [], ◌∷◌, ◌++◌, All, filter, map, refl, sym, ap, ◌∙◌, arith, nat_lt, get_or}
use Rattle.std.proofs.lemmas.Bool.Decides.{nat_tests}
use Rattle.std.proofs.lemmas.List.{append-nil, get_or_default, map-append}
use Rattle.std.proofs.lemmas.List.Elements.{All-head, All-tail, filter-append}
use Rattle.std.proofs.lemmas.Str.{encode_ascii, encodes-chars, inside_one}
use Rattle.std.specs.Char.{to_ascii_uppercase}
use Rattle.std.specs.Str.{IsUtf8, chars, encode_utf8_all}
use Rattle.std.proofs.lemmas.Str.Ascii.{uppercase_ascii}
use Rattle.std.proofs.lemmas.Grind.{common_steps}
use lib.Utf8.{encode}
use Rattle.text_model.specs.Texts.{Text}
use Rattle.kbart_rows.specs.Identifiers as spec
use Rattle.kbart_rows.specs.Private.Normal.{normal}

high_counts : (b : ℕ) → 128 ≤ b → spec.counts b ≡ true
high_counts b high = grind (arith, nat_tests)

high_stays : (b : ℕ) → 128 ≤ b → to_ascii_uppercase b ≡ b
high_stays b high = grind (arith, common_steps)

all_high : (bs : Text) → All (λ b. 128 ≤ b) bs → normal bs ≡ bs
all_high [] high = refl
all_high (b ∷ bs) high =
    let here = All-head (λ b. 128 ≤ b) b bs high in
    rw (high_counts b here) (ap (λ first. first ∷ normal bs) (high_stays b here) ∙ ap (λ rest. b ∷ rest) (all_high bs (All-tail (λ b. 128 ≤ b) b bs high)))

pub normal_append : (xs ys : Text) → normal (xs ++ ys) ≡ normal xs ++ normal ys
normal_append xs ys = ap (map to_ascii_uppercase) (filter-append spec.counts xs ys) ∙ map-append to_ascii_uppercase (filter spec.counts xs) (filter
    spec.counts ys)

-- each byte of a character past ASCII is past ASCII
high_bytes : (c : ℕ) → 128 ≤ c → All (λ b. 128 ≤ b) (encode c)
high_bytes c high k d within =
    let same = get_or_default (encode c) k d 0 within in
    by_test (nat_lt (get_or (encode c) k d) 128) refl same
  where
    by_test : (x : Bool) → nat_lt (get_or (encode c) k d) 128 ≡ x → get_or (encode c) k d ≡ get_or (encode c) k 0 → 128 ≤ get_or (encode c) k d
    by_test true low same =
        let small : get_or (encode c) k 0 < 128 = grind arith in
        let is = inside_one c [] (encode c) k (sym (append-nil (encode c))) within small in
        absurd (omega (arith, is, small, high))
    by_test false past same = grind arith

one_character : (c : ℕ) → normal (encode c) ≡ cond (spec.counts c) (encode (to_ascii_uppercase c)) []
one_character c = grind (arith, nat_tests, encode_ascii, uppercase_ascii, all_high, high_bytes, high_counts, high_stays)

characters : (cs : List ℕ) → normal (encode_utf8_all cs) ≡ encode_utf8_all (map to_ascii_uppercase (filter spec.counts cs))
characters [] = refl
characters (c ∷ cs) = grind (arith, normal_append, one_character, characters cs)

pub normal_bytes : (text : Text) → IsUtf8 text → normal text ≡ spec.normalised text
normal_bytes text utf8 = ap normal (sym (encodes-chars text utf8)) ∙ characters (chars text)
