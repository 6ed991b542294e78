-- UTF-8 is bytes.
use Rattle.std.proofs.Common.{◌≡◌, ℕ, ◌+◌, ◌/◌, ◌%◌, ◌<◌, true, List, [], ◌∷◌, subst, arith, ltb}
use Rattle.std.specs.Prelude.{encode_utf8, encode_utf8_all}
use lib.Utf8.{encode}
use Rattle.std.specs.Char.{IsScalar}
use Rattle.std.specs.List.{All}
use Rattle.std.specs.Str.{IsUtf8, all_scalars}
use Rattle.std.proofs.lemmas.Bool.{and_parts, cond_both, ltb-true}
use Rattle.std.proofs.lemmas.Bool.Decides.{nat_tests}
use Rattle.std.proofs.lemmas.List.Elements.{All-nil, All-cons, All-append}
use Rattle.percent_encoding.proofs.PercentLemmas.{IsByte}
use Rattle.text_model.specs.Texts.{Text}

in_range : (c : ℕ) → IsScalar c → c < 0x110000
in_range c h = grind (arith, nat_tests)

two : (a b : ℕ) → a < 256 → b < 256 → All IsByte (a ∷ b ∷ [])
two a b h k = All-cons IsByte a (b ∷ []) h (All-cons IsByte b [] k (All-nil IsByte))

encoded_bytes : (c : ℕ) → c < 0x110000 → All IsByte (encode_utf8 c)
unfolding encode
encoded_bytes c h =
    cond_both (ltb c 128) (c ∷ []) _ (All IsByte) (λ e. All-cons IsByte c [] (omega (arith, ltb-true c 128 e)) (All-nil IsByte))
    (λ e. cond_both (ltb c 2048) ((192 + c / 64) ∷ (128 + c % 64) ∷ []) _ (All IsByte)
    (λ k. two (192 + c / 64) (128 + c % 64) (omega (arith, ltb-true c 2048 k)) (omega arith))
    (λ k. cond_both (ltb c 65536) ((224 + c / 4096) ∷ (128 + c / 64 % 64) ∷ (128 + c % 64) ∷ []) _ (All IsByte)
    (λ j. All-cons IsByte (224 + c / 4096) ((128 + c / 64 % 64) ∷ (128 + c % 64) ∷ []) (omega (arith, ltb-true c 65536 j))
    (two (128 + c / 64 % 64) (128 + c % 64) (omega arith) (omega arith)))
    (λ j. All-append IsByte ((240 + c / 262144) ∷ (128 + c / 4096 % 64) ∷ []) ((128 + c / 64 % 64) ∷ (128 + c % 64) ∷ [])
    (two (240 + c / 262144) (128 + c / 4096 % 64) (omega arith) (omega arith))
    (two (128 + c / 64 % 64) (128 + c % 64) (omega arith) (omega arith)))))

all_bytes : (cs : List ℕ) → all_scalars cs ≡ true → All IsByte (encode_utf8_all cs)
all_bytes [] h = All-nil IsByte
all_bytes (c ∷ cs) h =
    let both = and_parts _ (all_scalars cs) h in
    All-append IsByte (encode_utf8 c) (encode_utf8_all cs) (encoded_bytes c (in_range c both.0)) (all_bytes cs both.1)

pub utf8_bytes : (t : Text) → IsUtf8 t → All IsByte t
utf8_bytes t is = subst (All IsByte) is.1.1 (all_bytes is.0 is.1.0)
