-- Characters and the bytes that they have as text.
use Rattle.std.proofs.Common.{◌≡◌, ℕ, ◌≤◌, List, [], ◌∷◌, ◌++◌, length, drop, take, ap, ◌∙◌, sym, arith, append-nil, take-append-drop, length-append}
use Rattle.std.proofs.Common.{encode_utf8, encode_utf8_all}
use Rattle.std.proofs.lemmas.Str.{encodes-append}

pub encodes_push : (xs : List ℕ) (c : ℕ) → encode_utf8_all (xs ++ c ∷ []) ≡ encode_utf8_all xs ++ encode_utf8 c
encodes_push xs c = encodes-append xs (c ∷ []) ∙ ap (λ t. encode_utf8_all xs ++ t) (append-nil (encode_utf8 c))

pub length-encodes-take : (cs : List ℕ) (i : ℕ) → length (encode_utf8_all (take i cs)) ≤ length (encode_utf8_all cs)
length-encodes-take cs i =
    let whole = ap length (ap encode_utf8_all (sym (take-append-drop i cs)) ∙ encodes-append (take i cs) (drop i cs)) in
    omega (arith, whole, length-append (encode_utf8_all (take i cs)) (encode_utf8_all (drop i cs)))

pub length-encodes-drop : (cs : List ℕ) (i : ℕ) → length (encode_utf8_all (drop i cs)) ≤ length (encode_utf8_all cs)
length-encodes-drop cs i =
    let whole = ap length (ap encode_utf8_all (sym (take-append-drop i cs)) ∙ encodes-append (take i cs) (drop i cs)) in
    omega (arith, whole, length-append (encode_utf8_all (take i cs)) (encode_utf8_all (drop i cs)))
