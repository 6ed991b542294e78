-- The code points of UTF-8 are its characters.
use Rattle.std.proofs.Common.{◌≡◌, ℕ, ◌+◌, ◌%◌, ◌≤◌, List, [], ◌∷◌, ◌++◌, length, take, map, true, false, cond, refl, ap, ◌∙◌, arith}
use Rattle.std.specs.Prelude.{encode_utf8_all}
use Rattle.std.specs.Char.{encode_utf8}
use Rattle.std.specs.List.{prefix_len, take-map}
use Rattle.std.proofs.Math.Seq.{take-append_seam, drop-append_seam}
use Rattle.std.proofs.lemmas.List.Folds.{prefix_len-append}
use Rattle.text_model.specs.Texts.{Text}
use Rattle.text_model.specs.Cut.{is_continuation, code_points, joined, cut}
use Rattle.text_model.specs.declared.writing.Writing.TheVariants.{U}
use Rattle.text_model.proofs.Cuts.{code_points-next}

-- a byte that begins a character, and bytes that continue with it
data IsCharacter : Text → Type 0 where
  character : (b : ℕ) (rest : Text) → is_continuation b ≡ false → prefix_len is_continuation rest ≡ length rest → IsCharacter (b ∷ rest)

following : (x : ℕ) → is_continuation (128 + x % 64) ≡ true
following x = grind arith

leading : (b : ℕ) → 192 ≤ b → is_continuation b ≡ false
leading b h = grind arith

following_one : (x : ℕ) → prefix_len is_continuation ((128 + x % 64) ∷ []) ≡ 1
following_one x = ap (λ b. cond b (1 + 0) 0) (following x)

following_two : (x y : ℕ) → prefix_len is_continuation ((128 + x % 64) ∷ (128 + y % 64) ∷ []) ≡ 2
following_two x y = ap (λ b. cond b (1 + prefix_len is_continuation ((128 + y % 64) ∷ [])) 0) (following x) ∙ ap (λ n. 1 + n) (following_one y)

following_three : (x y z : ℕ) → prefix_len is_continuation ((128 + x % 64) ∷ (128 + y % 64) ∷ (128 + z % 64) ∷ []) ≡ 3
following_three x y z = ap (λ b. cond b (1 + prefix_len is_continuation ((128 + y % 64) ∷ (128 + z % 64) ∷ [])) 0) (following x)
    ∙ ap (λ n. 1 + n) (following_two y z)

encode_utf8-character : (c : ℕ) → IsCharacter (encode_utf8 c)
unfolding encode_utf8
encode_utf8-character c = grind (arith, character, leading, following_one, following_two, following_three)

-- the text does not begin with a byte that continues a character before it
begins_anew : Text → Type 0
begins_anew t = prefix_len is_continuation t ≡ 0

new_character : (bs t : Text) → IsCharacter bs → begins_anew (bs ++ t)
unfolding begins_anew
new_character _ t (character b rest h r) = ap (λ x. cond x (1 + prefix_len is_continuation (rest ++ t)) 0) h

encode_utf8_all-anew : (cs : List ℕ) → begins_anew (encode_utf8_all cs)
unfolding begins_anew
encode_utf8_all-anew [] = refl
encode_utf8_all-anew (c ∷ cs) = new_character (encode_utf8 c) (encode_utf8_all cs) (encode_utf8-character c)

run_through : (rest t : Text) → prefix_len is_continuation rest ≡ length rest → begins_anew t → prefix_len is_continuation (rest ++ t) ≡ length rest
unfolding begins_anew
run_through rest t r a = grind (arith, prefix_len-append)

next_character : (bs t : Text) → IsCharacter bs → begins_anew t → code_points (bs ++ t) ≡ bs ∷ code_points t
next_character _ t (character b rest h r) a = grind (arith, code_points-next, run_through, take-append_seam, drop-append_seam)

pub code_points-encode_utf8_all : (cs : List ℕ) → code_points (encode_utf8_all cs) ≡ map encode_utf8 cs
unfolding code_points
code_points-encode_utf8_all [] = refl
code_points-encode_utf8_all (c ∷ cs) =
    next_character (encode_utf8 c) (encode_utf8_all cs) (encode_utf8-character c) (encode_utf8_all-anew cs)
    ∙ ap (λ x. encode_utf8 c ∷ x) (code_points-encode_utf8_all cs)

joined-encode_utf8 : (cs : List ℕ) → joined (map encode_utf8 cs) ≡ encode_utf8_all cs
joined-encode_utf8 [] = refl
joined-encode_utf8 (c ∷ cs) = ap (λ x. encode_utf8 c ++ x) (joined-encode_utf8 cs)

pub cut-encode_utf8_all : (cs : List ℕ) (n : ℕ) → cut U (encode_utf8_all cs) n ≡ encode_utf8_all (take n cs)
cut-encode_utf8_all cs n =
    ap (λ x. joined (take n x)) (code_points-encode_utf8_all cs) ∙ (ap joined (take-map encode_utf8 n cs) ∙ joined-encode_utf8 (take n cs))
