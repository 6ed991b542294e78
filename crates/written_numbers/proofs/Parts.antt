-- The parts of a text between bytes of a kind, and texts that are made of parts.
use Rattle.std.proofs.Common.{◌≡◌, ℕ, ◌<◌, ◌≤◌, ◌+◌, Bool, true, false, List, [], ◌∷◌, ◌++◌, length, get_or, map, filter, encode_utf8, encode_utf8_all}
use Rattle.std.proofs.Common.{refl, sym, ap, ◌∙◌, subst, append-nil, eq-eqb, arith}
use Rattle.std.specs.Prelude.{◌==◌}
use Rattle.std.specs.Char.{IsScalar}
use Rattle.std.specs.List.{All, count_by, fold, join_with_byte, onto_first, slice_split}
use Rattle.std.specs.Str.{IsUtf8, all_scalars}
use Rattle.std.proofs.lemmas.Bool.{and_parts, cond_both, eqb-true}
use Rattle.std.proofs.lemmas.Bool.Decides.{nat_tests}
use Rattle.std.proofs.lemmas.List.{length-append, get_or_default}
use Rattle.std.proofs.lemmas.List.Elements.{All-head, All-tail}
use Rattle.std.proofs.lemmas.List.Splits.{slice_split-cons_yes, slice_split-cons_no, join_with_byte-slice_split, length-slice_split}
use Rattle.std.proofs.lemmas.Str.{IsUtf8-nil, IsUtf8-append, IsUtf8-encode, encode_ascii, inside_one}
use Rattle.text_model.specs.Texts.{Text}

-- ---- parts that are UTF-8

abbrev pub AreUtf8 : List Text → Type 0
AreUtf8 [] = Unit {0}
AreUtf8 (t ∷ ts) = IsUtf8 t × AreUtf8 ts

with_front : Text → List Text → List Text
with_front [] parts = parts
with_front (b ∷ front) parts = onto_first b (with_front front parts)

split_front : (p : ℕ → Bool) (front t : Text) → All (λ b. p b ≡ false) front → slice_split p (front ++ t) ≡ with_front front (slice_split p t)
unfolding with_front
split_front p [] t h = refl
split_front p (b ∷ front) t h =
    slice_split-cons_no p b (front ++ t) (All-head (λ x. p x ≡ false) b front h)
    ∙ ap (λ u. onto_first b u) (split_front p front t (All-tail (λ x. p x ≡ false) b front h))

front_first : (front part : Text) (parts : List Text) → with_front front (part ∷ parts) ≡ (front ++ part) ∷ parts
unfolding with_front
front_first [] part parts = refl
front_first (b ∷ front) part parts = ap (λ u. onto_first b u) (front_first front part parts)

front_alone : (b : ℕ) (front : Text) → with_front (b ∷ front) [] ≡ (b ∷ front) ∷ []
unfolding with_front
front_alone b [] = refl
front_alone b (d ∷ front) = ap (λ u. onto_first b u) (front_alone d front)

front_utf8 : (front : Text) (parts : List Text) → IsUtf8 front → AreUtf8 parts → AreUtf8 (with_front front parts)
unfolding with_front
front_utf8 front (part ∷ parts) utf8 are =
    subst AreUtf8 (sym (front_first front part parts)) (IsUtf8-append front part utf8 are.0, are.1)
front_utf8 [] [] utf8 are = tt
front_utf8 (b ∷ front) [] utf8 are = subst AreUtf8 (sym (front_alone b front)) (utf8, tt)

-- another character has no such byte
none_in : (c d : ℕ) → c < 128 → (d == c) ≡ false → All (λ b. (b == c) ≡ false) (encode_utf8 d)
none_in c d ascii other = λ k e l. by_test k e l (get_or (encode_utf8 d) k e == c) refl
  where
    by_test : (k e : ℕ) → k < length (encode_utf8 d) → (x : Bool) → (get_or (encode_utf8 d) k e == c) ≡ x → (get_or (encode_utf8 d) k e == c) ≡ false
    by_test k e l false g = g
    by_test k e l true g =
        let at : get_or (encode_utf8 d) k 0 ≡ c = get_or_default (encode_utf8 d) k 0 e l ∙ eqb-true (get_or (encode_utf8 d) k e) c g in
        let same : d ≡ get_or (encode_utf8 d) k 0 =
        inside_one d [] (encode_utf8 d) k (sym (append-nil (encode_utf8 d))) l (subst (λ b. b < 128) (sym at) ascii) in
        let yes : (d == c) ≡ true = eq-eqb d c (same ∙ at) in cc

split_utf8 : (c : ℕ) → c < 128 → (cs : List ℕ) → all_scalars cs ≡ true → AreUtf8 (slice_split (λ b. b == c) (encode_utf8_all cs))
split_utf8 c ascii [] are = (IsUtf8-nil, tt)
split_utf8 c ascii (d ∷ cs) are =
    let parts = and_parts _ (all_scalars cs) are in
    by_test (d == c) refl parts.0 (split_utf8 c ascii cs parts.1)
  where
    by_test : (x : Bool) → (d == c) ≡ x → IsScalar d → AreUtf8 (slice_split (λ b. b == c) (encode_utf8_all cs))
        → AreUtf8 (slice_split (λ b. b == c) (encode_utf8 d ++ encode_utf8_all cs))
    by_test true e is rest =
        let one : encode_utf8 d ≡ d ∷ [] = encode_ascii d (subst (λ x. x < 128) (sym (eqb-true d c e)) ascii) in
        subst (λ u. AreUtf8 (slice_split (λ b. b == c) (u ++ encode_utf8_all cs))) (sym one)
        (subst AreUtf8 (sym (slice_split-cons_yes (λ b. b == c) d (encode_utf8_all cs) e)) (IsUtf8-nil, rest))
    by_test false e is rest =
        subst AreUtf8 (sym (split_front (λ b. b == c) (encode_utf8 d) (encode_utf8_all cs) (none_in c d ascii e)))
        (front_utf8 (encode_utf8 d) (slice_split (λ b. b == c) (encode_utf8_all cs)) (IsUtf8-encode d is) rest)

-- a text that is cut at bytes of ASCII
pub parts_utf8 : (c : ℕ) → c < 128 → (t : Text) → IsUtf8 t → AreUtf8 (slice_split (λ b. b == c) t)
parts_utf8 c ascii t utf8 = subst (λ u. AreUtf8 (slice_split (λ b. b == c) u)) utf8.1.1 (split_utf8 c ascii utf8.0 utf8.1.0)

pub map_utf8 : (f : Text → Text) → ((t : Text) → IsUtf8 t → IsUtf8 (f t)) → (parts : List Text) → AreUtf8 parts → AreUtf8 (map f parts)
map_utf8 f h [] are = tt
map_utf8 f h (t ∷ ts) are = (h t are.0, map_utf8 f h ts are.1)

pub filter_utf8 : (p : Text → Bool) (parts : List Text) → AreUtf8 parts → AreUtf8 (filter p parts)
filter_utf8 p [] are = tt
filter_utf8 p (t ∷ ts) are =
    cond_both (p t) (t ∷ filter p ts) (filter p ts) AreUtf8 (λ e. (are.0, filter_utf8 p ts are.1)) (λ e. filter_utf8 p ts are.1)

pub fold_utf8 : (step : Text → Text → Text) → ((a b : Text) → IsUtf8 a → IsUtf8 b → IsUtf8 (step a b)) → (before : Text) (parts : List Text)
    → IsUtf8 before → AreUtf8 parts → IsUtf8 (fold step before parts)
fold_utf8 step h before [] utf8 are = utf8
fold_utf8 step h before (t ∷ ts) utf8 are = fold_utf8 step h (step before t) ts (h before t utf8 are.0) are.1

-- ---- how long texts are that are made of parts

-- what is after the first part, with a byte between two parts
abbrev pub spread : ℕ → List Text → ℕ
spread c [] = 0
spread c (t ∷ ts) = 1 + length t + spread c ts

pub length_joined : (c : ℕ) (t : Text) (ts : List Text) → length (join_with_byte c (t ∷ ts)) ≡ length t + spread c ts
length_joined c t [] = omega arith
length_joined c t (u ∷ ts) = omega (arith, length-append t (c ∷ join_with_byte c (u ∷ ts)), length_joined c u ts)

pub spread_parts : (c : ℕ) (t part : Text) (parts : List Text) → slice_split (λ b. b == c) t ≡ part ∷ parts → length part + spread c parts ≡ length t
spread_parts c t part parts is =
    omega (arith, length_joined c part parts, ap length (ap (λ u. join_with_byte c u) (sym is) ∙ join_with_byte-slice_split c t))

pub spread_map : (c : ℕ) (f : Text → Text) → ((t : Text) → length (f t) ≤ length t) → (parts : List Text) → spread c (map f parts) ≤ spread c parts
spread_map c f h [] = omega arith
spread_map c f h (t ∷ ts) = omega (arith, h t, spread_map c f h ts)

pub fold_short : (c : ℕ) (step : Text → Text → Text) → ((a b : Text) → length (step a b) ≤ length a + 1 + length b) → (before : Text) (parts : List Text)
    → length (fold step before parts) ≤ length before + spread c parts
fold_short c step h before [] = omega arith
fold_short c step h before (t ∷ ts) = omega (arith, h before t, fold_short c step h (step before t) ts)

-- one part at least
pub some_part : (P : List Text → Type 0) (p : ℕ → Bool) (t : Text) → ((part : Text) (parts : List Text) → slice_split p t ≡ part ∷ parts → P (part ∷ parts))
    → P (slice_split p t)
some_part P p t h = by_parts (slice_split p t) refl (length-slice_split p t)
  where
    by_parts : (parts : List Text) → slice_split p t ≡ parts → length (slice_split p t) ≡ count_by p t + 1 → P parts
    by_parts [] e size = absurd (omega (arith, size, ap length e))
    by_parts (part ∷ parts) e size = h part parts e

-- a byte at least
pub not_empty : (b : ℕ) (t : Text) → (length (b ∷ t) == 0) ≡ false
not_empty b t = grind (arith, nat_tests)
