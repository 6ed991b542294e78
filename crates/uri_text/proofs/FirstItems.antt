-- The item at the beginning of a text.
use Rattle.std.proofs.Common.{◌≡◌, ℕ, suc, ◌+◌, ◌<◌, ◌-◌, ◌≤◌, ◌⊎◌, inl, inr, append_assoc, append-nil, List, [], ◌∷◌, ◌++◌, length, take, drop, Bool, true}
use Rattle.std.proofs.Common.{false, cond, ◌&&◌, not, add-one, refl, ap, ◌∙◌, arith}
use Rattle.std.specs.Prelude.{if◌then◌else◌}
use Rattle.std.specs.List.{prefix_len}
use Rattle.std.proofs.lemmas.Bool.{and_parts}
use Rattle.std.proofs.lemmas.Bool.Decides.{nat_tests}
use Rattle.std.proofs.Math.Seq.{take-add}
use Rattle.std.proofs.lemmas.List.{drop-drop, length-drop}
use Rattle.std.proofs.lemmas.List.Sums.{prefix_len-le-length}
use Rattle.std.proofs.lemmas.Grind.{common_steps}
use Rattle.text_model.specs.Texts.{Text, is_hexadecimal, is_triplet}
use Rattle.text_model.specs.Cut.{is_continuation, code_points, with_triplets, items, cut}
use Rattle.text_model.proofs.Cuts.{code_points-next, begins_with_triplet_points, with_triplets-first, with_triplets-triplet, cut-nothing}
use Rattle.uri_text.specs.Prefix.{writing_of}
use Rattle.uri_text.specs.Private.Items.{continues, code_point_length, begins_with_triplet_item, item_length}

hexadecimal_alone : (b : ℕ) → is_hexadecimal b ≡ true → is_continuation b ≡ false
hexadecimal_alone b h = grind (arith, nat_tests)

run_alone : (t : Text) → continues t ≡ false → prefix_len is_continuation t ≡ 0
run_alone t e = grind (arith, common_steps)

-- a byte that is not continued is a code point
code_points-alone : (b : ℕ) (t : Text) → continues t ≡ false → code_points (b ∷ t) ≡ (b ∷ []) ∷ code_points t
code_points-alone b t e = code_points-next b t ∙ ap (λ k. (b ∷ take k t) ∷ code_points (drop k t)) (run_alone t e)

-- a byte that is continued is not
code_points-longer : (b : ℕ) (t : Text) → continues t ≡ true → (c : ℕ) × (front : Text) × (points : List Text)
    × (code_points (b ∷ t) ≡ (b ∷ c ∷ front) ∷ points)
code_points-longer b [] e = absurd (cc)
code_points-longer b (c ∷ t) e =
    let k = prefix_len is_continuation t in
    let more : prefix_len is_continuation (c ∷ t) ≡ suc k = ap (λ x. cond x (1 + k) 0) e ∙ omega arith in
    (c, take k t, code_points (drop k t), code_points-next b (c ∷ t) ∙ ap (λ n. (b ∷ take n (c ∷ t)) ∷ code_points (drop n (c ∷ t))) more)

long_first : (b c : ℕ) (front : Text) (points : List Text) → begins_with_triplet_points (b ∷ c ∷ front) points ≡ false
long_first b c front points = grind (arith, common_steps)

long_second : (b c d : ℕ) (front : Text) (points : List Text) → begins_with_triplet_points (b ∷ []) ((c ∷ d ∷ front) ∷ points) ≡ false
long_second b c d front points = grind (arith, common_steps)

-- whether the third code point is a single byte
by_third : (b c d : ℕ) (t : Text) (x : Bool) → continues t ≡ x → (is_triplet b c d && not (continues t)) ≡ false
    → begins_with_triplet_points (b ∷ []) ((c ∷ []) ∷ code_points (d ∷ t)) ≡ false
by_third b c d t true e h =
    let longer = code_points-longer d t e in
    ap (λ points. begins_with_triplet_points (b ∷ []) ((c ∷ []) ∷ points)) longer.3
by_third b c d t false e h = grind (arith, code_points-alone)

by_second : (b c : ℕ) (t : Text) (x : Bool) → continues t ≡ x → begins_with_triplet_item (b ∷ c ∷ t) ≡ false
    → begins_with_triplet_points (b ∷ []) (code_points (c ∷ t)) ≡ false
unfolding code_points
by_second b c t true e h =
    let longer = code_points-longer c t e in
    ap (begins_with_triplet_points (b ∷ [])) longer.3 ∙ long_second b c longer.0 longer.1 longer.2
by_second b c [] false e h = ap (begins_with_triplet_points (b ∷ [])) (code_points-next c [])
by_second b c (d ∷ t) false e h = ap (begins_with_triplet_points (b ∷ [])) (code_points-alone c (d ∷ t) e) ∙ by_third b c d t (continues t) refl h

by_first : (b : ℕ) (t : Text) (x : Bool) → continues t ≡ x → begins_with_triplet_item (b ∷ t) ≡ false
    → begins_with_triplet_points (b ∷ take (prefix_len is_continuation t) t) (code_points (drop (prefix_len is_continuation t) t)) ≡ false
unfolding code_points
by_first b [] true e h = absurd (cc)
by_first b (c ∷ t) true e h =
    let k = prefix_len is_continuation t in
    let more : prefix_len is_continuation (c ∷ t) ≡ suc k = ap (λ x. cond x (1 + k) 0) e ∙ omega arith in
    rw more (long_first b c (take k t) (code_points (drop k t)))
by_first b [] false e h = refl
by_first b (c ∷ t) false e h = rw (run_alone (c ∷ t) e) (by_second b c t (continues t) refl h)

-- without a triplet at the beginning the first code point is the first item
other_item : (b : ℕ) (t : Text) → begins_with_triplet_item (b ∷ t) ≡ false
    → with_triplets (code_points (b ∷ t)) ≡ (b ∷ take (prefix_len is_continuation t) t) ∷ with_triplets (code_points (drop (prefix_len is_continuation t) t))
other_item b t h = ap with_triplets (code_points-next b t) ∙ with_triplets-first _ _ (by_first b t (continues t) refl h)

-- a triplet at the beginning is the first item
triplet_item : (b high low : ℕ) (t : Text) → begins_with_triplet_item (b ∷ high ∷ low ∷ t) ≡ true
    → with_triplets (code_points (b ∷ high ∷ low ∷ t)) ≡ (b ∷ high ∷ low ∷ []) ∷ with_triplets (code_points t)
triplet_item b high low t h = grind (arith, and_parts, code_points-alone, hexadecimal_alone, with_triplets-triplet)

pub first_item : (triplets : Bool) (t : Text) → 0 < length t
    → items (writing_of triplets) t ≡ take (item_length triplets t) t ∷ items (writing_of triplets) (drop (item_length triplets t) t)
first_item triplets [] l = absurd (omega arith)
first_item false (b ∷ t) l = rw add-one (code_points-next b t)
first_item true (b ∷ t) l = by_test (begins_with_triplet_item (b ∷ t)) refl
  where
    by_test : (x : Bool) → begins_with_triplet_item (b ∷ t) ≡ x
        → with_triplets (code_points (b ∷ t)) ≡ take (if x then 3 else code_point_length (b ∷ t)) (b ∷ t) ∷ with_triplets
        (code_points (drop (if x then 3 else code_point_length (b ∷ t)) (b ∷ t)))
    by_test true h = grind (arith, triplet_item)
    by_test false h = rw add-one (other_item b t h)

code_point_length-within : (t : Text) → code_point_length t ≤ length t
code_point_length-within t = grind (arith, prefix_len-le-length)

-- an item ends within its text
pub item_length-within : (triplets : Bool) (t : Text) → item_length triplets t ≤ length t
item_length-within false t = code_point_length-within t
item_length-within true t = grind (arith, code_point_length-within)

-- one more item belongs to the cut
pub next_item : (triplets : Bool) (t : Text) (taken left : ℕ) → taken < length t → 0 < left
    → take taken t ++ cut (writing_of triplets) (drop taken t) left
    ≡ take (taken + item_length triplets (drop taken t)) t ++ cut (writing_of triplets) (drop (taken + item_length triplets (drop taken t)) t) (left - 1)
next_item triplets t taken left inside some = grind (arith, length-drop, first_item, append_assoc, take-add, drop-drop) steps 400000

-- the cut is complete if no more items are needed, or no text is left
pub all_taken : (triplets : Bool) (t : Text) (taken left : ℕ) → (left ≡ 0) ⊎ (length t ≤ taken)
    → take taken t ++ cut (writing_of triplets) (drop taken t) left ≡ take taken t
all_taken triplets t taken left (inl none) = ap (λ n. take taken t ++ cut (writing_of triplets) (drop taken t) n) none ∙ append-nil (take taken t)
all_taken triplets t taken left (inr long) = grind (arith, length-drop, cut-nothing, append-nil)

pub ruleset lengths = (item_length-within)
