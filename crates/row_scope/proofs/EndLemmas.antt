-- Sums of the lengths of spans.
use Rattle.std.proofs.Common.{◌≡◌, ℕ, ◌+◌, ◌*◌, ◌≤◌, List, [], ◌∷◌, ◌++◌, All, Some, length, take, drop, get_or, slice_get, sum_by, sym, ap, ◌∙◌, subst, arith}
use Rattle.std.proofs.lemmas.Grind.{common_steps}
use Rattle.std.proofs.Common.{length-drop}
use Rattle.std.proofs.lemmas.List.{length-take-le, drop-take, take-take}
use Rattle.std.proofs.lemmas.List.Elements.{All-head, All-tail, All-take, All-drop}
use Rattle.std.proofs.lemmas.List.Sums.{sum_by_more, sum_by-cons, sum_by-take-drop}
use Rattle.std.proofs.lemmas.Option.{slice_get_within, get_or_from_slice_get}
use Rattle.row_scope.specs.Private.Kept.{AreEnds}

abbrev pub lengths : List (ℕ × ℕ) → ℕ
lengths spans = sum_by (λ span. span.1) spans

pub lengths_more : (spans : List (ℕ × ℕ)) (i : ℕ) (at : ℕ × ℕ) → slice_get spans i ≡ Some at → lengths (take (i + 1) spans) ≡ lengths (take i spans) + at.1
lengths_more spans i at there =
    sum_by_more (λ (span : ℕ × ℕ). span.1) spans i at (slice_get_within spans i at there)
    ∙ ap (λ (span : ℕ × ℕ). lengths (take i spans) + span.1) (get_or_from_slice_get spans i at at there)

-- the sum of one more span comes last
pub ends_more : (spans : List (ℕ × ℕ)) (ends : List ℕ) (i end : ℕ) → length ends ≡ i + 1 → ((k d : ℕ) → k ≤ i → get_or ends k d ≡ lengths (take k spans))
    → end ≡ lengths (take (i + 1) spans) → (k d : ℕ) → k ≤ i + 1 → get_or (ends ++ end ∷ []) k d ≡ lengths (take k spans)
ends_more spans ends i end many sums last k d within = grind (arith, common_steps)

-- the lengths of some spans, from the sums
pub lengths_between : (spans : List (ℕ × ℕ)) (first count : ℕ) → lengths (take (first + count) spans) ≡ lengths (take first spans)
    + lengths (take count (drop first spans))
lengths_between spans first count =
    let whole = sum_by-take-drop (λ (span : ℕ × ℕ). span.1) (take (first + count) spans) first in
    sym whole ∙ ap (λ xs. lengths xs + lengths (drop first (take (first + count) spans))) (take-take first (first + count) spans (omega arith))
    ∙ ap (λ xs. lengths (take first spans) + lengths xs) (drop-take first count spans)

pub lengths_small : (most : ℕ) (spans : List (ℕ × ℕ)) → All (λ span. span.1 ≤ most) spans → lengths spans ≤ length spans * most
lengths_small most [] small = omega arith
lengths_small most (span ∷ spans) small =
    let P = λ (s : ℕ × ℕ). s.1 ≤ most in
    let here = All-head P span spans small in
    let others = lengths_small most spans (All-tail P span spans small) in
    let whole = sum_by-cons (λ (s : ℕ × ℕ). s.1) span spans in
    grind (arith, here, others, whole)

-- the lengths from one sum to another
pub ends_between : (spans : List (ℕ × ℕ)) (ends : List ℕ) (first count upper lower : ℕ) → AreEnds spans ends → first + count ≤ length spans
    → upper ≡ get_or ends (first + count) upper → lower ≡ get_or ends first lower → upper ≡ lower + lengths (take count (drop first spans))
ends_between spans ends first count upper lower summed within to from =
    to ∙ summed.are (first + count) upper within ∙ lengths_between spans first count
    ∙ ap (λ n. n + lengths (take count (drop first spans))) (sym (from ∙ summed.are first lower (omega (arith, within))))

-- and a bound on them
pub few_lengths : (most : ℕ) (spans : List (ℕ × ℕ)) (first count : ℕ) → first + count ≤ length spans → All (λ span. span.1 ≤ most) spans
    → lengths (take count (drop first spans)) ≤ count * most
few_lengths most spans first count within small =
    let P = λ (at : ℕ × ℕ). at.1 ≤ most in
    let many : length (take count (drop first spans)) ≡ count = length-take-le count (drop first spans) (omega (arith, length-drop first spans, within)) in
    subst (λ n. lengths (take count (drop first spans)) ≤ n * most) many
    (lengths_small most (take count (drop first spans)) (All-take P count (drop first spans) (All-drop P first spans small)))
