use Rattle.std.proofs.Common.{◌≡◌, ◌+◌, ◌++◌, ◌∷◌, [], ap, sym, ◌∙◌, drop, append-nil, append_assoc}
use Rattle.std.proofs.lemmas.List.{drop_all, drop_more}
use Rattle.latex_text.specs.Places as spec
use Rattle.latex_text.proofs.places.places_in.Goals as goal

pub loop-byte-preserved : goal.loop-byte-preserved
loop-byte-preserved c =
    let text = c.args.text.now in
    let place = c.loop-byte.place in
    let before = c.loop-byte.places.items in
    let rest = drop (c.loop-byte.byte-index + 1) text in
    ap (λ s. s ++ spec.places c.next-place.result rest) c.in_ok-push.ensures.items
    ∙ ap (λ p. (before ++ place ∷ []) ++ spec.places p rest) c.next-place.ensures
    ∙ append_assoc before (place ∷ []) _
    ∙ sym (ap (λ t. before ++ spec.places place t) (drop_more text c.loop-byte.byte-index 0 c.loop-byte-test.true)) ∙ c.loop-byte.invariant

pub returns : goal.returns
returns c =
    let all = c.loop-byte.places.items in
    sym (append-nil all)
    ∙ sym (ap (λ t. all ++ spec.places c.loop-byte.place t) (drop_all c.loop-byte.byte-index c.args.text.now c.loop-byte-test.false))
    ∙ c.loop-byte.invariant
