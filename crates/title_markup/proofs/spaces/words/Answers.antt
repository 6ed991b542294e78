use Rattle.std.proofs.Common.{◌≡◌, ◌++◌, [], ap, sym, ◌∙◌, not, drop, append-nil}
use Rattle.std.specs.Prelude.{◌&&◌, ◌||◌}
use Rattle.std.proofs.lemmas.List.{drop_all}
use Rattle.title_markup.specs.Spaces.{words_after, words}
use Rattle.title_markup.proofs.Words.{words_after_byte}
use Rattle.title_markup.proofs.spaces.words.Goals as goal
use Rattle.title_markup.proofs.spaces.words.Goals.{then-has_begun, else-has_begun, then-has_begun-2, else-has_begun-2}

pub loop-byte-preserved : goal.loop-byte-preserved
loop-byte-preserved c =
    let begun = c.loop-byte.has_begun in
    let gap = c.loop-byte.has_gap in
    let is = c.is_space-is_space.result in
    let passed : c.if-has_begun.push_written ≡ (begun && gap) =
    elim c.if-has_begun.branch [
      | then-has_begun w ↦ w.push_written-is ∙ sym (ap (λ b. b && gap) w.if-has_begun.true)
      | else-has_begun w ↦ w.push_written-is ∙ w.if-has_begun.false ∙ sym (ap (λ b. b && gap) w.if-has_begun.false)
    ] in
    let next : c.if-has_begun-2.has_begun ≡ (begun || not is) =
    elim c.if-has_begun-2.branch [
      | then-has_begun-2 w ↦ w.has_begun-is ∙ w.if-has_begun-2.true ∙ sym (ap (λ b. b || not is) w.if-has_begun-2.true)
      | else-has_begun-2 w ↦ w.has_begun-is ∙ sym (ap (λ b. b || not is) w.if-has_begun-2.false)
    ] in
    let next_gap : c.if-has_begun-2.has_gap ≡ is =
    elim c.if-has_begun-2.branch [
      | then-has_begun-2 w ↦ w.has_gap-is
      | else-has_begun-2 w ↦ w.has_gap-is
    ] in
    words_after_byte c.args.text.now c.loop-byte.words.items _ _ c.loop-byte.byte-index begun gap _ _ is _ c.loop-byte-test.true
    c.is_space-is_space.ensures passed next next_gap c.in_ok-push_written.ensures c.loop-byte.invariant

pub returns : goal.returns
unfolding words
returns c =
    let all = c.loop-byte.words.items in
    sym (append-nil all)
    ∙ sym (ap (λ t. all ++ words_after c.loop-byte.has_begun c.loop-byte.has_gap t) (drop_all c.loop-byte.byte-index c.args.text.now c.loop-byte-test.false))
    ∙ c.loop-byte.invariant
