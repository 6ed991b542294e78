use Rattle.std.proofs.Common.{◌≡◌, ◌+◌, [], ap, sym, ◌∙◌, drop}
use Rattle.std.proofs.lemmas.List.{drop_all, drop_more}
use Rattle.title_markup.specs.Titles.{read, read_after}
use Rattle.title_markup.proofs.titles.read.Goals as goal

pub loop-byte-preserved : goal.loop-byte-preserved
loop-byte-preserved c =
    let text = c.args.title.now in
    let i = c.loop-byte.byte-index in
    ap (λ s. read_after s (drop (i + 1) text)) c.in_ok-push_settled.ensures
    ∙ sym (ap (λ t. read_after c.loop-byte.text.items t) (drop_more text i 0 c.loop-byte-test.true)) ∙ c.loop-byte.invariant

pub returns : goal.returns
unfolding read
returns c =
    let text = c.loop-byte.text.items in
    sym (ap (λ t. read_after text t) (drop_all c.loop-byte.byte-index c.args.title.now c.loop-byte-test.false)) ∙ c.loop-byte.invariant
