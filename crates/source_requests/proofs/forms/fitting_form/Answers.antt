use Rattle.std.proofs.Common.{◌≡◌, ◌+◌, ◌++◌, ◌∷◌, [], true, false, cond, get_or, take, drop, sym, ap, subst, ◌∙◌, append-nil, append_assoc, drop_of_length-le}
use Rattle.std.specs.Prelude.{string_bytes}
use Rattle.std.specs.List.{All}
use Rattle.std.proofs.lemmas.List.{take_more}
use Rattle.std.proofs.lemmas.List.Elements.{All-append, All-cons, All-nil}
use Rattle.source_requests.specs.Requests.{IsUtf8Pair, fits, fitting, fitting_after, with_pair}
use Rattle.source_requests.proofs.Fitting.{goes_on, stops, written_more}
use Rattle.source_requests.proofs.forms.fitting_form.Goals as goal

pub returns-then-not-branch-clause-utf8 : goal.returns-then-not-branch-clause-utf8
returns-then-not-branch-clause-utf8 c =
    let pairs = c.args.pairs.now in
    let index = c.loop-pair.pair-index in
    let item = c.pair-item.result in
    let text = string_bytes c.loop-pair.text in
    let refused : fits (with_pair text (get_or pairs index item)) ≡ false =
    ap (λ pair. fits (with_pair text pair)) (sym c.pair-item.is) ∙ sym c.in_ok-push_pair.ensures.fits ∙ c.if-not-branch.true in
    let all : fitting pairs ≡ take index pairs =
    c.loop-pair.invariant.split ∙ ap (λ rest. take index pairs ++ rest) (stops text pairs index item c.loop-pair-test.true refused)
    ∙ append-nil (take index pairs) in
    subst (All IsUtf8Pair) (sym all) c.loop-pair.invariant.utf8

pub loop-pair-preserved : goal.loop-pair-preserved
loop-pair-preserved c =
    let pairs = c.args.pairs.now in
    let index = c.loop-pair.pair-index in
    let item = c.pair-item.result in
    let text = string_bytes c.loop-pair.text in
    let pair = get_or pairs index item in
    let within = c.loop-pair-test.true in
    let is : item ≡ pair = c.pair-item.is in
    let taken : fits (with_pair text item) ≡ true = sym c.in_ok-push_pair.ensures.fits ∙ c.if-not-branch.false in
    let more : string_bytes c.push_pair.new.text ≡ with_pair text pair =
    c.in_ok-push_pair.ensures.text ∙ ap (λ b. cond b (with_pair text item) text) taken ∙ ap (with_pair text) is in
    let rest = goes_on text pairs index item within (ap (λ p. fits (with_pair text p)) (sym is) ∙ taken) in
    record {
      split = c.loop-pair.invariant.split ∙ ap (λ later. take index pairs ++ later) rest
          ∙ sym (append_assoc (take index pairs) (pair ∷ []) (fitting_after (with_pair text pair) (drop (index + 1) pairs)))
          ∙ ap (λ first. first ++ fitting_after (with_pair text pair) (drop (index + 1) pairs)) (sym (take_more pairs index item within))
          ∙ ap (λ t. take (index + 1) pairs ++ fitting_after t (drop (index + 1) pairs)) (sym more);
      text = more ∙ ap (λ t. with_pair t pair) c.loop-pair.invariant.text ∙ sym (written_more pairs index item within);
      utf8 = subst (All IsUtf8Pair) (sym (take_more pairs index item within))
          (All-append IsUtf8Pair (take index pairs) (pair ∷ []) c.loop-pair.invariant.utf8
          (All-cons IsUtf8Pair pair [] (subst IsUtf8Pair is c.in_ok-push_pair.ensures.utf8) (All-nil IsUtf8Pair)));
    }

pub returns-clause-utf8 : goal.returns-clause-utf8
returns-clause-utf8 c =
    let pairs = c.args.pairs.now in
    let index = c.loop-pair.pair-index in
    let all : fitting pairs ≡ take index pairs =
    c.loop-pair.invariant.split
    ∙ ap (λ rest. take index pairs ++ fitting_after (string_bytes c.loop-pair.text) rest) (drop_of_length-le pairs c.loop-pair-test.false)
    ∙ append-nil (take index pairs) in
    subst (All IsUtf8Pair) (sym all) c.loop-pair.invariant.utf8
