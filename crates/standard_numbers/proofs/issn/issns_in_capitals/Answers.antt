use Rattle.std.proofs.Common.{◌≡◌, ◌<◌, ◌++◌, ℕ, List, true, length, get_or, map, filter, not, ap, ◌∙◌, sym}
use Rattle.std.specs.Borrow.{Bor}
use Rattle.text_model.specs.Texts.{Text, texts_of}
use Rattle.standard_numbers.specs.Spellings.{spellings}
use Rattle.standard_numbers.specs.Issn.{is_issn, issn_length, issn_of, is_right_issn, counts}
use Rattle.standard_numbers.proofs.Found.{issn_spellings, at_reference}
use Rattle.standard_numbers.proofs.IssnForms.{halves}
use Rattle.standard_numbers.proofs.Ranking.{kept_pushed, kept_in_others, kept_skipped, texts_all}
use Rattle.standard_numbers.proofs.issn.issns_in_capitals.Goals as goal
use Rattle.standard_numbers.proofs.issn.issns_in_capitals.Goals.{then-counts+in_ok-push, else-counts}

-- an ISSN that is found has nine bytes
long_at : (xs : List (Bor Text)) (t : Text) (i : ℕ) (d : Bor Text) → texts_of xs ≡ spellings issn_length t → i < length xs
    → length (issn_of (get_or xs i d).now) ≡ 9
long_at xs t i d e h =
    (halves (issn_of (get_or xs i d).now) (at_reference (λ s. is_issn (issn_of s) ≡ true) xs (spellings issn_length t) i d e (issn_spellings t) h)).long

pub issn_of-requires : goal.issn_of-requires
issn_of-requires c =
    at_reference (λ s. is_issn (issn_of s) ≡ true) c.deref-spelling-items.result.now (spellings issn_length c.args.text.now)
    c.loop-spelling.spelling-index _ (ap texts_of c.deref-spelling-items.ensures.value ∙ c.in_ok-found.ensures) (issn_spellings c.args.text.now)
    c.loop-spelling-test.true

pub counts-requires : goal.counts-requires
counts-requires c =
    ap length (c.as_bytes-bytes.ensures.value ∙ c.as_str.ensures ∙ c.in_ok-issn.ensures)
    ∙ long_at _ c.args.text.now _ _ (ap texts_of c.deref-spelling-items.ensures.value ∙ c.in_ok-found.ensures) c.loop-spelling-test.true

pub is_right_issn-is_right-requires : goal.is_right_issn-is_right-requires
is_right_issn-is_right-requires c =
    ap length (c.as_bytes-bytes.ensures.value ∙ c.as_str.ensures ∙ c.in_ok-issn.ensures)
    ∙ long_at _ c.args.text.now _ _ (ap texts_of c.deref-spelling-items.ensures.value ∙ c.in_ok-found.ensures) c.loop-spelling-test.true

pub loop-spelling-preserved : goal.loop-spelling-preserved
loop-spelling-preserved c =
    let said = c.says_issn-said.result in
    let bytes = c.as_bytes-bytes.ensures.value ∙ c.as_str.ensures in
    let counted = c.counts.ensures ∙ ap (counts said) bytes in
    elim c.if-counts.branch [
      | then-counts+in_ok-push w ↦
          let right = w.is_right_issn-is_right.ensures ∙ ap is_right_issn bytes in
          let first = w.in_ok-push.ensures.right in
          let second = w.in_ok-push.ensures.others in (
            kept_pushed is_right_issn (counts said) issn_of _ _ _ c.loop-spelling-test.true _ _ _ _ c.loop-spelling.invariant.0 c.in_ok-issn.ensures
                (sym counted ∙ w.if-counts.true) (sym right) (ap (λ r. r.right.items) w.ranked-is ∙ first),
            kept_in_others is_right_issn (counts said) issn_of _ _ _ c.loop-spelling-test.true _ _ _ _ c.loop-spelling.invariant.1 c.in_ok-issn.ensures
                (sym counted ∙ w.if-counts.true) (sym right) (ap (λ r. r.others.items) w.ranked-is ∙ second),
          )
      | else-counts w ↦ (
        kept_skipped is_right_issn (counts said) issn_of _ _ _ c.loop-spelling-test.true _ _ _ c.loop-spelling.invariant.0 c.in_ok-issn.ensures
            (sym counted ∙ w.if-counts.false) (ap (λ r. r.right.items) w.ranked-is),
        kept_skipped (λ issn. not (is_right_issn issn)) (counts said) issn_of _ _ _ c.loop-spelling-test.true _ _ _ c.loop-spelling.invariant.1
            c.in_ok-issn.ensures (sym counted ∙ w.if-counts.false) (ap (λ r. r.others.items) w.ranked-is),
      )
    ]

pub returns : goal.returns
returns c =
    let said = c.says_issn-said.result in
    let found = ap texts_of c.deref-spelling-items.ensures.value ∙ c.in_ok-found.ensures in
    let all = texts_all _ _ _ c.loop-spelling-test.false found in
    let ts : List Text = map issn_of (spellings issn_length c.args.text.now) in
    c.in_ok-issns.ensures
    ∙ ap (λ r. r ++ c.loop-spelling.ranked.others.items)
    (c.loop-spelling.invariant.0 ∙ ap (λ s. filter is_right_issn (filter (counts said) (map issn_of s))) all)
    ∙ ap (λ o. filter is_right_issn (filter (counts said) ts) ++ o)
    (c.loop-spelling.invariant.1 ∙ ap (λ s. filter (λ issn. not (is_right_issn issn)) (filter (counts said) (map issn_of s))) all)
    ∙ ap (λ b. filter is_right_issn (filter (counts b) ts) ++ filter (λ issn. not (is_right_issn issn)) (filter (counts b) ts)) c.says_issn-said.ensures
