use Rattle.std.proofs.Common.{◌++◌, List, map, filter, not, ap, ◌∙◌, sym, subst}
use Rattle.std.specs.Char.{to_ascii_uppercase}
use Rattle.std.proofs.lemmas.List.{map-append}
use Rattle.text_model.specs.Texts.{Text, texts_of}
use Rattle.standard_numbers.specs.Spellings.{spellings}
use Rattle.standard_numbers.specs.Isbn.{isbn_length, compact, isbn_of, is_right_isbn}
use Rattle.standard_numbers.proofs.Found.{isbn_spellings, at_reference}
use Rattle.standard_numbers.proofs.IsbnPlaces.{AreIsbnDigits}
use Rattle.standard_numbers.proofs.Ranking.{chosen_pushed, chosen_in_others, texts_all}
use Rattle.standard_numbers.proofs.isbn.isbns_in.Goals as goal

pub isbn_of-requires : goal.isbn_of-requires
isbn_of-requires c =
    let found = ap texts_of c.deref-spelling-items.ensures.value ∙ c.in_ok-found.ensures in
    let digits = at_reference (λ s. AreIsbnDigits (compact s)) c.deref-spelling-items.result.now (spellings isbn_length c.deref.result.now)
    c.loop-spelling.spelling-index _ found (isbn_spellings c.deref.result.now) c.loop-spelling-test.true in
    subst AreIsbnDigits (sym (c.deref-in-loop-spelling.ensures.value ∙ c.in_ok-digits.ensures)) digits

pub is_right_isbn-requires : goal.is_right_isbn-requires
is_right_isbn-requires c =
    let found = ap texts_of c.deref-spelling-items.ensures.value ∙ c.in_ok-found.ensures in
    let digits = at_reference (λ s. AreIsbnDigits (compact s)) c.deref-spelling-items.result.now (spellings isbn_length c.deref.result.now)
    c.loop-spelling.spelling-index _ found (isbn_spellings c.deref.result.now) c.loop-spelling-test.true in
    subst AreIsbnDigits (sym (c.deref-in-loop-spelling-2.ensures.value ∙ c.in_ok-digits.ensures)) digits

pub loop-spelling-preserved : goal.loop-spelling-preserved
loop-spelling-preserved c =
    let digits = c.deref-in-loop-spelling-2.ensures.value ∙ c.in_ok-digits.ensures in
    let number = c.in_ok-isbn.ensures ∙ ap isbn_of (c.deref-in-loop-spelling.ensures.value ∙ sym c.deref-in-loop-spelling-2.ensures.value) in (
      chosen_pushed isbn_of is_right_isbn compact _ _ _ c.loop-spelling-test.true _ _ _ _ _ c.loop-spelling.invariant.0 digits number
          (sym c.is_right_isbn.ensures) c.in_ok-push.ensures.right,
      chosen_in_others isbn_of is_right_isbn compact _ _ _ c.loop-spelling-test.true _ _ _ _ _ c.loop-spelling.invariant.1 digits number
          (sym c.is_right_isbn.ensures) c.in_ok-push.ensures.others,
    )

pub returns : goal.returns
returns c =
    let capitals = c.deref.ensures.value ∙ c.in_ok-capitals.ensures.ok in
    let found = ap texts_of c.deref-spelling-items.ensures.value ∙ c.in_ok-found.ensures ∙ ap (spellings isbn_length) capitals in
    let all = texts_all _ _ _ c.loop-spelling-test.false found in
    let wrong : Text → _ = λ (digits : Text). not (is_right_isbn digits) in
    let ts : List Text = map compact (spellings isbn_length (map to_ascii_uppercase c.args.text.now)) in
    c.in_ok-isbns.ensures
    ∙ ap (λ r. r ++ c.loop-spelling.ranked.others.items) (c.loop-spelling.invariant.0 ∙ ap (λ s. map isbn_of (filter is_right_isbn (map compact s))) all)
    ∙ ap (λ o. map isbn_of (filter is_right_isbn ts) ++ o) (c.loop-spelling.invariant.1 ∙ ap (λ s. map isbn_of (filter wrong (map compact s))) all)
    ∙ sym (map-append isbn_of (filter is_right_isbn ts) (filter wrong ts))
