use Rattle.std.proofs.Common.{◌≡◌, take, not, map, filter}
use Rattle.text_model.specs.Texts.{texts_of}
use Rattle.standard_numbers.specs.Issn as spec
use Rattle.standard_numbers.proofs.issn.issns_in_capitals.Given as goal

abbrev pub invariant-loop-spelling : goal.invariant-loop-spelling
invariant-loop-spelling l =
    (l.ranked.right.items ≡ filter spec.is_right_issn (filter (spec.counts l.said) (map spec.issn_of (texts_of (take l.spelling-index l.spelling-items)))))
    × (l.ranked.others.items
    ≡ filter (λ issn. not (spec.is_right_issn issn)) (filter (spec.counts l.said) (map spec.issn_of (texts_of (take l.spelling-index l.spelling-items)))))
