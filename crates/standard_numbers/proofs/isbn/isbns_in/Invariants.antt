use Rattle.std.proofs.Common.{◌≡◌, take, not, map, filter}
use Rattle.text_model.specs.Texts.{texts_of}
use Rattle.standard_numbers.specs.Isbn as spec
use Rattle.standard_numbers.proofs.isbn.isbns_in.Given as goal

abbrev pub invariant-loop-spelling : goal.invariant-loop-spelling
invariant-loop-spelling l =
    (l.ranked.right.items ≡ map spec.isbn_of (filter spec.is_right_isbn (map spec.compact (texts_of (take l.spelling-index l.spelling-items)))))
    × (l.ranked.others.items
    ≡ map spec.isbn_of (filter (λ digits. not (spec.is_right_isbn digits)) (map spec.compact (texts_of (take l.spelling-index l.spelling-items)))))
