-- Pairs that are written as a form, and read again.
use Rattle.std.proofs.Common.{◌≡◌, List, [], ◌∷◌, map, refl, ap, ◌∙◌}
use Rattle.std.specs.List.{All}
use Rattle.std.proofs.lemmas.List.Elements.{All-nil, All-cons, All-head, All-tail}
use Rattle.form_urlencoded.specs.Form as form
use Rattle.text_model.specs.Texts.{Text}
use Rattle.kev_read.specs.Pairs.{KeyValue, pairs_of}
use Rattle.source_queries.specs.Utf8 as sent
use Rattle.source_requests.specs.Requests.{IsUtf8Pair, as_texts, written}

-- what the law of the lower crate says
abbrev pub FormsReadBack : Type 0
FormsReadBack = (pairs : List (Text × Text)) → All sent.IsUtf8Pair pairs → pairs_of (form.extend_pairs [] pairs) ≡ map sent.key_value pairs

pub utf8_texts : (pairs : List KeyValue) → All IsUtf8Pair pairs → All sent.IsUtf8Pair (map as_texts pairs)
utf8_texts [] all = All-nil sent.IsUtf8Pair
utf8_texts (pair ∷ pairs) all =
    All-cons sent.IsUtf8Pair (as_texts pair) (map as_texts pairs) (All-head IsUtf8Pair pair pairs all)
    (utf8_texts pairs (All-tail IsUtf8Pair pair pairs all))

same : (pairs : List KeyValue) → map sent.key_value (map as_texts pairs) ≡ pairs
same [] = refl
same (pair ∷ pairs) = ap (λ ps. pair ∷ ps) (same pairs)

pub read_back : FormsReadBack → (pairs : List KeyValue) → All IsUtf8Pair pairs → pairs_of (written pairs) ≡ pairs
read_back law pairs all = law (map as_texts pairs) (utf8_texts pairs all) ∙ same pairs
