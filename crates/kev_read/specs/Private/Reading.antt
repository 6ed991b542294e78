-- What reading a query does to the text of its pairs.
use Rattle.std.specs.Prelude.{◌≡◌, ℕ, ◌++◌, ◌∷◌, List, take, length, map}
use Rattle.text_model.specs.Texts.{Text}
use Rattle.form_urlencoded.specs.Form as form
use Rattle.kev_read.specs.Pairs.{KeyValue, decoded_pair}
use Rattle.kev_read.specs.Private.Layout.{IsSpan, part_in}
use Rattle.kev_read.specs.declared.pairs.Span.{Span}

-- the text begins with the query
abbrev pub HoldsQuery : List ℕ → Text → Type 0
HoldsQuery query text = take (length query) text ≡ query

-- nothing but appended bytes changes
abbrev pub Grows : Text → Text → Type 0
Grows old new = (more : Text) × (new ≡ old ++ more)

-- the part is in the text, at the span
abbrev pub HoldsPart : Text → Text → Span → Type 0
HoldsPart text part span = IsSpan text span × (part_in text span ≡ part)

-- the pairs of these bytes are this one and those of the bytes after it
abbrev pub IsFirstPair : List ℕ → KeyValue → List ℕ → Type 0
IsFirstPair bytes pair after = map decoded_pair (form.raw_pairs bytes) ≡ pair ∷ map decoded_pair (form.raw_pairs after)
