-- How the pairs of a request are laid out in its text.
use Rattle.std.specs.Prelude.{◌≡◌, ◌≤◌, IsUtf8, length, slice_range}
use Rattle.text_model.specs.Texts.{Text}
use Rattle.kev_read.specs.Pairs.{KeyValue}
use Rattle.kev_read.specs.Private.KeyMarks.{mark_of}
use Rattle.kev_read.specs.declared.marked_key.MarkedKey.{MarkedKey}
use Rattle.kev_read.specs.declared.pairs.Pair.{Pair}
use Rattle.kev_read.specs.declared.pairs.Place.{Place}
use Rattle.kev_read.specs.declared.pairs.Span.{Span}

abbrev pub part_in : Text → Span → Text
part_in text span = slice_range text span.start span.end

abbrev pub pair_in : Text → Place → KeyValue
pair_in text place = record { key = part_in text place.key; value = part_in text place.value }

-- the span is within the bytes, and what it has of them is a text
pub record IsSpan (text : Text) (span : Span) : Type 0 where
  pub forwards : span.start ≤ span.end
  pub within : span.end ≤ length text
  pub utf8 : IsUtf8 (part_in text span)

-- key and value are texts, and the mark is the key's
pub record IsPlaced (text : Text) (place : Place) : Type 0 where
  pub key : IsSpan text place.key
  pub value : IsSpan text place.value
  pub marked : place.mark ≡ mark_of (part_in text place.key)

-- the key and the value of a borrowed pair
abbrev pub key_value : Pair → KeyValue
key_value pair = record { key = pair.key.now; value = pair.value.now }

-- the text of a marked key
abbrev pub key_text : MarkedKey → Text
key_text key = key.text.now
