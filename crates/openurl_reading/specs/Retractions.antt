-- What a request says of a retraction: a title that it has is one with a remark of it.
use Rattle.std.specs.Prelude.{Bool, not, ◌&&◌, List, [], ◌∷◌, ◌++◌, codes}
use Rattle.std.specs.List.{list_any}
use Rattle.std.specs.Str.{bytes_eq}
use Rattle.text_model.specs.Texts.{Text}
use Rattle.kev_read.specs.Pairs.{KeyValue}
use Rattle.retraction_remarks.specs.Titles.{without_remarks}
use Rattle.written_texts.specs.declared.readings.Role.TheVariants.{Other}
use Rattle.written_texts.specs.Readings.{written}
use Rattle.openurl_reading.specs.Keys.{is_one_of}
use Rattle.openurl_reading.specs.Texts.{title_texts}

-- the keys of titles in OpenURL 1.0, and in OpenURL 0.1
abbrev pub sent_titles : List Text
sent_titles = title_texts ++ codes "atitle" ∷ codes "jtitle" ∷ codes "btitle" ∷ codes "title" ∷ []

-- the text of the title has a remark, and something else
abbrev pub has_remark : Text → Bool
has_remark title = not (bytes_eq (without_remarks (written Other title)) (written Other title))

abbrev pub is_remarked : KeyValue → Bool
is_remarked pair = is_one_of sent_titles pair.key && has_remark pair.value

abbrev pub is_retracted : List KeyValue → Bool
is_retracted pairs = list_any is_remarked pairs
