-- What is written as JSON for a query of any source (RFC 8259). The members of an object are in the order of their names.
use Rattle.std.specs.Prelude.{List, codes, map}
use Rattle.text_model.specs.Texts.{Text}
use Rattle.serde_json.specs.Data.{Data, Members, array, boolean, item, member, no_items, no_members, number, object, put, string, unsigned}
use Rattle.serde_json.specs.View.{items_of}
use Rattle.serde_json.specs.Written.{compact_text}
use Rattle.kev_read.specs.Pairs.{KeyValue}
use Rattle.openurl_reading.specs.Reading.{ReadRequest}
use Rattle.source_menus.specs.Found.{Any, FoundForQuery, FoundLink, Further, Own, RequestValue, target}

-- ---- a reading

-- a key and its value
abbrev pub pair_value : KeyValue → Data
pair_value pair = array (item (string pair.key) (item (string pair.value) no_items))

abbrev pub pairs_value : List KeyValue → Data
pairs_value pairs = array (items_of (map pair_value pairs))

-- how many pairs were left out, and whether a title has a remark of a retraction
abbrev pub notes_value : ReadRequest → Data
notes_value reading =
    object (member (codes "left_out") (number (unsigned reading.left_out)) (member (codes "retracted") (boolean reading.is_retracted) no_members))

-- the members of a reading, among those of an object
abbrev pub with_reading : ReadRequest → Members → Members
with_reading reading members = put (codes "pairs") (pairs_value reading.pairs) (put (codes "notes") (notes_value reading) members)

abbrev pub reading_value : ReadRequest → Data
reading_value reading = object (with_reading reading no_members)

-- ---- links

-- the request that gave a link
abbrev pub query_name : RequestValue → Text
query_name Own = codes "own"
query_name (Further title_number) = title_number
query_name Any = codes "any"

abbrev pub link_value : FoundLink → Data
link_value link =
    object (member (codes "link") (string link.link) (member (codes "part") (string link.name)
    (member (codes "query") (string (query_name link.request)) (member (codes "row") (number (unsigned link.row))
    (member (codes "target") (string (target link)) no_members)))))

abbrev pub links_value : List FoundLink → Data
links_value links = array (items_of (map link_value links))

abbrev pub found_value : FoundForQuery → Data
found_value found = object (with_reading found.reading (put (codes "links") (links_value found.links) no_members))

-- ---- their texts, without space

abbrev pub reading_text : ReadRequest → Text
reading_text reading = compact_text (reading_value reading)

abbrev pub found_text : FoundForQuery → Text
found_text found = compact_text (found_value found)
