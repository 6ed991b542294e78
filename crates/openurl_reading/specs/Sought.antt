-- The texts in which the identifiers of a request are sought: its values of each key, as they are read for that.
use Rattle.std.specs.Prelude.{List, map, Option, slice_get}
use Rattle.std.specs.List.{filter_map, flat_map}
use Rattle.text_model.specs.Texts.{Text}
use Rattle.kev_read.specs.Pairs.{KeyValue, all_of}
use Rattle.work_identifiers.specs.declared.namespace.Namespace.{Namespace}
use Rattle.openurl_reading.specs.Identifiers.{as_identifier, identifier_under, identifier_keys}

-- a value of a key
abbrev pub sought_at : Text → Text → KeyValue
sought_at key value = record { key = key; value = as_identifier value }

-- the values of a key, and those of all keys of identifiers
abbrev pub sought_under : List KeyValue → Text → List KeyValue
sought_under pairs key = map (sought_at key) (all_of pairs key)

abbrev pub sought : List KeyValue → List KeyValue
sought pairs = flat_map (sought_under pairs) identifier_keys

-- the first identifier in such texts
abbrev pub first_in : Namespace → List KeyValue → Option Text
first_in namespace texts = slice_get (filter_map (λ text. identifier_under namespace text.key text.value) texts) 0
