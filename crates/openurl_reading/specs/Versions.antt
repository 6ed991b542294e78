-- The versions and the encoding of a request: what is not that of OpenURL 1.0, and of a reading, is corrected.
use Rattle.std.specs.Prelude.{Bool, false, not, List, [], ◌∷◌, codes, Option, if◌then◌else◌}
use Rattle.std.specs.Option.{option_map_or}
use Rattle.std.specs.Str.{bytes_eq}
use Rattle.text_model.specs.Texts.{Text}
use Rattle.kev_read.specs.Pairs.{KeyValue, first_of}
use Rattle.openurl_reading.specs.Steps.{Change, Step, unchanged, replacing}

abbrev pub version : Text
version = codes "Z39.88-2004"

-- UTF-8, as the registry of OpenURL 1.0 names it
abbrev pub encoding : Text
encoding = codes "info:ofi/enc:UTF-8"

-- something is stated, and it is not this value
abbrev pub is_other : Text → Option Text → Bool
is_other value stated = option_map_or (λ one. not (bytes_eq one value)) stated false

abbrev pub corrected : Text → Text → List KeyValue → Change
corrected key value pairs = if is_other value (first_of pairs key) then replacing (value ∷ []) else unchanged

abbrev pub correction : Text → Text → Step
correction key value = record { key = key; change = corrected key value }

-- the version of the context object, that of the transport, and the encoding: a reading is UTF-8, whatever the request was
abbrev pub versions : List Step
versions = correction (codes "ctx_ver") version ∷ correction (codes "url_ver") version ∷ correction (codes "ctx_enc") encoding ∷ []
