-- Names that are found by hash.
use Rattle.std.specs.Prelude.{Bool}
use Rattle.std.specs.HashSet.{contains_text, hasher_of}
use Rattle.text_model.specs.Texts.{Text}
use Rattle.kbart_rows.specs.declared.keys.Keys.{Keys}
use Rattle.rule_explanation.specs.declared.list_names.ListNames.{ListNames}

-- this is one of the names
abbrev pub has : ListNames → Text → Bool
has names name = contains_text names.names name

-- the keys by which they are found
abbrev pub keys_of : ListNames → Keys
keys_of names = hasher_of names.names
