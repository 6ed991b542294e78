-- An identifier of a request, and its hash.
use Rattle.std.specs.Prelude.{◌≡◌}
use Rattle.text_model.specs.Texts.{Text}
use Rattle.kbart_rows.specs.Hashing.{hash_of}
use Rattle.kbart_rows.specs.declared.ids.Id.{Id}
use Rattle.kbart_rows.specs.declared.keys.Keys.{Keys}

abbrev pub id_text : Id → Text
id_text id = id.text.items

-- it has the hash under these keys
abbrev pub IsHashed : Keys → Id → Type 0
IsHashed keys id = id.hash ≡ hash_of keys (id_text id)
