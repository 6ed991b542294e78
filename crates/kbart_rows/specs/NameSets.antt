-- Names, each once, in the order in which they were first added.
use Rattle.std.specs.Prelude.{Bool, List, [], ◌∷◌, ◌++◌, fold, if◌then◌else◌}
use Rattle.std.specs.List.{list_any}
use Rattle.std.specs.Str.{bytes_eq}
use Rattle.text_model.specs.Texts.{Text}
use Rattle.kbart_rows.specs.declared.keys.Keys.{Keys}

-- the names, and the keys by which they are found
pub record NameSetValue : Type 0 where
  pub names : List Text
  pub keys : Keys

-- the name is among these
abbrev pub has : List Text → Text → Bool
has names name = list_any (bytes_eq name) names

-- one more name, if it is not among them
abbrev pub with_name : List Text → Text → List Text
with_name names name = if has names name then names else names ++ name ∷ []

-- each of some more names, in their order
abbrev pub with_names : List Text → List Text → List Text
with_names names more = fold with_name names more
