-- The names of a set as texts.
use Rattle.std.specs.Prelude.{List, String, map, string_bytes}
use Rattle.std.specs.Global.{Global}
use Rattle.text_model.specs.Texts.{Text}

abbrev pub texts_in : List (String Global) → List Text
texts_in names = map string_bytes names
