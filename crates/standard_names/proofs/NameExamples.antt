-- How many names there are, and that none occurs twice.
use Rattle.std.proofs.Common.{◌≡◌, Bool, true, not, ◌&&◌, List, [], ◌∷◌, length, refl}
use Rattle.std.specs.List.{list_any}
use Rattle.std.specs.Str.{bytes_eq}
use Rattle.text_model.specs.Texts.{Text}
use Rattle.standard_names.specs.Columns.{column_names, known_columns}
use Rattle.standard_names.specs.Keys.{request_keys}

abbrev are_different : List Text → Bool
are_different [] = true
are_different (name ∷ names) = not (list_any (bytes_eq name) names) && are_different names

number_of_columns : length column_names ≡ 25
number_of_columns = refl

columns_are_different : are_different known_columns ≡ true
columns_are_different = refl

number_of_keys : length request_keys ≡ 75
number_of_keys = refl

keys_are_different : are_different request_keys ≡ true
keys_are_different = refl
