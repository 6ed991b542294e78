-- The numbers of names, by which what is known about a name in a request is found.
use Rattle.std.specs.Prelude.{◌≡◌, ℕ, List, Option, Some, IfSome, fold, length, map, nat_lt, slice_get, if◌then◌else◌}
use Rattle.std.specs.List.{position}
use Rattle.std.specs.Str.{bytes_eq}
use Rattle.text_model.specs.Texts.{Text}
use Rattle.code_model.specs.Code.{Code}
use Rattle.machine_model.specs.Operands.{name_at}
use Rattle.kbart_rows.specs.NameSets.{with_name}
use Rattle.row_scope.specs.declared.name_numbers.TheConstants.{MAX_NUMBERS}

-- a name's number is how many of the numbered names come before it
abbrev pub own_number : List Text → Text → Option ℕ
own_number numbered name = position (bytes_eq name) numbered

-- the number, if there is one, is the name's own
abbrev pub IsOwn : List Text → Text → Option ℕ → Type 0
IsOwn numbered name number = IfSome number (λ n. own_number numbered name ≡ Some n)

-- what was a name's own number still is
abbrev pub AreKept : List Text → List Text → Type 0
AreKept old new = (name : Text) (number : Option ℕ) → IsOwn old name number → IsOwn new name number

-- for each name of the code, its own number or none
pub record AreOwnNumbers (numbered : List Text) (code : Code) (own : List (Option ℕ)) : Type 0 where
  pub one_each : length own ≡ length code.names
  pub are : (i : ℕ) (number : Option ℕ) → slice_get own i ≡ Some number → IsOwn numbered (name_at code i) number

-- one more numbered name, while there are few
abbrev pub with_number : List Text → Text → List Text
with_number numbered name = if nat_lt (length numbered) MAX_NUMBERS then with_name numbered name else numbered

-- each name of a code, in their order
abbrev pub with_code_names : List Text → Code → List Text
with_code_names numbered code = fold with_number numbered (map (λ name. name.text) code.names)
