-- What names are to rules and a table.
use Rattle.std.specs.Prelude.{◌≡◌, map}
use Rattle.text_model.specs.Texts.{Text}
use Rattle.kbart_rows.specs.Cells.{Row, column_of}
use Rattle.rule_explanation.specs.Private.ListNames.{has}
use Rattle.rule_explanation.specs.declared.list_names.ListNames.{ListNames}
use Rattle.rule_explanation.specs.declared.known_names.KnownName.{KnownName}
use Rattle.rule_explanation.specs.declared.known_names.KnownNames.{KnownNames}

-- whether it is one of the lists, and the first column with the name
abbrev pub known_as : ListNames → Row → Text → KnownName
known_as lists header name = record { is_list = has lists name; column = column_of header name }

-- what is known of each name is what it is
abbrev pub AreKnown : ListNames → Row → KnownNames → Type 0
AreKnown lists header names = names.known.items ≡ map (known_as lists header) names.names.names
