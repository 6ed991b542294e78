-- What the code tests of cells, by name.
use Rattle.std.specs.Prelude.{ℕ, ◌==◌, ◌&&◌, Bool, not, [], Option}
use Rattle.std.specs.Char.{is_ascii_lowercase}
use Rattle.std.specs.Option.{option_map_or}
use Rattle.text_model.specs.Texts.{Text}
use Rattle.kbart_rows.specs.Identifiers.{normalised}
use Rattle.menu.specs.WebLink.{is_web_link}
use Rattle.table_inspection.specs.Cells.{is_date}
use Rattle.table_inspection.specs.declared.form.Form.{Form}
use Rattle.table_inspection.specs.declared.form.Form.TheVariants.{Date, WebLink}

-- the text has the form
abbrev pub fits : Form → Text → Bool
fits Date text = is_date text
fits WebLink text = is_web_link text

-- the normal form of a cell, empty where it is undefined
abbrev pub normal_form : Option Text → Text
normal_form cell = option_map_or normalised cell []

-- no hyphen, space or ASCII letter in lower case, which alone change in a normal form
abbrev pub is_normal_byte : ℕ → Bool
is_normal_byte b = not (b == 45) && (not (b == 32) && not (is_ascii_lowercase b))
