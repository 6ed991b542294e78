-- How a reader cuts the plain texts of a menu: into lines, as Rust's `lines` does, and each line at its first tab.
use Rattle.std.specs.Prelude.{ℕ, ◌==◌, Bool, List, map}
use Rattle.std.specs.List.{after_first, before_first}
use Rattle.std.specs.Str.Lines.{lines}
use Rattle.text_model.specs.Texts.{Text}
use Rattle.menu.specs.Links.{NamedLink}

abbrev pub is_tab : ℕ → Bool
is_tab b = b == 9

-- what is before the first tab, and what is after it
abbrev pub named_line : Text → NamedLink
named_line line = record { name = before_first is_tab line; link = after_first is_tab line }

-- each line, cut like this
abbrev pub links_in_text : Text → List NamedLink
links_in_text text = map named_line (lines text)
