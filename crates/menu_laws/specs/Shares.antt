-- The share that some targets of a registry have in its menu and in the texts of the menu. Which targets are meant is a test on names.
use Rattle.std.specs.Prelude.{Bool, not, List, filter}
use Rattle.std.specs.List.{before_first}
use Rattle.std.specs.Str.{bytes_eq}
use Rattle.std.specs.Str.Lines.{lines}
use Rattle.text_model.specs.Texts.{Text}
use Rattle.menu.specs.Links.{NamedLink}
use Rattle.registry.specs.Targets.{TargetValue}
use Rattle.menu_laws.specs.Lines.{is_tab}

-- the targets, the links and the lines whose names pass the test
abbrev pub targets_under : (Text → Bool) → List TargetValue → List TargetValue
targets_under test targets = filter (λ target. test target.name) targets

abbrev pub links_under : (Text → Bool) → List NamedLink → List NamedLink
links_under test links = filter (λ l. test l.name) links

abbrev pub lines_under : (Text → Bool) → Text → List Text
lines_under test text = filter (λ line. test (before_first is_tab line)) (lines text)

-- ---- one target, and all others

abbrev pub is_named : Text → Text → Bool
is_named name other = bytes_eq other name

abbrev pub is_other : Text → Text → Bool
is_other name other = not (bytes_eq other name)

abbrev pub other_targets : Text → List TargetValue → List TargetValue
other_targets name targets = targets_under (is_other name) targets

abbrev pub other_links : Text → List NamedLink → List NamedLink
other_links name links = links_under (is_other name) links

abbrev pub other_lines : Text → Text → List Text
other_lines name text = lines_under (is_other name) text

abbrev pub own_lines : Text → Text → List Text
own_lines name text = lines_under (is_named name) text
