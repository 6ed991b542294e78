-- The lines for a query of any source.
use Rattle.std.specs.Prelude.{ℕ, ◌==◌, List, [], ◌++◌, codes, if◌then◌else◌}
use Rattle.std.specs.Fmt.{decimal}
use Rattle.std.specs.List.{flat_map}
use Rattle.text_model.specs.Texts.{Text}
use Rattle.kev_read.specs.Pairs.{KeyValue}
use Rattle.openurl_reading.specs.Reading.{ReadRequest}
use Rattle.source_menus.specs.Found.{FoundLink, target}
use Rattle.source_answers.specs.Shown.{shown}

abbrev pub pair_line : KeyValue → Text
pair_line pair = shown pair.key ++ (codes "\t" ++ (shown pair.value ++ codes "\n"))

-- none, if no pair was left out
abbrev pub left_out_line : ℕ → Text
left_out_line number = if number == 0 then [] else codes "left out " ++ (decimal number ++ codes "\n")

-- a line for each pair of the reading, and one if some were left out
abbrev pub reading_text : ReadRequest → Text
reading_text reading = flat_map pair_line reading.pairs ++ left_out_line reading.left_out

abbrev pub link_line : FoundLink → Text
link_line link = target link ++ (codes "\t" ++ (link.link ++ codes "\n"))

-- a line for each link
abbrev pub links_text : List FoundLink → Text
links_text links = flat_map link_line links
