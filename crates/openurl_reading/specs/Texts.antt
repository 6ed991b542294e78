-- The titles and names of a request, read as text: some sources encode them twice, or send them with markup or commands of LaTeX.
use Rattle.std.specs.Prelude.{Bool, List, [], ◌∷◌, ◌++◌, map, codes, if◌then◌else◌}
use Rattle.std.specs.List.{list_all}
use Rattle.std.specs.Str.{bytes_eq}
use Rattle.text_model.specs.Texts.{Text}
use Rattle.written_texts.specs.declared.readings.Role.{Role}
use Rattle.written_texts.specs.declared.readings.Role.TheVariants.{Title, Other}
use Rattle.written_texts.specs.Readings.{written}
use Rattle.openurl_reading.specs.Steps.{Change, Step, unchanged, replacing}
use Rattle.openurl_reading.specs.Values.{values_of}

-- each value is read as it is
abbrev pub are_read : Role → List Text → Bool
are_read role values = list_all (λ value. bytes_eq (written role value) value) values

-- what is read replaces the values, unless all are read as they are
abbrev pub as_texts : Role → List Text → Change
as_texts role values = if are_read role values then unchanged else replacing (map (written role) values)

abbrev pub texting : Role → Text → Step
texting role key = record { key = key; change = λ pairs. as_texts role (values_of pairs key) }

-- the titles of works, of which what is said of their retraction is no part
abbrev pub title_texts : List Text
title_texts = codes "rft.atitle" ∷ codes "rft.jtitle" ∷ codes "rft.btitle" ∷ codes "rft.title" ∷ []

-- short titles, names and pages
abbrev pub other_texts : List Text
other_texts =
    codes "rft.stitle" ∷ codes "rft.au" ∷ codes "rft.aulast" ∷ codes "rft.aufirst" ∷ codes "rft.aucorp" ∷ codes "rft.pages" ∷ []

abbrev pub text_steps : List Step
text_steps = map (texting Title) title_texts ++ map (texting Other) other_texts
