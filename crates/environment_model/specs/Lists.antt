-- Which names denote lists, in a request and in rules.
use Rattle.std.specs.Prelude.{List, [], ◌∷◌, ◌++◌, Bool, codes}
use Rattle.text_model.specs.Texts.{Text}
use Rattle.environment_model.specs.Environment.{is_among}

-- the keys of ANSI/NISO Z39.88-2004 that can occur more than once: authors, and identifiers of the referent
abbrev pub standard_lists : List Text
standard_lists = codes "rft.au" ∷ codes "rft_id" ∷ []

-- the names of lists, if these are declared
abbrev pub list_names : List Text → List Text
list_names declared = standard_lists ++ declared

-- whether the name denotes a list, if these are declared
abbrev pub is_list : List Text → Text → Bool
is_list declared name = is_among name (list_names declared)
