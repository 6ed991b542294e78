-- DOIs as a proxy that decodes addresses once has to get them.
use Rattle.std.specs.Prelude.{◌||◌, ℕ, Bool, nat_eq, codes, Option, Some, None, if◌then◌else◌}
use Rattle.std.specs.List.{list_all, list_any}
use Rattle.text_model.specs.Texts.{Text, is_unreserved}
use Rattle.text_model.specs.Writing.{written_u}

-- a character that stands for itself in the path of a URI (RFC 3986, section 3.3)
abbrev pub is_of_path : ℕ → Bool
is_of_path b = is_unreserved b || list_any (nat_eq b) (codes "/:@!$&'()*+,;=")

-- a DOI that has another character, encoded (RFC 6570, section 3.2.2)
abbrev pub encoded_doi : Text → Option Text
encoded_doi doi = if list_all is_of_path doi then None else Some (written_u doi)
