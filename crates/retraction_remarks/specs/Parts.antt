-- The parts of remarks, in capital or small letters.
use Rattle.std.specs.Prelude.{List, [], ◌∷◌, codes, length, drop, Option, Some, None, if◌then◌else◌}
use Rattle.std.specs.Option.{option_and_then}
use Rattle.text_model.specs.Texts.{Text}
use Rattle.uri_text.specs.AnyCase.{begins_in_any_case}
use Rattle.retraction_remarks.specs.declared.parts.Part.{Part}
use Rattle.retraction_remarks.specs.declared.parts.Part.TheVariants.{Spaces, Space, Gap, Opening, Bracket, Sentence, Word, Work}
use Rattle.retraction_remarks.specs.declared.parts.Part.TheVariants.{Closing, Stop, Mark, Separator, Preposition, Label}

-- the dashes U+2013 and U+2014 in UTF-8, and a text after them
abbrev pub en_dash : Text → Text
en_dash t = 0xe2 ∷ 0x80 ∷ 0x93 ∷ t

abbrev pub em_dash : Text → Text
em_dash t = 0xe2 ∷ 0x80 ∷ 0x94 ∷ t

-- the texts that a part may be; a part that may be missing has the empty text as its last one
unfoldable pub texts : Part → List Text
texts Spaces = codes "   " ∷ codes "  " ∷ codes " " ∷ [] ∷ []
texts Space = codes " " ∷ [] ∷ []
texts Gap = codes " " ∷ []
texts Opening = codes "[" ∷ codes "(" ∷ codes "*" ∷ []
texts Bracket = codes "[" ∷ []
texts Sentence =
    codes "this article has been " ∷ codes "this article was " ∷ codes "this article is " ∷ codes "this paper has been " ∷
    codes "this paper was " ∷ codes "this paper is " ∷ [] ∷ []
texts Word = codes "retracted" ∷ []
texts Work =
    codes " article" ∷ codes " paper" ∷ codes " chapter" ∷ codes " publication" ∷ codes " study" ∷ codes " version" ∷
    codes " manuscript" ∷ codes " conference paper" ∷ codes " book" ∷ [] ∷ []
texts Closing = codes "]" ∷ codes ")" ∷ codes "*" ∷ []
texts Stop = codes ":" ∷ codes "." ∷ codes "," ∷ [] ∷ []
texts Mark = codes ":" ∷ codes "- " ∷ en_dash (codes " ") ∷ em_dash (codes " ") ∷ []
texts Separator = codes "." ∷ codes "," ∷ codes ";" ∷ codes ":" ∷ codes "-" ∷ en_dash [] ∷ em_dash [] ∷ []
texts Preposition = codes " see " ∷ codes " in " ∷ codes " on " ∷ codes " by " ∷ codes " due " ∷ []
texts Label = codes " article" ∷ codes " paper" ∷ [] ∷ []

-- what is after the first of these beginnings that a text has
abbrev pub after_any : List Text → Text → Option Text
after_any [] t = None
after_any (beginning ∷ others) t = if begins_in_any_case t beginning then Some (drop (length beginning) t) else after_any others t

-- what is after these parts with which a text begins
abbrev pub after_parts : List Part → Text → Option Text
after_parts [] t = Some t
after_parts (part ∷ parts) t = option_and_then (after_parts parts) (after_any (texts part) t)
