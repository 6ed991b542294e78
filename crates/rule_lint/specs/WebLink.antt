-- Templates whose expansion is never a web link.
use Rattle.std.specs.Prelude.{Bool, true, false, not, ◌&&◌, ◌||◌, List, [], ◌∷◌, ◌++◌, codes}
use Rattle.text_model.specs.Texts.{Text}
use Rattle.uri_text.specs.AnyCase.{begins_in_any_case}
use Rattle.uri_grammar.specs.declared.parts.Part.{Part}
use Rattle.uri_grammar.specs.declared.parts.Part.TheVariants.{Literal, Expression}
use Rattle.menu.specs.WebLink.{is_web_link}

-- the literals before the first expression, joined
abbrev pub first_text : List Part → Text
first_text [] = []
first_text (Literal text ∷ parts) = text ++ first_text parts
first_text (Expression op specs ∷ parts) = []

abbrev pub has_expression : List Part → Bool
has_expression [] = false
has_expression (Literal text ∷ parts) = has_expression parts
has_expression (Expression op specs ∷ parts) = true

-- a web link may begin with this text, the letters in either case
abbrev pub begins_web_links : Text → Bool
begins_web_links text = begins_in_any_case (codes "http://") text || begins_in_any_case (codes "https://") text

-- the first text is not the beginning of a web link, and no expression can make it one
abbrev pub is_never_web_link : List Part → Bool
is_never_web_link parts = not (is_web_link (first_text parts) || (has_expression parts && begins_web_links (first_text parts)))
