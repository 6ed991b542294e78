-- Pieces one after another, as they are appended. For private contracts.
use Rattle.std.specs.Prelude.{List, [], ◌∷◌, ◌++◌, Option, Some, None, Bool, true, false, if◌then◌else◌, codes}
use Rattle.text_model.specs.Texts.{Text}
use Rattle.text_model.specs.Writing.{written}
use Rattle.uri_template.specs.Expansion.{Style, item}

-- what comes before a piece
abbrev pub lead : Text → Text → Bool → Text
lead first sep is_first = if is_first then first else sep

-- the pieces that are left, each with what comes before it
abbrev pub pieces_from : Text → Text → Bool → List Text → Text
pieces_from first sep is_first [] = []
pieces_from first sep is_first (p ∷ ps) = (lead first sep is_first ++ p) ++ pieces_from first sep false ps

-- a piece with what comes before it, if there is a piece
abbrev pub led_piece : Style → Bool → Option Text → Text
led_piece style is_first None = []
led_piece style is_first (Some p) = lead style.first style.sep is_first ++ p

-- what comes before the members of a list that is not exploded
abbrev pub list_head : Style → Text → Bool → Text
list_head style name false = if style.named then (name ++ codes "=") else []
list_head style name true = []

-- a member of a list as it is written in the expansion
abbrev pub member_text : Style → Text → Bool → Text → Text
member_text style name false t = written style.writing t
member_text style name true t = item style name t

-- what comes between two members
abbrev pub member_sep : Style → Bool → Text
member_sep style false = codes ","
member_sep style true = style.sep
