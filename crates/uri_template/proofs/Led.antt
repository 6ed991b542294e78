-- Pieces that are appended one after another, each with what comes before it.
use Rattle.std.proofs.Common.{◌≡◌, ◌+◌, List, [], ◌∷◌, ◌++◌, map, Bool, true, false}
use Rattle.std.proofs.Common.{refl, sym, ap, ◌∙◌, append_assoc}
use Rattle.std.specs.List.{flat_map}
use Rattle.text_model.specs.Texts.{Text}
use Rattle.uri_template.specs.Expansion.{Style, joined_by, list_piece, led}
use Rattle.uri_template.specs.Private.Pieces.{lead, pieces_from, list_head, member_text, member_sep}

-- ---- all pieces together

later_pieces : (first sep : Text) (ps : List Text) → pieces_from first sep false ps ≡ flat_map (λ next. sep ++ next) ps
later_pieces first sep [] = refl
later_pieces first sep (p ∷ ps) = ap (λ x. (sep ++ p) ++ x) (later_pieces first sep ps)

pub pieces_from-joined : (sep : Text) (ps : List Text) → pieces_from [] sep true ps ≡ joined_by sep ps
pieces_from-joined sep [] = refl
pieces_from-joined sep (p ∷ ps) = ap (λ x. p ++ x) (later_pieces [] sep ps)

pub pieces_from-led : (style : Style) (ps : List Text) → pieces_from style.first style.sep true ps ≡ led style ps
pieces_from-led style [] = refl
pieces_from-led style (p ∷ ps) = ap (λ x. (style.first ++ p) ++ x) (later_pieces style.first style.sep ps)
    ∙ append_assoc style.first p (flat_map (λ next. style.sep ++ next) ps)

-- ---- one more piece

-- after a piece is appended, the rest is still to append
pub appended : (before new after rest all : Text) → after ≡ before ++ new → before ++ (new ++ rest) ≡ all → after ++ rest ≡ all
appended before new after rest all e f = ap (λ x. x ++ rest) e ∙ (append_assoc before new rest ∙ f)

-- ---- the piece of a variable

pub list_piece-parts : (style : Style) (name : Text) (explode : Bool) (members : List Text)
    → list_piece style name explode members ≡ list_head style name explode ++ joined_by (member_sep style explode)
    (map (member_text style name explode) members)
list_piece-parts style name false members = refl
list_piece-parts style name true members = refl

-- a list is written: what comes before it, its head and its members
pub list_written : (before after_lead after_head lead : Text) (style : Style) (name : Text) (explode : Bool) (members : List Text)
    → after_lead ≡ before ++ lead → after_head ≡ after_lead ++ list_head style name explode
    → after_head ++ joined_by (member_sep style explode) (map (member_text style name explode) members)
    ≡ before ++ (lead ++ list_piece style name explode members)
list_written before after_lead after_head lead style name explode members e f =
    let head = list_head style name explode in
    let rest = joined_by (member_sep style explode) (map (member_text style name explode) members) in
    ap (λ x. x ++ rest) (f ∙ ap (λ x. x ++ head) e)
    ∙ (append_assoc (before ++ lead) head rest
    ∙ (append_assoc before lead (head ++ rest)
    ∙ ap (λ x. before ++ (lead ++ x)) (sym (list_piece-parts style name explode members))))
