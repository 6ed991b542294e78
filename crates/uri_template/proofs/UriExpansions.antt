-- An expansion is URI text.
use Rattle.std.proofs.Common.{ℕ, zero, suc, List, [], ◌∷◌, ◌++◌, map, Option, Some, None, Bool, true, false, refl, codes}
use Rattle.std.specs.Prelude.{if◌then◌else◌, All}
use Rattle.std.specs.List.{flat_map, cons_option}
use Rattle.std.proofs.lemmas.List.Elements.{All-head, All-tail}
use Rattle.text_model.specs.Texts.{Text, is_unreserved, is_reserved}
use Rattle.text_model.specs.Writing.{written}
use Rattle.text_model.specs.UriText.{IsUriText, nothing}
use Rattle.environment_model.specs.Environment.{Meaning, Single, Several, LookUp}
use Rattle.text_model.proofs.UriTexts.{IsUriText-append, IsUriText-character, written-uri}
use Rattle.uri_grammar.specs.declared.parts.Spec.{Spec}
use Rattle.uri_grammar.specs.declared.parts.Part.{Part}
use Rattle.uri_grammar.specs.declared.parts.Part.TheVariants.{Literal, Expression}
use Rattle.uri_grammar.specs.declared.parts.Op.{Op}
use Rattle.uri_grammar.specs.declared.parts.Op.TheVariants as operator
use Rattle.uri_grammar.specs.Promises.{IsSoundPart, IsSoundSpec}
use Rattle.uri_template.specs.Expansion.{Style, style_of, item, equated, prefix, joined_by, list_piece, several_piece, piece, pieces, led, part_text, expansion}

-- ---- the operators' table

-- the fixed texts of a style are URI text
record HasUriTexts (style : Style) : Type 0 where
  first : IsUriText style.first
  sep : IsUriText style.sep
  ifemp : IsUriText style.ifemp

equals_sign : IsUriText (codes "=")
unfolding is_unreserved is_reserved
equals_sign = IsUriText-character 61 refl

comma : IsUriText (codes ",")
unfolding is_unreserved is_reserved
comma = IsUriText-character 44 refl

style_of-uri : (op : Op) → HasUriTexts (style_of op)
unfolding is_unreserved is_reserved
style_of-uri operator.Simple = record { first = nothing; sep = comma; ifemp = nothing }
style_of-uri operator.Plus = record { first = nothing; sep = comma; ifemp = nothing }
style_of-uri operator.Hash = record { first = IsUriText-character 35 refl; sep = comma; ifemp = nothing }
style_of-uri operator.Dot = record { first = IsUriText-character 46 refl; sep = IsUriText-character 46 refl; ifemp = nothing }
style_of-uri operator.Slash = record { first = IsUriText-character 47 refl; sep = IsUriText-character 47 refl; ifemp = nothing }
style_of-uri operator.Semicolon = record { first = IsUriText-character 59 refl; sep = IsUriText-character 59 refl; ifemp = nothing }
style_of-uri operator.Question = record { first = IsUriText-character 63 refl; sep = IsUriText-character 38 refl; ifemp = equals_sign }
style_of-uri operator.Ampersand = record { first = IsUriText-character 38 refl; sep = IsUriText-character 38 refl; ifemp = equals_sign }

-- ---- pieces

AreUriTexts : List Text → Type 0
AreUriTexts [] = Unit {0}
AreUriTexts (t ∷ texts) = IsUriText t × AreUriTexts texts

IfUriText : Option Text → Type 0
IfUriText None = Unit {0}
IfUriText (Some t) = IsUriText t

separated-uri : (sep : Text) (texts : List Text) → IsUriText sep → AreUriTexts texts → IsUriText (flat_map (λ next. sep ++ next) texts)
unfolding AreUriTexts
separated-uri sep [] s h = nothing
separated-uri sep (t ∷ texts) s h = IsUriText-append (sep ++ t) (flat_map (λ next. sep ++ next) texts) (IsUriText-append sep t s h.0)
    (separated-uri sep texts s h.1)

joined_by-uri : (sep : Text) (texts : List Text) → IsUriText sep → AreUriTexts texts → IsUriText (joined_by sep texts)
unfolding AreUriTexts
joined_by-uri sep [] s h = nothing
joined_by-uri sep (t ∷ texts) s h = IsUriText-append t (flat_map (λ next. sep ++ next) texts) h.0 (separated-uri sep texts s h.1)

map-uri : (f : Text → Text) (texts : List Text) → ((t : Text) → IsUriText (f t)) → AreUriTexts (map f texts)
unfolding AreUriTexts
map-uri f [] h = tt
map-uri f (t ∷ texts) h = (h t, map-uri f texts h)

equated-uri : (style : Style) (t : Text) → HasUriTexts style → IsUriText (equated style t)
equated-uri style [] s = s.ifemp
equated-uri style (b ∷ t) s = IsUriText-append (codes "=") (written style.writing (b ∷ t)) equals_sign (written-uri style.writing (b ∷ t))

item-uri : (style : Style) (name t : Text) → HasUriTexts style → IsUriText name → IsUriText (item style name t)
item-uri style name t s n = by_named style.named
  where
    by_named : (x : Bool) → IsUriText (if x then (name ++ equated style t) else written style.writing t)
    by_named true = IsUriText-append name (equated style t) n (equated-uri style t s)
    by_named false = written-uri style.writing t

list_piece-uri : (style : Style) (name : Text) (explode : Bool) (members : List Text) → HasUriTexts style → IsUriText name
    → IsUriText (list_piece style name explode members)
list_piece-uri style name true members s n =
    joined_by-uri style.sep (map (item style name) members) s.sep (map-uri (item style name) members (λ t. item-uri style name t s n))
list_piece-uri style name false members s n =
    IsUriText-append (if style.named then (name ++ codes "=") else []) (joined_by (codes ",") (map (written style.writing) members))
    (by_named style.named)
    (joined_by-uri (codes ",") (map (written style.writing) members) comma (map-uri (written style.writing) members (written-uri style.writing)))
  where
    by_named : (x : Bool) → IsUriText (if x then (name ++ codes "=") else [])
    by_named true = IsUriText-append name (codes "=") n equals_sign
    by_named false = nothing

several_piece-uri : (style : Style) (spec : Spec) (n : ℕ) (members : List Text) → HasUriTexts style → IsUriText spec.name
    → IfUriText (several_piece style spec n members)
unfolding IfUriText
several_piece-uri style spec n [] s u = tt
several_piece-uri style spec zero (t ∷ members) s u = list_piece-uri style spec.name spec.explode (t ∷ members) s u
several_piece-uri style spec (suc n) (t ∷ members) s u = tt

piece-uri : (style : Style) (spec : Spec) (m : Option Meaning) → HasUriTexts style → IsUriText spec.name → IfUriText (piece style spec m)
unfolding IfUriText
piece-uri style spec None s u = tt
piece-uri style spec (Some (Single t)) s u = item-uri style spec.name (prefix style.writing spec.cut t) s u
piece-uri style spec (Some (Several members)) s u = several_piece-uri style spec spec.cut members s u

cons_option-uri : (p : Option Text) (ps : List Text) → IfUriText p → AreUriTexts ps → AreUriTexts (cons_option p ps)
unfolding AreUriTexts IfUriText
cons_option-uri None ps h i = i
cons_option-uri (Some p) ps h i = (h, i)

-- ---- expressions and templates

pieces-uri : (look : LookUp) (style : Style) (specs : List Spec) → HasUriTexts style → All IsSoundSpec specs → AreUriTexts (pieces look style specs)
unfolding AreUriTexts
pieces-uri look style [] s h = tt
pieces-uri look style (spec ∷ specs) s h =
    let here = All-head IsSoundSpec spec specs h in
    let following = All-tail IsSoundSpec spec specs h in
    cons_option-uri (piece style spec (look spec.name)) (pieces look style specs) (piece-uri style spec (look spec.name) s here.uri_text)
    (pieces-uri look style specs s following)

led-uri : (style : Style) (ps : List Text) → HasUriTexts style → AreUriTexts ps → IsUriText (led style ps)
led-uri style [] s h = nothing
led-uri style (p ∷ ps) s h = IsUriText-append style.first (joined_by style.sep (p ∷ ps)) s.first (joined_by-uri style.sep (p ∷ ps) s.sep h)

part_text-uri : (look : LookUp) (part : Part) → IsSoundPart part → IsUriText (part_text look part)
part_text-uri look (Literal text) h = h
part_text-uri look (Expression op specs) h =
    led-uri (style_of op) (pieces look (style_of op) specs) (style_of-uri op) (pieces-uri look (style_of op) specs (style_of-uri op) h.1)

-- the expansion of a tree whose literals and names are URI text
pub expansion-uri : (look : LookUp) (parts : List Part) → All IsSoundPart parts → IsUriText (expansion look parts)
expansion-uri look [] h = nothing
expansion-uri look (part ∷ parts) h =
    let here = All-head IsSoundPart part parts h in
    let following = All-tail IsSoundPart part parts h in
    IsUriText-append (part_text look part) (expansion look parts) (part_text-uri look part here) (expansion-uri look parts following)
