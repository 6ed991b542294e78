-- What an expression gives for variables that are defined, and for those that are not.
use Rattle.std.proofs.Common.{◌≡◌, ℕ, Bool, true, false, cond, List, [], ◌∷◌, ◌++◌, Option, Some, sym, ap, subst, arith}
use Rattle.std.specs.List.{cons_option, flat_map}
use Rattle.std.proofs.lemmas.Grind.{common_steps}
use Rattle.text_model.specs.Texts.{Text, is_unreserved}
use Rattle.text_model.specs.Writing.{written, written_byte, written_u, written_ur, is_unreserved_or_reserved}
use Rattle.text_model.specs.Cut.{items, with_triplets}
use Rattle.text_model.specs.declared.writing.Writing.{Writing}
use Rattle.text_model.specs.declared.writing.Writing.TheVariants.{U, UR}
use Rattle.text_model.proofs.Cuts.{code_points-next}
use Rattle.environment_model.specs.Environment.{LookUp, Meaning, Single}
use Rattle.uri_grammar.specs.declared.parts.Spec.{Spec}
use Rattle.uri_template.specs.Expansion.{Style, equated, item, led, piece, pieces, prefix, joined_by}
use Rattle.lint_laws.proofs.HostStates.{HasByte, IsPlain, plain_append}
use Rattle.lint_laws.proofs.CellStates.{written_plain}

-- ---- texts that are not empty

has_front : (t u : Text) → HasByte t → HasByte (t ++ u)
has_front t u h = grind (arith, common_steps)

has_back : (t u : Text) → HasByte u → HasByte (t ++ u)
has_back [] u h = h
has_back (b ∷ t) u h = tt

byte_is_written : (stays : Bool) (b : ℕ) → HasByte (written_byte stays b)
byte_is_written stays b = grind (arith, common_steps)

is_written : (w : Writing) (t : Text) → HasByte t → HasByte (written w t)
unfolding written_u written_ur
is_written U [] h = absurd h
is_written U (b ∷ t) h = has_front (written_byte (is_unreserved b) b) (written_u t) (byte_is_written (is_unreserved b) b)
is_written UR [] h = absurd h
is_written UR (b ∷ []) h = byte_is_written (is_unreserved_or_reserved b) b
is_written UR (b ∷ c ∷ []) h = grind (arith, common_steps)
is_written UR (b ∷ c ∷ d ∷ t) h = grind (arith, has_front, byte_is_written)

-- ---- items that are not empty

abbrev HasItem : List Text → Type 0
HasItem [] = ⊥
HasItem (p ∷ points) = HasByte p

has_item : (w : Writing) (t : Text) → HasByte t → HasItem (items w t)
unfolding with_triplets
has_item w [] h = absurd h
has_item U (b ∷ t) h = subst HasItem (sym (code_points-next b t)) tt
has_item UR (b ∷ t) h = grind (arith, code_points-next, has_front)

has_prefix : (w : Writing) (n : ℕ) (t : Text) → HasByte t → HasByte (prefix w n t)
has_prefix w n t h = grind (arith, has_item)

-- ---- the piece of a variable whose text is not empty

is_equated : (style : Style) (t : Text) → HasByte t → HasByte (equated style t)
is_equated style t h = grind (arith, common_steps)

is_item : (style : Style) (name t : Text) → HasByte t → HasByte (item style name t)
is_item style name t h = by_kind style.named
  where
    by_kind : (named : Bool) → HasByte (cond named (name ++ equated style t) (written style.writing t))
    by_kind true = has_back name (equated style t) (is_equated style t h)
    by_kind false = is_written style.writing t h

-- the text of an expression whose first variable has such a text
pub record LedText (style : Style) (text : Text) : Type 0 where
  pub more : Text
  pub some : HasByte more
  pub is : text ≡ style.first ++ more

pub led_text : (look : LookUp) (style : Style) (spec : Spec) (specs : List Spec) (t : Text) → look spec.name ≡ Some (Single t) → HasByte t
    → LedText style (led style (pieces look style (spec ∷ specs)))
led_text look style spec specs t e h =
    let p = item style spec.name (prefix style.writing spec.cut t) in
    let rest = pieces look style specs in
    record {
      more = joined_by style.sep (p ∷ rest);
      some = has_front p (flat_map (λ next. style.sep ++ next) rest) (is_item style spec.name _ (has_prefix style.writing spec.cut t h));
      is = ap (λ (m : Option Meaning). led style (cons_option (piece style spec m) rest)) e;
    }

-- it is not empty
pub has_text : (style : Style) (text : Text) → LedText style text → HasByte text
has_text style text led = subst HasByte (sym led.is) (has_back style.first led.more led.some)

-- ---- values without reserved characters

-- a look-up that defines the names of all specs as texts
abbrev pub AreTexts : LookUp → List Spec → Type 0
AreTexts look [] = Unit {0}
AreTexts look (spec ∷ specs) = ((t : Text) × (look spec.name ≡ Some (Single t))) × AreTexts look specs

abbrev ArePlain : List Text → Type 0
ArePlain [] = Unit {0}
ArePlain (t ∷ texts) = IsPlain t × ArePlain texts

-- what an operator writes that neither names values nor copies reserved characters
pub record IsPlainStyle (style : Style) : Type 0 where
  pub unnamed : style.named ≡ false
  pub writing : style.writing ≡ U
  pub first : IsPlain style.first
  pub sep : IsPlain style.sep

module _ (style : Style) (plain : IsPlainStyle style) where
  item_plain : (name t : Text) → IsPlain (item style name t)
  item_plain name t =
      subst IsPlain (sym (ap (λ (named : Bool). cond named (name ++ equated style t) (written style.writing t)) plain.unnamed))
      (subst (λ (w : Writing). IsPlain (written w t)) (sym plain.writing) (written_plain t))

  pieces_plain : (look : LookUp) (specs : List Spec) → AreTexts look specs → ArePlain (pieces look style specs)
  pieces_plain look [] h = tt
  pieces_plain look (spec ∷ specs) h =
      subst (λ (m : Option Meaning). ArePlain (cons_option (piece style spec m) (pieces look style specs))) (sym h.0.1)
      (item_plain spec.name (prefix style.writing spec.cut h.0.0), pieces_plain look specs h.1)

  joined_plain : (texts : List Text) → ArePlain texts → IsPlain (flat_map (λ next. style.sep ++ next) texts)
  joined_plain [] h = tt
  joined_plain (t ∷ texts) h =
      plain_append (style.sep ++ t) (flat_map (λ next. style.sep ++ next) texts) (plain_append style.sep t plain.sep h.0) (joined_plain texts h.1)

  led_plain : (texts : List Text) → ArePlain texts → IsPlain (led style texts)
  led_plain [] h = tt
  led_plain (t ∷ texts) h =
      plain_append style.first (joined_by style.sep (t ∷ texts)) plain.first
      (plain_append t (flat_map (λ next. style.sep ++ next) texts) h.0 (joined_plain texts h.1))

  pub expression_plain : (look : LookUp) (specs : List Spec) → AreTexts look specs → IsPlain (led style (pieces look style specs))
  expression_plain look specs h = led_plain (pieces look style specs) (pieces_plain look specs h)
