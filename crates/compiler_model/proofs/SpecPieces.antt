-- What the blocks of variables, of expressions and of templates write.

use Rattle.std.proofs.Common.{arith, ◌≡◌, List, [], ◌∷◌, ◌++◌, Option, Some, None, Bool, true, false, refl, sym, ap, ◌∙◌, inl, inr}
use Rattle.std.proofs.lemmas.Grind.{common_steps}
use Rattle.std.specs.Prelude.{if◌then◌else◌, ◌==◌}
use Rattle.std.specs.List.{flat_map, list_all, cons_option}
use Rattle.std.proofs.lemmas.Bool.{and_parts, eqb-true}
use Rattle.std.proofs.lemmas.List.{append_assoc, append-nil}
use Rattle.text_model.specs.Texts.{Text}
use Rattle.environment_model.specs.Environment.{Environment, Meaning, Single, Several, look_up, text_in, members_in, only_text, only_list, members_of, view}
use Rattle.environment_model.specs.Lists.{is_list, list_names}
use Rattle.machine_model.specs.Values.{text_or_undefined}
use Rattle.machine_model.specs.Values as value
use Rattle.uri_grammar.specs.declared.parts.Spec.{Spec}
use Rattle.uri_grammar.specs.declared.parts.Part.{Part}
use Rattle.uri_grammar.specs.declared.parts.Part.TheVariants.{Literal, Expression}
use Rattle.uri_template.specs.Expansion.{Style, style_of, item, list_piece, prefix, piece, pieces, led, part_text, expansion}
use Rattle.rule_parser.specs.Rules.{spec_fits, part_fits, parts_fit}
use Rattle.compiler_model.specs.Blocks.{Does, Then, Unless}
use Rattle.compiler_model.specs.Shapes.{loading, is_missing, lead_block, loaded_block, specs_block, part_block, parts_block}
use Rattle.compiler_model.proofs.Effects.{Store, Claim, Brings}
use Rattle.compiler_model.proofs.Pieces.{EndsName, item_brings, lead_brings, members_bring, next_flag, opened, opening, style_ends_name}

module _ (v : Environment) where
  -- what rules see of a name, as it is declared
  abbrev pub seen_as : Bool → Option Meaning → Option Meaning
  seen_as list m = if list then only_list m else only_text m

  -- r4 has the next flag, and the opening is appended to the output
  abbrev pub Opens : Style → Text → Option Text → Store → Claim → Type 0
  Opens style flag p s Q = (n : Store) → n.registers 4 ≡ value.Text (next_flag p flag) → n.output ≡ s.output ++ opened style flag p → Q n

  text_brings : (style : Style) → EndsName style.ifemp → (spec : Spec) (flag : Text) (m : Option Meaning) → look_up v spec.name ≡ m → (s : Store) (Q R : Claim)
      → s.registers 4 ≡ value.Text flag → Opens style flag (piece style spec (only_text m)) s Q
      → Brings v None (Then (Does (loading false spec.name))
      (Unless (is_missing false) (Then (lead_block style.first style.sep) (loaded_block false style spec)))) s Q R
  text_brings style h spec flag None e s Q R f k = inl (ap (λ m. text_or_undefined (text_in m)) e, k _ f (sym (append-nil s.output)))
  text_brings style h spec flag (Some (Several ts)) e s Q R f k = inl (ap (λ m. text_or_undefined (text_in m)) e, k _ f (sym (append-nil s.output)))
  text_brings style h spec flag (Some (Single t)) e s Q R f k =
      let r : text_or_undefined (text_in (look_up v spec.name)) ≡ value.Text t = ap (λ m. text_or_undefined (text_in m)) e in
      inr (
        t,
        r,
        lead_brings v style.first style.sep flag _ _ R f
            (λ out eq. item_brings v style h None 0 spec.cut spec.name t _ Q R r
            (λ out2 eq2. k _ refl (eq2 ∙ ap (λ x. x ++ item style spec.name (prefix style.writing spec.cut t)) eq
            ∙ append_assoc s.output (opening style.first style.sep flag) _))),
      )

  list_brings : (style : Style) → EndsName style.ifemp → (spec : Spec) → spec.cut ≡ 0 → (flag : Text) (m : Option Meaning) → look_up v spec.name ≡ m
      → (s : Store) (Q R : Claim) → s.registers 4 ≡ value.Text flag → Opens style flag (piece style spec (only_list m)) s Q
      → Brings v None (Then (Does (loading true spec.name)) (Unless (is_missing true) (Then (lead_block style.first style.sep) (loaded_block true style spec))))
      s Q R
  list_brings style h spec z flag None e s Q R f k = inl (ap (λ m. value.List (members_in m)) e, k _ f (sym (append-nil s.output)))
  list_brings style h spec z flag (Some (Single t)) e s Q R f k = inl (ap (λ m. value.List (members_in m)) e, k _ f (sym (append-nil s.output)))
  list_brings style h spec z flag (Some (Several [])) e s Q R f k = inl (ap (λ m. value.List (members_in m)) e, k _ f (sym (append-nil s.output)))
  list_brings style h spec z flag (Some (Several (t ∷ ts))) e s Q R f k =
      let r : value.List (members_of v spec.name) ≡ value.List (t ∷ ts) = ap (λ m. value.List (members_in m)) e in
      let k2 : Opens style flag (Some (list_piece style spec.name spec.explode (t ∷ ts))) s Q = grind (arith, common_steps) in
      inr (
        t,
        ts,
        r,
        lead_brings v style.first style.sep flag _ _ R f
            (λ out eq. members_bring v style h spec.name spec.explode (t ∷ ts) _ Q R r
            (λ n kept added. k2 n kept (added ∙ ap (λ x. x ++ list_piece style spec.name spec.explode (t ∷ ts)) eq
            ∙ append_assoc s.output (opening style.first style.sep flag) _))),
      )

  spec_brings : (list : Bool) (style : Style) → EndsName style.ifemp → (spec : Spec) → (if list then spec.cut == 0 else true) ≡ true
      → (flag : Text) (s : Store) (Q R : Claim) → s.registers 4 ≡ value.Text flag → Opens style flag (piece style spec (seen_as list (look_up v spec.name))) s
      Q → Brings v None
      (Then (Does (loading list spec.name)) (Unless (is_missing list) (Then (lead_block style.first style.sep) (loaded_block list style spec)))) s Q R
  spec_brings true style h spec z flag s Q R f k = list_brings style h spec (eqb-true spec.cut 0 z) flag (look_up v spec.name) refl s Q R f k
  spec_brings false style h spec z flag s Q R f k = text_brings style h spec flag (look_up v spec.name) refl s Q R f k

  -- ---- all specs of an expression

  -- the text of the pieces that are left, depending on the flag
  abbrev pub left_over : Style → Text → List Text → Text
  left_over style [] ps = led style ps
  left_over style (b ∷ flag) ps = flat_map (λ next. style.sep ++ next) ps

  piece_more : (style : Style) (flag out : Text) (p : Option Text) (ps : List Text) → (out ++ opened style flag p) ++ left_over style (next_flag p flag) ps
      ≡ out ++ left_over style flag (cons_option p ps)
  piece_more style flag out p ps = grind (arith, common_steps)

  none_left : (style : Style) (flag : Text) → left_over style flag [] ≡ []
  none_left style flag = grind (arith, common_steps)

  module _ (lists : List Text) where
    abbrev look : Text → Option Meaning
    look = view (list_names lists) (look_up v)

    specs_bring : (style : Style) → EndsName style.ifemp → (specs : List Spec) → list_all (spec_fits lists) specs ≡ true
        → (flag : Text) (s : Store) (Q R : Claim) → s.registers 4 ≡ value.Text flag
        → ((n : Store) → n.output ≡ s.output ++ left_over style flag (pieces look style specs) → Q n) → Brings v None (specs_block lists style specs) s Q R
    specs_bring style h [] z flag s Q R f k = k s (sym (ap (λ x. s.output ++ x) (none_left style flag) ∙ append-nil s.output))
    specs_bring style h (spec ∷ specs) z flag s Q R f k =
        let both = and_parts (spec_fits lists spec) (list_all (spec_fits lists) specs) z in
        let p = piece style spec (look spec.name) in
        spec_brings (is_list lists spec.name) style h spec both.0 flag s _ R f
        (λ n next added. specs_bring style h specs both.1 (next_flag p flag) n Q R next
        (λ m rest. k m (rest ∙ ap (λ x. x ++ left_over style (next_flag p flag) (pieces look style specs)) added
        ∙ piece_more style flag s.output p (pieces look style specs))))

    -- ---- templates

    part_brings : (part : Part) → part_fits lists part ≡ true → (s : Store) (Q R : Claim) → ((n : Store) → n.output ≡ s.output ++ part_text look part → Q n)
        → Brings v None (part_block lists part) s Q R
    part_brings (Literal text) z s Q R k = k _ refl
    part_brings (Expression op specs) z s Q R k = specs_bring (style_of op) (style_ends_name op) specs z [] _ Q R refl k

    pub parts_bring : (parts : List Part) → parts_fit lists parts ≡ true → (s : Store) (Q R : Claim)
        → ((n : Store) → n.output ≡ s.output ++ expansion look parts → Q n) → Brings v None (parts_block lists parts) s Q R
    parts_bring [] z s Q R k = k s (sym (append-nil s.output))
    parts_bring (part ∷ parts) z s Q R k =
        let both = and_parts (part_fits lists part) (list_all (part_fits lists) parts) z in
        part_brings part both.0 s _ R
        (λ n added. parts_bring parts both.1 n Q R
        (λ m rest. k m (rest ∙ ap (λ x. x ++ expansion look parts) added ∙ append_assoc s.output (part_text look part) (expansion look parts))))
