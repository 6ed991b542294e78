-- The block of a template's part appends what the part expands to.

use Rattle.std.proofs.Common.{◌≡◌, ℕ, zero, suc, List, [], ◌∷◌, ◌++◌, Option, Some, None, Bool, true, false, refl, sym, ap, ◌∙◌, ◌⊎◌, inl, inr, arith}
use Rattle.std.specs.Prelude.{codes, map, if◌then◌else◌}
use Rattle.std.specs.List.{flat_map}
use Rattle.std.proofs.lemmas.List.{append_assoc, append-nil}
use Rattle.std.proofs.lemmas.Grind.{common_steps}
use Rattle.text_model.specs.Texts.{Text}
use Rattle.text_model.specs.Writing.{written, written_u, written_ur}
use Rattle.text_model.proofs.Cuts.{cut-nothing}
use Rattle.text_model.specs.declared.writing.Writing.{Writing}
use Rattle.text_model.specs.declared.writing.Writing.TheVariants.{U, UR}
use Rattle.environment_model.specs.Environment.{Environment}
use Rattle.machine_model.specs.Values as value
use Rattle.machine_model.specs.States.{put}
use Rattle.uri_grammar.specs.declared.parts.Op.{Op}
use Rattle.uri_grammar.specs.declared.parts.Op.TheVariants as operator
use Rattle.uri_template.specs.Expansion.{Style, style_of, joined_by, equated, item, list_piece, prefix}
use Rattle.compiler_model.specs.declared.lines.Action.TheVariants.{Separates, Puts}
use Rattle.compiler_model.specs.Blocks.{Block, Does, Then}
use Rattle.compiler_model.specs.Shapes.{lead_block, writing_action, named_block, item_block, head_block, members_block}
use Rattle.compiler_model.proofs.Effects.{Store, keeping, saying, Claim, Acted, InTurns, Brings}
use Rattle.compiler_model.proofs.FirstItems.{prefix_first}

-- ---- texts

written_nothing : (w : Writing) → written w [] ≡ []
unfolding written_u written_ur
written_nothing U = refl
written_nothing UR = refl

prefix_nothing : (w : Writing) (n : ℕ) → prefix w n [] ≡ []
prefix_nothing w zero = refl
prefix_nothing w (suc n) = cut-nothing w [] (suc n) refl

equated_nothing : (style : Style) (x : Text) → x ≡ [] → equated style x ≡ style.ifemp
equated_nothing style x e = ap (equated style) e

equated_some : (style : Style) (x : Text) (b : ℕ) (rest : Text) → x ≡ b ∷ rest → equated style x ≡ codes "=" ++ written style.writing x
equated_some style x b rest e = ap (equated style) e ∙ ap (λ y. codes "=" ++ written style.writing y) (sym e)

-- an operator that writes the equals sign for an empty value too
equated_always : (style : Style) (x : Text) → style.ifemp ≡ codes "=" → equated style x ≡ codes "=" ++ written style.writing x
equated_always style x e = grind (arith, written_nothing)

-- what the table of operators has for an empty value: an equals sign or nothing
abbrev pub EndsName : Text → Type 0
EndsName ifemp = (ifemp ≡ []) ⊎ (ifemp ≡ codes "=")

pub style_ends_name : (op : Op) → EndsName (style_of op).ifemp
style_ends_name operator.Question = inr refl
style_ends_name operator.Ampersand = inr refl
style_ends_name _ = inl refl

-- ---- one piece

-- the text of r4: empty until the first piece
abbrev pub one : Text
one = codes "1"

-- what comes before a piece
abbrev pub opening : Text → Text → Text → Text
opening first sep [] = first
opening first sep (b ∷ flag) = sep

abbrev pub opened : Style → Text → Option Text → Text
opened style flag None = []
opened style flag (Some p) = opening style.first style.sep flag ++ p

abbrev pub next_flag : Option Text → Text → Text
next_flag None flag = flag
next_flag (Some p) flag = one

module _ (v : Environment) where
  pub lead_brings : (first sep flag : Text) (s : Store) (Q R : Claim) → s.registers 4 ≡ value.Text flag
      → ((out : Text) → out ≡ s.output ++ opening first sep flag → Q (record { registers = put s.registers 4 (value.Text one); output = out }))
      → Brings v None (lead_block first sep) s Q R
  lead_brings [] sep [] s Q R e k = inl (e, k s.output (sym (append-nil s.output)))
  lead_brings [] sep (b ∷ flag) s Q R e k = inr (b, flag, e, k _ refl)
  lead_brings (x ∷ first) sep [] s Q R e k = inl (e, k _ refl)
  lead_brings (x ∷ first) sep (b ∷ flag) s Q R e k = inr (b, flag, e, k _ refl)

  value_brings : (turn : Option Bool) (r : ℕ) (w : Writing) (n : ℕ) (t : Text) (s : Store) (Q : Claim) → s.registers r ≡ value.Text t
      → Q (saying (written w (prefix w n t)) s) → Acted v turn (writing_action r w n) s Q
  value_brings turn r w n t s Q e k = grind (arith, common_steps)

  -- registers are unchanged, and the text is appended to the output
  abbrev pub Adds : Store → Text → Claim → Type 0
  Adds s text Q = (out : Text) → out ≡ s.output ++ text → Q (record s { output = out })

  named_brings : (style : Style) (turn : Option Bool) (r n : ℕ) (name t : Text) (s : Store) (Q R : Claim) → (ifemp : Text) → style.ifemp ≡ ifemp
      → EndsName ifemp → s.registers r ≡ value.Text t → Adds s (name ++ equated style (prefix style.writing n t)) Q
      → Brings v turn (named_block ifemp r name (writing_action r style.writing n)) s Q R
  named_brings style turn r n name [] s Q R [] i h e k =
      inl (e, k _ (ap (λ x. s.output ++ x) (sym (append-nil name) ∙ ap (λ x. name ++ x) (sym (equated_nothing style _ (prefix_nothing style.writing n) ∙ i)))))
  named_brings style turn r n name (b ∷ t) s Q R [] i h e k =
      let x = prefix style.writing n (b ∷ t) in
      let first = prefix_first style.writing n b t in
      inr (
        b,
        t,
        e,
        value_brings turn r style.writing n (b ∷ t) _ Q e
            (k _ (simp append_assoc refl ∙ ap (λ y. s.output ++ (name ++ y)) (sym (equated_some style x b first.0 first.1)))),
      )
  named_brings style turn r n name t s Q R (c ∷ ifemp) i (inl h) e k = absurd (cc)
  named_brings style turn r n name t s Q R (c ∷ ifemp) i (inr h) e k = grind (arith, append_assoc, equated_always)

  pub item_brings : (style : Style) → EndsName style.ifemp → (turn : Option Bool) (r n : ℕ) (name t : Text) (s : Store) (Q R : Claim)
      → s.registers r ≡ value.Text t → Adds s (item style name (prefix style.writing n t)) Q
      → Brings v turn (item_block style r name (writing_action r style.writing n)) s Q R
  item_brings style h turn r n name t s Q R e k = grind (arith, named_brings)

  -- ---- members

  -- members with a separator before each but the first
  abbrev pub parted : Text → Bool → List Text → Text
  parted sep true texts = joined_by sep texts
  parted sep false texts = flat_map (λ next. sep ++ next) texts

  -- r4 is unchanged, and the text is appended to the output
  abbrev pub Shows : Store → Text → Claim → Type 0
  Shows s text Q = (n : Store) → n.registers 4 ≡ s.registers 4 → n.output ≡ s.output ++ text → Q n

  -- the block appends the text of r5 as a member is written
  abbrev pub ShowsMember : Block → (Text → Text) → Type 1
  ShowsMember block printed = (turn : Option Bool) (t : Text) (s : Store) (Q : Claim) → s.registers 5 ≡ value.Text t → Adds s (printed t) Q
      → Brings v turn block s Q (λ never. ⊥)

  turns_bring : (sep : Text) (block : Block) (printed : Text → Text) → ShowsMember block printed → (ts : List Text) (first : Bool) (s : Store) (Q : Claim)
      → Shows s (parted sep first (map printed ts)) Q
      → InTurns (λ turn next Claimed. Brings v (Some turn) (Then (Does (Separates sep)) block) next Claimed (λ never. ⊥)) 5 ts first s Q
  turns_bring sep block printed m [] true s Q k = k s refl (sym (append-nil s.output))
  turns_bring sep block printed m [] false s Q k = k s refl (sym (append-nil s.output))
  turns_bring sep block printed m (t ∷ ts) true s Q k =
      m (Some true) t (keeping 5 (value.Text t) s) _ refl
      (λ out eq. turns_bring sep block printed m ts false (record { registers = put s.registers 5 (value.Text t); output = out }) Q
      (λ n kept added. k n kept (added ∙ ap (λ x. x ++ flat_map (λ next. sep ++ next) (map printed ts)) eq ∙ append_assoc s.output (printed t) _)))
  turns_bring sep block printed m (t ∷ ts) false s Q k =
      m (Some false) t (saying sep (keeping 5 (value.Text t) s)) _ refl
      (λ out eq. turns_bring sep block printed m ts false (record { registers = put s.registers 5 (value.Text t); output = out }) Q
      (λ n kept added. k n kept (added ∙ ap (λ x. x ++ flat_map (λ next. sep ++ next) (map printed ts)) eq ∙ simp append_assoc refl)))

  head_brings : (named : Bool) (name : Text) (s : Store) (Q R : Claim) → Adds s (if named then (name ++ codes "=") else []) Q
      → Brings v None (head_block named name) s Q R
  head_brings true name s Q R k = k _ refl
  head_brings false name s Q R k = k _ (sym (append-nil s.output))

  pub members_bring : (style : Style) → EndsName style.ifemp → (name : Text) (explode : Bool) (ts : List Text) (s : Store) (Q R : Claim)
      → s.registers 0 ≡ value.List ts → Shows s (list_piece style name explode ts) Q → Brings v None (members_block style name explode) s Q R
  members_bring style h name true ts s Q R e k = (
    refl,
    ts,
    e,
    turns_bring style.sep (item_block style 5 name (Puts 5 style.writing)) (item style name)
        (λ turn t n Claimed f added. item_brings style h turn 5 0 name t n Claimed (λ never. ⊥) f added) ts true s Q k,
  )
  members_bring style h name false ts s Q R e k =
      head_brings style.named name s _ R
      (λ out eq. (
        refl,
        ts,
        e,
        turns_bring (codes ",") (Does (Puts 5 style.writing)) (written style.writing) (λ turn t n Claimed f added. (t, f, added _ refl)) ts true
            (record s { output = out }) Q
            (λ n kept added. k n kept (added ∙ ap (λ x. x ++ joined_by (codes ",") (map (written style.writing) ts)) eq ∙ append_assoc s.output _ _)),
      ))
