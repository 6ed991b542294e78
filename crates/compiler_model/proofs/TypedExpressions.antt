-- Kinds of expressions: before and after each variable r4 holds a text.

use Rattle.std.proofs.Common.{ℕ, List, [], ◌∷◌, Bool, true, false, refl, arith}
use Rattle.std.specs.Prelude.{codes, if◌then◌else◌}
use Rattle.std.proofs.lemmas.Grind.{common_steps}
use Rattle.text_model.specs.Texts.{Text}
use Rattle.text_model.specs.declared.writing.Writing.{Writing}
use Rattle.environment_model.specs.Lists.{is_list}
use Rattle.machine_model.specs.declared.kind.Kind.{Kind}
use Rattle.machine_model.specs.declared.kind.Kind.TheVariants as kind
use Rattle.machine_model.specs.States.{put}
use Rattle.machine_model.specs.Kinds.{Kinds, any_kinds, IsBelow}
use Rattle.machine_model.proofs.Orders.{kind_le_refl}
use Rattle.uri_grammar.specs.declared.parts.Spec.{Spec}
use Rattle.uri_grammar.specs.declared.parts.Part.{Part}
use Rattle.uri_grammar.specs.declared.parts.Part.TheVariants.{Literal, Expression}
use Rattle.uri_template.specs.Expansion.{Style, style_of}
use Rattle.rule_parser.specs.declared.rule.Rule.{Rule}
use Rattle.compiler_model.specs.declared.lines.Action.TheVariants.{Separates, Puts}
use Rattle.compiler_model.specs.Blocks.{Block, Does, Then, Unless, ForEach}
use Rattle.compiler_model.specs.Shapes.{loading, is_missing, lead_block, writing_action, named_block, item_block, head_block, members_block, loaded_block}
use Rattle.compiler_model.specs.Shapes.{specs_block, part_block, parts_block, rule_block}
use Rattle.compiler_model.proofs.Typed.{HasKindIn, Typed, below_any, exactly, known_only, known_pair, only, pair, wider}
use Rattle.compiler_model.proofs.TypedGuards.{guards_typed}

abbrev flagged : Kinds
flagged = only 4 kind.Text

-- r0 holds a text or a list, too
abbrev loaded : Kind → Kinds
loaded k = pair 4 kind.Text 0 k

lead_typed : (first sep : Text) (k : Kind) (ks : Kinds) → HasKindIn ks 4 kind.Text → HasKindIn ks 0 k → Typed (lead_block first sep) ks (loaded k)
lead_typed [] sep k ks flag value = (
  loaded k,
  (flag, known_pair ks 4 kind.Text 0 k flag value, (tt, known_pair ks 4 kind.Text 0 k flag value)),
  (tt, known_pair (put (loaded k) 4 kind.Text) 4 kind.Text 0 k refl (kind_le_refl k)),
)
lead_typed (b ∷ first) sep k ks flag value = (
  loaded k,
  (flag, (tt, known_pair ks 4 kind.Text 0 k flag value), (tt, known_pair ks 4 kind.Text 0 k flag value)),
  (tt, known_pair (put (loaded k) 4 kind.Text) 4 kind.Text 0 k refl (kind_le_refl k)),
)

writing_typed : (r : ℕ) (w : Writing) (n : ℕ) (ks ms : Kinds) → HasKindIn ks r kind.Text → IsBelow ks ms → Typed (Does (writing_action r w n)) ks ms
writing_typed r w n ks ms h below = grind (arith, common_steps)

-- a value with its name, if r holds a text
item_typed : (style : Style) (r : ℕ) (name : Text) (w : Writing) (n : ℕ) (ks ms : Kinds) → HasKindIn ks r kind.Text → IsBelow ks ms
    → Typed (item_block style r name (writing_action r w n)) ks ms
item_typed style r name w n ks ms h below = by_test style.named style.ifemp
  where
    named : (ifemp : Text) → Typed (named_block ifemp r name (writing_action r w n)) ks ms
    named [] = (ks, (tt, exactly ks), (h, below, (ks, (tt, exactly ks), writing_typed r w n ks ms h below)))
    named (b ∷ ifemp) = (ks, (tt, exactly ks), writing_typed r w n ks ms h below)

    by_test : (b : Bool) (ifemp : Text) → Typed (if b then named_block ifemp r name (writing_action r w n) else Does (writing_action r w n)) ks ms
    by_test b ifemp = grind (arith, named)

head_typed : (named : Bool) (name : Text) (ks : Kinds) → Typed (head_block named name) ks ks
head_typed named name ks = grind (arith, common_steps)

-- in a loop over members r5 holds one
abbrev turning : Kinds
turning = pair 4 kind.Text 5 kind.Text

loop_typed : (body : Block) → Typed body turning turning → Typed (ForEach 5 0 body) (loaded kind.List) flagged
loop_typed body h = grind (arith, common_steps)

members_typed : (style : Style) (name : Text) (explode : Bool) → Typed (members_block style name explode) (loaded kind.List) flagged
members_typed style name false = (
  loaded kind.List,
  head_typed style.named name (loaded kind.List),
  loop_typed (Then (Does (Separates (codes ","))) (Does (Puts 5 style.writing))) (turning, (tt, exactly turning), (refl, exactly turning)),
)
members_typed style name true =
    loop_typed (Then (Does (Separates style.sep)) (item_block style 5 name (Puts 5 style.writing)))
    (turning, (tt, exactly turning), item_typed style 5 name style.writing 0 turning turning refl (exactly turning))

spec_typed : (list : Bool) (style : Style) (spec : Spec)
    → Typed (Then (Does (loading list spec.name)) (Unless (is_missing list) (Then (lead_block style.first style.sep) (loaded_block list style spec)))) flagged
    flagged
spec_typed true style spec =
    let ks = put flagged 0 kind.List in (
      ks,
      (tt, exactly ks),
      (
        refl,
        known_only ks 4 kind.Text refl,
        (loaded kind.List, lead_typed style.first style.sep kind.List ks refl refl, members_typed style spec.name spec.explode),
      ),
    )
spec_typed false style spec =
    let ks = put flagged 0 kind.OptText in (
      ks,
      (tt, exactly ks),
      (
        refl,
        known_only ks 4 kind.Text refl,
        (
          loaded kind.Text,
          lead_typed style.first style.sep kind.Text (put ks 0 kind.Text) refl refl,
          item_typed style 0 spec.name style.writing spec.cut (loaded kind.Text) flagged refl (known_only (loaded kind.Text) 4 kind.Text refl),
        ),
      ),
    )

specs_typed : (lists : List Text) (style : Style) (specs : List Spec) → Typed (specs_block lists style specs) flagged flagged
specs_typed lists style [] = exactly flagged
specs_typed lists style (spec ∷ specs) = (flagged, spec_typed (is_list lists spec.name) style spec, specs_typed lists style specs)

-- ---- templates and rules

part_typed : (lists : List Text) (part : Part) → Typed (part_block lists part) any_kinds any_kinds
part_typed lists (Literal text) = (tt, exactly any_kinds)
part_typed lists (Expression op specs) = (
  flagged,
  (tt, exactly flagged),
  wider (specs_block lists (style_of op) specs) flagged flagged any_kinds (below_any flagged)
      (specs_typed lists (style_of op) specs),
)

parts_typed : (lists : List Text) (parts : List Part) → Typed (parts_block lists parts) any_kinds any_kinds
parts_typed lists [] = exactly any_kinds
parts_typed lists (part ∷ parts) = (any_kinds, part_typed lists part, parts_typed lists parts)

pub rule_typed : (lists : List Text) (rule : Rule) → Typed (rule_block lists rule) any_kinds any_kinds
rule_typed lists rule = (any_kinds, guards_typed lists rule.guards, parts_typed lists rule.template.parts)
