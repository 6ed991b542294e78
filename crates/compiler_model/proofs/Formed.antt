-- Blocks that are correctly assembled: their registers, counts and link texts are allowed, no loop is in a loop, and no jump leaves a loop. The blocks of rules
-- are correctly assembled.
use Rattle.std.proofs.Common.{◌≡◌, ℕ, List, [], ◌∷◌, ◌++◌, Bool, true, false, refl, arith}
use Rattle.std.specs.Prelude.{codes, nat_lt, nat_le, ◌&&◌, ◌||◌, All}
use Rattle.std.specs.List.{AllByRecursion, list_any}
use Rattle.std.proofs.lemmas.Bool.{or_right}
use Rattle.std.proofs.lemmas.List.Elements.{All-head, All-tail}
use Rattle.std.proofs.lemmas.Grind.{common_steps}
use Rattle.text_model.specs.Texts.{Text, is_unreserved, is_reserved}
use Rattle.text_model.specs.UriText.{IsUriText, nothing}
use Rattle.text_model.proofs.UriTexts.{IsUriText-append, IsUriText-character}
use Rattle.environment_model.specs.Lists.{is_list}
use Rattle.uri_grammar.specs.declared.parts.Op.{Op}
use Rattle.uri_grammar.specs.declared.parts.Op.TheVariants as operator
use Rattle.uri_grammar.specs.declared.parts.Spec.{Spec}
use Rattle.uri_grammar.specs.declared.parts.Part.{Part}
use Rattle.uri_grammar.specs.Texts.{IsTemplate}
use Rattle.uri_grammar.specs.Promises.{IsSoundSpec, IsSoundPart}
use Rattle.uri_template.specs.Expansion.{Style, style_of}
use Rattle.rule_parser.specs.declared.rule.Guard.{Guard}
use Rattle.rule_parser.specs.declared.rule.Rule.{Rule}
use Rattle.rule_parser.specs.Rules.{IsSoundRule}
use Rattle.compiler_model.specs.declared.lines.Action.{Action}
use Rattle.compiler_model.specs.declared.lines.Action.TheVariants.{LoadText, LoadList, LoadConst, CountMembers, Emits, Separates, Puts, Cuts}
use Rattle.compiler_model.specs.declared.lines.Test.{Test}
use Rattle.compiler_model.specs.declared.lines.Test.TheVariants.{IsUndefined, IsEmpty, HasNoMember, HasNoNumber, Differs, IsLess}
use Rattle.compiler_model.specs.Blocks.{Block, Nothing, Does, Then, Unless, Either, ForEach, LeaveIf, Leave}
use Rattle.compiler_model.specs.Shapes.{loading, is_missing, guard_block, guards_block, lead_block, named_block}
use Rattle.compiler_model.specs.Shapes.{item_block, head_block, members_block, loaded_block, specs_block, part_block, parts_block, rule_block}
use Rattle.compiler_model.specs.Compiled.{is_counts}

-- ---- what has to hold

-- a register of either version
abbrev pub IsRegister : ℕ → Type 0
IsRegister r = nat_lt r 16 ≡ true

-- an action in code of a version, in a loop or outside of any
abbrev pub IsFormedAction : ℕ → Bool → Action → Type 0
IsFormedAction version inside (LoadText a name) = IsRegister a
IsFormedAction version inside (LoadList a name) = IsRegister a
IsFormedAction version inside (LoadConst a t) = IsRegister a
IsFormedAction version inside (CountMembers a b) = IsRegister a × IsRegister b × (version ≡ 2)
IsFormedAction version inside (Emits t) = IsUriText t
IsFormedAction version inside (Separates t) = (inside ≡ true) × IsUriText t
IsFormedAction version inside (Puts a w) = IsRegister a
IsFormedAction version inside (Cuts a n w) = IsRegister a × ((nat_le 1 n && nat_le n 9999) ≡ true)

abbrev pub IsFormedTest : Test → Type 0
IsFormedTest (IsUndefined a) = IsRegister a
IsFormedTest (IsEmpty a) = IsRegister a
IsFormedTest (HasNoMember a) = IsRegister a
IsFormedTest (HasNoNumber a b) = IsRegister a × IsRegister b
IsFormedTest (Differs a b) = IsRegister a × IsRegister b
IsFormedTest (IsLess a b) = IsRegister a × IsRegister b

abbrev pub IsFormed : ℕ → Bool → Block → Type 0
IsFormed version inside Nothing = Unit {0}
IsFormed version inside (Does action) = IsFormedAction version inside action
IsFormed version inside (Then first second) = IsFormed version inside first × IsFormed version inside second
IsFormed version inside (Unless test body) = IsFormedTest test × IsFormed version inside body
IsFormed version inside (Either test first second) = IsFormedTest test × IsFormed version inside first × IsFormed version inside second
IsFormed version inside (ForEach a b body) = (inside ≡ false) × IsRegister a × IsRegister b × IsFormed version true body
IsFormed version inside (LeaveIf test) = (inside ≡ false) × IsFormedTest test
IsFormed version inside Leave = inside ≡ false

-- every text that is a template has a sound tree
abbrev pub TreesAreSound : Type 0
TreesAreSound = (text : Text) (parts : List Part) → IsTemplate text parts → All IsSoundPart parts

-- ---- guards

module _ (version : ℕ) where
  loading_formed : (inside list : Bool) (name : Text) → IsFormedAction version inside (loading list name)
  loading_formed inside list name = grind (arith, common_steps)

  missing_formed : (list : Bool) → IsFormedTest (is_missing list)
  missing_formed list = grind (arith, common_steps)

  -- only `counts` needs version 2
  guard_formed : (lists : List Text) (g : Guard) → (is_counts g ≡ true → version ≡ 2) → IsFormed version false (guard_block lists g)
  guard_formed lists g h = grind (arith, common_steps)

  first_true : (b c : Bool) → b ≡ true → (b || c) ≡ true
  first_true b c h = grind (arith, common_steps)

  guards_formed : (lists : List Text) (gs : List Guard) → (list_any is_counts gs ≡ true → version ≡ 2) → IsFormed version false (guards_block lists gs)
  guards_formed lists [] h = tt
  guards_formed lists (g ∷ gs) h = (
    guard_formed lists g (λ e. h (first_true (is_counts g) (list_any is_counts gs) e)),
    guards_formed lists gs (λ e. h (or_right (is_counts g) (list_any is_counts gs) e)),
  )

  -- ---- texts of the operators' table

  equals_uri : IsUriText (codes "=")
  unfolding is_unreserved is_reserved
  equals_uri = IsUriText-character 61 refl

  comma_uri : IsUriText (codes ",")
  unfolding is_unreserved is_reserved
  comma_uri = IsUriText-character 44 refl

  record WritesUri (style : Style) : Type 0 where
    first : IsUriText style.first
    sep : IsUriText style.sep

  style_uri : (op : Op) → WritesUri (style_of op)
  unfolding is_unreserved is_reserved
  style_uri operator.Simple = record { first = nothing; sep = comma_uri }
  style_uri operator.Plus = record { first = nothing; sep = comma_uri }
  style_uri operator.Hash = record { first = IsUriText-character 35 refl; sep = comma_uri }
  style_uri operator.Dot = record { first = IsUriText-character 46 refl; sep = IsUriText-character 46 refl }
  style_uri operator.Slash = record { first = IsUriText-character 47 refl; sep = IsUriText-character 47 refl }
  style_uri operator.Semicolon = record { first = IsUriText-character 59 refl; sep = IsUriText-character 59 refl }
  style_uri operator.Question = record { first = IsUriText-character 63 refl; sep = IsUriText-character 38 refl }
  style_uri operator.Ampersand = record { first = IsUriText-character 38 refl; sep = IsUriText-character 38 refl }

  named_uri : (name : Text) → IsUriText name → IsUriText (name ++ codes "=")
  named_uri name h = IsUriText-append name (codes "=") h equals_uri

  -- ---- specs

  lead_formed : (first sep : Text) → IsUriText first → IsUriText sep → IsFormed version false (lead_block first sep)
  lead_formed first sep f s = grind (arith, common_steps)

  named_formed : (inside : Bool) (ifemp : Text) (r : ℕ) → IsRegister r → (name : Text) → IsUriText name → (value : Action)
      → IsFormedAction version inside value → IsFormed version inside (named_block ifemp r name value)
  named_formed inside ifemp r h name u value f = grind (arith, equals_uri, named_uri)

  item_formed : (inside : Bool) (style : Style) (r : ℕ) → IsRegister r → (name : Text) → IsUriText name → (value : Action)
      → IsFormedAction version inside value → IsFormed version inside (item_block style r name value)
  item_formed inside style r h name u value f = grind (arith, named_formed)

  head_formed : (named : Bool) (name : Text) → IsUriText name → IsFormed version false (head_block named name)
  head_formed named name u = grind (arith, named_uri)

  members_formed : (style : Style) → WritesUri style → (name : Text) → IsUriText name → (explode : Bool)
      → IsFormed version false (members_block style name explode)
  members_formed style w name u false = (head_formed style.named name u, (refl, refl, refl, ((refl, comma_uri), refl)))
  members_formed style w name u true = (refl, refl, refl, ((refl, w.sep), item_formed true style 5 refl name u (Puts 5 style.writing) refl))

  loaded_formed : (list : Bool) (style : Style) → WritesUri style → (spec : Spec) → IsSoundSpec spec → IsFormed version false (loaded_block list style spec)
  loaded_formed list style w spec h = grind (arith, members_formed, item_formed)

  specs_formed : (lists : List Text) (style : Style) → WritesUri style → (specs : List Spec) → All IsSoundSpec specs
      → IsFormed version false (specs_block lists style specs)
  specs_formed lists style w [] h = tt
  specs_formed lists style w (spec ∷ specs) h =
      let list = is_list lists spec.name in (
        (
          loading_formed false list spec.name,
          (missing_formed list, (lead_formed style.first style.sep w.first w.sep, loaded_formed list style w spec (All-head IsSoundSpec spec specs h))),
        ),
        specs_formed lists style w specs (All-tail IsSoundSpec spec specs h),
      )

  part_formed : (lists : List Text) (part : Part) → IsSoundPart part → IsFormed version false (part_block lists part)
  part_formed lists part h = grind (arith, specs_formed, style_uri)

  parts_formed : (lists : List Text) (parts : List Part) → All IsSoundPart parts → IsFormed version false (parts_block lists parts)
  parts_formed lists [] h = tt
  parts_formed lists (part ∷ parts) h =
      (part_formed lists part (All-head IsSoundPart part parts h), parts_formed lists parts (All-tail IsSoundPart part parts h))

  pub rule_formed : (lists : List Text) (rule : Rule) → All IsSoundPart rule.template.parts → (list_any is_counts rule.guards ≡ true → version ≡ 2)
      → IsFormed version false (rule_block lists rule)
  rule_formed lists rule h e = (guards_formed lists rule.guards e, parts_formed lists rule.template.parts h)

  -- ---- rules

  -- each rule of a list is correctly assembled
  abbrev pub AreFormed : List Text → List Rule → Type 0
  AreFormed lists rules = AllByRecursion (λ rule. IsFormed version false (rule_block lists rule)) rules

  abbrev counts_in : Rule → Bool
  counts_in rule = list_any is_counts rule.guards

  pub rules_formed : TreesAreSound → (lists : List Text) (rules : List Rule) → All (IsSoundRule lists) rules → (list_any counts_in rules ≡ true → version ≡ 2)
      → AreFormed lists rules
  rules_formed trees lists [] h e = tt
  rules_formed trees lists (rule ∷ rules) h e =
      let sound = All-head (IsSoundRule lists) rule rules h in (
        rule_formed lists rule (trees rule.template.text rule.template.parts sound.template)
            (λ t. e (first_true (counts_in rule) (list_any counts_in rules) t)),
        rules_formed trees lists rules (All-tail (IsSoundRule lists) rule rules h) (λ t. e (or_right (counts_in rule) (list_any counts_in rules) t)),
      )
