-- A property of all names that the code of rules loads, as texts or as lists.
use Rattle.std.proofs.Common.{List, [], ◌∷◌, ◌++◌, Bool, true, false, sym, subst, arith}
use Rattle.std.specs.Prelude.{All}
use Rattle.std.specs.List.{AllByRecursion, filter_map, flat_map}
use Rattle.std.proofs.lemmas.Grind.{common_steps}
use Rattle.std.proofs.lemmas.List.{append_assoc}
use Rattle.std.proofs.lemmas.List.Elements.{All-head, All-tail, All-from_recursion}
use Rattle.text_model.specs.Texts.{Text}
use Rattle.text_model.proofs.Lists.{all_append}
use Rattle.environment_model.specs.Lists.{is_list}
use Rattle.code_model.specs.Code.{Name}
use Rattle.uri_grammar.specs.declared.parts.Spec.{Spec}
use Rattle.uri_grammar.specs.declared.parts.Part.{Part}
use Rattle.uri_grammar.specs.Promises.{IsSoundSpec, IsSoundPart}
use Rattle.uri_template.specs.Expansion.{Style}
use Rattle.rule_parser.specs.declared.rule.Bound.{Bound}
use Rattle.rule_parser.specs.declared.rule.Bound.TheVariants as bound
use Rattle.rule_parser.specs.declared.rule.Guard.{Guard}
use Rattle.rule_parser.specs.declared.rule.Guard.TheVariants as guard
use Rattle.rule_parser.specs.declared.rule.Rule.{Rule}
use Rattle.rule_parser.specs.Rules.{IsSoundGuard, IsSoundRule}
use Rattle.compiler_model.specs.declared.lines.Action.{Action}
use Rattle.compiler_model.specs.declared.lines.Action.TheVariants.{LoadText, LoadList}
use Rattle.compiler_model.specs.declared.lines.Line.{Line}
use Rattle.compiler_model.specs.declared.lines.Line.TheVariants.{Acts, Fails}
use Rattle.compiler_model.specs.Blocks.{Block, Nothing, Does, Then, Unless, Either, ForEach, LeaveIf, Leave, lines}
use Rattle.compiler_model.specs.Shapes.{loading, guard_block, guards_block, lead_block}
use Rattle.compiler_model.specs.Shapes.{loaded_block, specs_block, part_block, parts_block, rule_block}
use Rattle.compiler_model.specs.Tables.{is_same_name, name_used, names_of}
use Rattle.compiler_model.specs.Compiled.{rule_lines}
use Rattle.compiler_model.proofs.Formed.{TreesAreSound}
use Rattle.compiler_model.proofs.CodeForm.{firsts_keep}

module _ (Right : Bool → Text → Type 0) where
  -- ---- the property `Right list name` of a name that is loaded as a list or as a text, for actions and lines

  abbrev LoadsRightly : Action → Type 0
  LoadsRightly (LoadText a name) = Right false name
  LoadsRightly (LoadList a name) = Right true name
  LoadsRightly action = Unit {0}

  abbrev IsRightBlock : Block → Type 0
  IsRightBlock Nothing = Unit {0}
  IsRightBlock (Does action) = LoadsRightly action
  IsRightBlock (Then first second) = IsRightBlock first × IsRightBlock second
  IsRightBlock (Unless test body) = IsRightBlock body
  IsRightBlock (Either test first second) = IsRightBlock first × IsRightBlock second
  IsRightBlock (ForEach a b body) = IsRightBlock body
  IsRightBlock (LeaveIf test) = Unit {0}
  IsRightBlock Leave = Unit {0}

  abbrev IsRightLine : Line → Type 0
  IsRightLine (Acts action) = LoadsRightly action
  IsRightLine line = Unit {0}

  abbrev pub IsRightName : Name → Type 0
  IsRightName name = Right name.list name.text

  -- the same for the parts of rules

  abbrev pub IsRightBound : Bound → Type 0
  IsRightBound bound.Open = Unit {0}
  IsRightBound (bound.Digits digits) = Unit {0}
  IsRightBound (bound.Name name) = Right false name

  abbrev pub IsRightGuard : List Text → Guard → Type 0
  IsRightGuard lists (guard.Has name) = Right (is_list lists name) name
  IsRightGuard lists (guard.Lacks name) = Right (is_list lists name) name
  IsRightGuard lists (guard.Given name) = Right false name
  IsRightGuard lists (guard.Same name text) = Right false name
  IsRightGuard lists (guard.Holds name text) = Right true name
  IsRightGuard lists (guard.Between name low high) = Right false name × IsRightBound low × IsRightBound high
  IsRightGuard lists (guard.Counts name low high) = Right true name × IsRightBound low × IsRightBound high

  abbrev pub IsRightSpec : List Text → Spec → Type 0
  IsRightSpec lists spec = Right (is_list lists spec.name) spec.name

  -- ---- guards

  loading_right : (list : Bool) (name : Text) → Right list name → LoadsRightly (loading list name)
  loading_right list name h = grind (arith, common_steps)

  guard_right : (lists : List Text) (g : Guard) → IsRightGuard lists g → IsRightBlock (guard_block lists g)
  guard_right lists g h = grind (arith, common_steps)

  -- ---- expressions

  lead_right : (first sep : Text) → IsRightBlock (lead_block first sep)
  lead_right first sep = grind (arith, common_steps)

  loaded_right : (list : Bool) (style : Style) (spec : Spec) → IsRightBlock (loaded_block list style spec)
  loaded_right list style spec = grind (arith, common_steps)

  -- ---- lines

  lines_right : (b : Block) → IsRightBlock b → AllByRecursion IsRightLine (lines b)
  lines_right Nothing h = tt
  lines_right (Does a) h = (h, tt)
  lines_right (Then x y) h = all_append _ (lines x) (lines y) (lines_right x h.0) (lines_right y h.1)
  lines_right (Unless t x) h = (tt, lines_right x h)
  lines_right (Either t x y) h = (tt, all_append _ (lines x) _ (lines_right x h.0) (tt, lines_right y h.1))
  lines_right (ForEach a b x) h = (tt, all_append _ (lines x) _ (lines_right x h) (tt, tt))
  lines_right (LeaveIf t) h = (tt, tt)
  lines_right Leave h = (tt, tt)

  used_right : (ls : List Line) → AllByRecursion IsRightLine ls → AllByRecursion IsRightName (filter_map name_used ls)
  used_right [] h = tt
  used_right (Acts (LoadText a name) ∷ ls) h = (h.0, used_right ls h.1)
  used_right (Acts (LoadList a name) ∷ ls) h = (h.0, used_right ls h.1)
  used_right (Acts action ∷ ls) h = used_right ls h.1
  used_right (l ∷ ls) h = used_right ls h.1

  -- ---- sound rules, whose guards and specs are right

  module _ (trees : TreesAreSound) (lists : List Text) (of_guard : (g : Guard) → IsSoundGuard lists g → IsRightGuard lists g)
      (of_spec : (spec : Spec) → IsSoundSpec spec → IsRightSpec lists spec) where
    guards_right : (gs : List Guard) → All (IsSoundGuard lists) gs → IsRightBlock (guards_block lists gs)
    guards_right [] h = tt
    guards_right (g ∷ gs) h = (guard_right lists g (of_guard g (All-head (IsSoundGuard lists) g gs h)), guards_right gs (All-tail (IsSoundGuard lists) g gs h))

    specs_right : (style : Style) (specs : List Spec) → All IsSoundSpec specs → IsRightBlock (specs_block lists style specs)
    specs_right style [] h = tt
    specs_right style (spec ∷ specs) h =
        let list = is_list lists spec.name in
        let loads = loading_right list spec.name (of_spec spec (All-head IsSoundSpec spec specs h)) in
        ((loads, (lead_right style.first style.sep, loaded_right list style spec)), specs_right style specs (All-tail IsSoundSpec spec specs h))

    parts_right : (parts : List Part) → All IsSoundPart parts → IsRightBlock (parts_block lists parts)
    parts_right [] h = tt
    parts_right (part ∷ parts) h = (of_part part (All-head IsSoundPart part parts h), parts_right parts (All-tail IsSoundPart part parts h))
      where
        of_part : (part : Part) → IsSoundPart part → IsRightBlock (part_block lists part)
        of_part part k = grind (arith, specs_right)

    rules_right : (rules : List Rule) → All (IsSoundRule lists) rules → AllByRecursion IsRightLine (flat_map (rule_lines lists) rules ++ Fails ∷ [])
    rules_right [] h = (tt, tt)
    rules_right (rule ∷ rules) h =
        let sound = All-head (IsSoundRule lists) rule rules h in
        let parts = trees rule.template.text rule.template.parts sound.template in
        let right : IsRightBlock (rule_block lists rule) = (guards_right rule.guards sound.guards, parts_right rule.template.parts parts) in
        let here : AllByRecursion IsRightLine (rule_lines lists rule) = grind (arith, all_append, lines_right, right) in
        subst (AllByRecursion IsRightLine) (sym (append_assoc (rule_lines lists rule) (flat_map (rule_lines lists) rules) (Fails ∷ [])))
        (all_append _ (rule_lines lists rule) _ here (rules_right rules (All-tail (IsSoundRule lists) rule rules h)))

    -- then each name of the code is right
    pub names_right : (rules : List Rule) → All (IsSoundRule lists) rules
        → All IsRightName (names_of (flat_map (rule_lines lists) rules ++ Fails ∷ []))
    names_right rules sound = All-from_recursion IsRightName _ (firsts_keep IsRightName is_same_name _ (used_right _ (rules_right rules sound)))
