-- The block of each guard, of each part of a template, and of each rule.
use Rattle.std.specs.Prelude.{ℕ, zero, suc, List, [], ◌∷◌, ◌++◌, Bool, true, false, codes, if◌then◌else◌}
use Rattle.text_model.specs.Texts.{Text}
use Rattle.text_model.specs.declared.writing.Writing.{Writing}
use Rattle.environment_model.specs.Lists.{is_list}
use Rattle.uri_grammar.specs.declared.parts.Spec.{Spec}
use Rattle.uri_grammar.specs.declared.parts.Part.{Part}
use Rattle.uri_grammar.specs.declared.parts.Part.TheVariants.{Literal, Expression}
use Rattle.uri_template.specs.Expansion.{Style, style_of}
use Rattle.rule_parser.specs.declared.rule.Bound.{Bound}
use Rattle.rule_parser.specs.declared.rule.Bound.TheVariants as bound
use Rattle.rule_parser.specs.declared.rule.Guard.{Guard}
use Rattle.rule_parser.specs.declared.rule.Guard.TheVariants as guard
use Rattle.rule_parser.specs.declared.rule.Rule.{Rule}
use Rattle.compiler_model.specs.declared.lines.Action.{Action}
use Rattle.compiler_model.specs.declared.lines.Action.TheVariants.{LoadText, LoadList, LoadConst, CountMembers, Emits, Separates, Puts, Cuts}
use Rattle.compiler_model.specs.declared.lines.Test.{Test}
use Rattle.compiler_model.specs.declared.lines.Test.TheVariants.{IsUndefined, IsEmpty, HasNoMember, HasNoNumber, Differs, IsLess}
use Rattle.compiler_model.specs.Blocks.{Block, Nothing, Does, Then, Unless, Either, ForEach, LeaveIf, Leave}

-- ---- the value of a name, in r0

-- a name is loaded as a list or as a text, as it is declared
abbrev pub loading : Bool → Text → Action
loading true name = LoadList 0 name
loading false name = LoadText 0 name

-- the test whether what was loaded is undefined
abbrev pub is_missing : Bool → Test
is_missing true = HasNoMember 0
is_missing false = IsUndefined 0

-- ---- guards

-- if a bound has a number, it is loaded into r3, and the rule is left if the test holds
abbrev pub bound_block : Test → Bound → Block
bound_block test bound.Open = Nothing
bound_block test (bound.Digits digits) = Then (Does (LoadConst 2 digits)) (Unless (HasNoNumber 3 2) (LeaveIf test))
bound_block test (bound.Name name) =
    Then (Does (LoadText 2 name)) (Unless (IsUndefined 2) (Unless (HasNoNumber 3 2) (LeaveIf test)))

-- the rule is left if the number in r1 is out of bounds
abbrev pub bounds_block : Bound → Bound → Block
bounds_block low high = Then (bound_block (IsLess 1 3) low) (bound_block (IsLess 3 1) high)

abbrev pub guard_block : List Text → Guard → Block
guard_block lists (guard.Has name) =
    Then (Does (loading (is_list lists name) name)) (LeaveIf (is_missing (is_list lists name)))
guard_block lists (guard.Lacks name) =
    Then (Does (loading (is_list lists name) name)) (Unless (is_missing (is_list lists name)) Leave)
guard_block lists (guard.Given name) = Then (Does (LoadText 0 name)) (Then (LeaveIf (IsUndefined 0)) (LeaveIf (IsEmpty 0)))
guard_block lists (guard.Same name text) =
    Then (Does (LoadText 0 name)) (Then (LeaveIf (IsUndefined 0)) (Then (Does (LoadConst 1 text)) (LeaveIf (Differs 0 1))))
guard_block lists (guard.Holds name text) =
    Then (Does (LoadConst 1 text)) (Then (Does (LoadConst 2 [])) (Then (Does (LoadList 0 name))
    (Then (ForEach 3 0 (Unless (Differs 3 1) (Does (LoadConst 2 (codes "1"))))) (LeaveIf (IsEmpty 2)))))
guard_block lists (guard.Between name low high) =
    Then (Does (LoadText 0 name)) (Then (LeaveIf (IsUndefined 0)) (Then (LeaveIf (HasNoNumber 1 0)) (bounds_block low high)))
guard_block lists (guard.Counts name low high) =
    Then (Does (LoadList 0 name)) (Then (Does (CountMembers 1 0)) (bounds_block low high))

abbrev pub guards_block : List Text → List Guard → Block
guards_block lists [] = Nothing
guards_block lists (g ∷ gs) = Then (guard_block lists g) (guards_block lists gs)

-- ---- expressions: the text in r4 is empty until the first piece is printed

-- what comes before a piece
abbrev pub lead_block : Text → Text → Block
lead_block [] sep = Then (Unless (IsEmpty 4) (Does (Emits sep))) (Does (LoadConst 4 (codes "1")))
lead_block (b ∷ first) sep = Then (Either (IsEmpty 4) (Does (Emits sep)) (Does (Emits (b ∷ first)))) (Does (LoadConst 4 (codes "1")))

-- the text of a register, percent-encoded; 0 means no prefix
abbrev pub writing_action : ℕ → Writing → ℕ → Action
writing_action register writing zero = Puts register writing
writing_action register writing (suc n) = Cuts register (suc n) writing

-- a name and, if the value is not empty, the equals sign and the value; or the name with the equals sign, and the value
abbrev pub named_block : Text → ℕ → Text → Action → Block
named_block [] register name value =
    Then (Does (Emits name)) (Unless (IsEmpty register) (Then (Does (Emits (codes "="))) (Does value)))
named_block (b ∷ ifemp) register name value = Then (Does (Emits (name ++ codes "="))) (Does value)

abbrev pub item_block : Style → ℕ → Text → Action → Block
item_block style register name value = if style.named then named_block style.ifemp register name value else Does value

-- the name before members that are joined by commas
abbrev pub head_block : Bool → Text → Block
head_block true name = Does (Emits (name ++ codes "="))
head_block false name = Nothing

-- the members of the list in r0
abbrev pub members_block : Style → Text → Bool → Block
members_block style name false =
    Then (head_block style.named name) (ForEach 5 0 (Then (Does (Separates (codes ","))) (Does (Puts 5 style.writing))))
members_block style name true =
    ForEach 5 0 (Then (Does (Separates style.sep)) (item_block style 5 name (Puts 5 style.writing)))

-- what was loaded into r0
abbrev pub loaded_block : Bool → Style → Spec → Block
loaded_block true style spec = members_block style spec.name spec.explode
loaded_block false style spec = item_block style 0 spec.name (writing_action 0 style.writing spec.cut)

abbrev pub spec_block : List Text → Style → Spec → Block
spec_block lists style spec =
    Then (Does (loading (is_list lists spec.name) spec.name))
    (Unless (is_missing (is_list lists spec.name)) (Then (lead_block style.first style.sep) (loaded_block (is_list lists spec.name) style spec)))

abbrev pub specs_block : List Text → Style → List Spec → Block
specs_block lists style [] = Nothing
specs_block lists style (spec ∷ specs) = Then (spec_block lists style spec) (specs_block lists style specs)

-- ---- templates and rules

abbrev pub part_block : List Text → Part → Block
part_block lists (Literal text) = Does (Emits text)
part_block lists (Expression op specs) = Then (Does (LoadConst 4 [])) (specs_block lists (style_of op) specs)

abbrev pub parts_block : List Text → List Part → Block
parts_block lists [] = Nothing
parts_block lists (part ∷ parts) = Then (part_block lists part) (parts_block lists parts)

abbrev pub rule_block : List Text → Rule → Block
rule_block lists rule = Then (guards_block lists rule.guards) (parts_block lists rule.template.parts)
