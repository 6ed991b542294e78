-- The lines of each guard, and of expressions.
use Rattle.std.proofs.Common.{◌≡◌, ℕ, List, [], ◌∷◌, false, refl}
use Rattle.std.specs.Prelude.{codes}
use Rattle.text_model.specs.Texts.{Text}
use Rattle.uri_grammar.specs.declared.parts.Op.{Op}
use Rattle.uri_grammar.specs.declared.parts.Op.TheVariants as operator
use Rattle.uri_grammar.specs.declared.parts.Spec.{Spec}
use Rattle.rule_parser.specs.declared.rule.Bound.TheVariants as bound
use Rattle.rule_parser.specs.declared.rule.Guard.{Guard}
use Rattle.rule_parser.specs.declared.rule.Guard.TheVariants as guard
use Rattle.text_model.specs.declared.writing.Writing.TheVariants.{U, UR}
use Rattle.uri_template.specs.Expansion.{style_of}
use Rattle.compiler_model.specs.declared.lines.Action.{Action}
use Rattle.compiler_model.specs.declared.lines.Action.TheVariants.{LoadText, LoadList, LoadConst, CountMembers, Emits, Separates, Puts, Cuts}
use Rattle.compiler_model.specs.declared.lines.Test.{Test}
use Rattle.compiler_model.specs.declared.lines.Test.TheVariants.{IsUndefined, IsEmpty, HasNoMember, HasNoNumber, Differs, IsLess}
use Rattle.compiler_model.specs.declared.lines.Target.TheVariants.{Ahead, Away}
use Rattle.compiler_model.specs.declared.lines.Line.{Line}
use Rattle.compiler_model.specs.declared.lines.Line.TheVariants.{Acts, Tests, Jumps, Begins, Turns}
use Rattle.compiler_model.specs.Blocks.{lines}
use Rattle.compiler_model.specs.Shapes.{guard_block, spec_block}
use Rattle.compiler_model.proofs.ExampleRules.{plain, exploded}

-- ---- guards

-- the lines of a guard, if `rft.au` is a list and `x` a text
abbrev guarded : Guard → List Line
guarded g = lines (guard_block [] g)

abbrev authors : Text
authors = codes "rft.au"

abbrev x : Text
x = codes "x"

has_lines : guarded (guard.Has x) ≡ Acts (LoadText 0 x) ∷ Tests (IsUndefined 0) Away ∷ []
has_lines = refl

has_list_lines : guarded (guard.Has authors) ≡ Acts (LoadList 0 authors) ∷ Tests (HasNoMember 0) Away ∷ []
has_list_lines = refl

lacks_lines : guarded (guard.Lacks x) ≡ Acts (LoadText 0 x) ∷ Tests (IsUndefined 0) (Ahead 2) ∷ Jumps Away ∷ []
lacks_lines = refl

lacks_list_lines : guarded (guard.Lacks authors) ≡ Acts (LoadList 0 authors) ∷ Tests (HasNoMember 0) (Ahead 2) ∷ Jumps Away ∷ []
lacks_list_lines = refl

given_lines : guarded (guard.Given x) ≡ Acts (LoadText 0 x) ∷ Tests (IsUndefined 0) Away ∷ Tests (IsEmpty 0) Away ∷ []
given_lines = refl

same_lines : guarded (guard.Same x authors) ≡ Acts (LoadText 0 x) ∷ Tests (IsUndefined 0) Away ∷ Acts (LoadConst 1 authors) ∷ Tests (Differs 0 1) Away ∷ []
same_lines = refl

holds_lines : guarded (guard.Holds authors x) ≡
    Acts (LoadConst 1 x)
    ∷ Acts (LoadConst 2 [])
    ∷ Acts (LoadList 0 authors)
    ∷ Begins 3 0 4
    ∷ Tests (Differs 3 1) (Ahead 2)
    ∷ Acts (LoadConst 2 (codes "1"))
    ∷ Turns
    ∷ Tests (IsEmpty 2) Away
    ∷ []
holds_lines = refl

between_lines : guarded (guard.Between x (bound.Digits (codes "7")) (bound.Name (codes "y"))) ≡
    Acts (LoadText 0 x)
    ∷ Tests (IsUndefined 0) Away
    ∷ Tests (HasNoNumber 1 0) Away
    ∷ Acts (LoadConst 2 (codes "7"))
    ∷ Tests (HasNoNumber 3 2) (Ahead 2)
    ∷ Tests (IsLess 1 3) Away
    ∷ Acts (LoadText 2 (codes "y"))
    ∷ Tests (IsUndefined 2) (Ahead 3)
    ∷ Tests (HasNoNumber 3 2) (Ahead 2)
    ∷ Tests (IsLess 3 1) Away
    ∷ []
between_lines = refl

counts_lines : guarded (guard.Counts authors (bound.Name (codes "y")) (bound.Digits (codes "9"))) ≡
    Acts (LoadList 0 authors)
    ∷ Acts (CountMembers 1 0)
    ∷ Acts (LoadText 2 (codes "y"))
    ∷ Tests (IsUndefined 2) (Ahead 3)
    ∷ Tests (HasNoNumber 3 2) (Ahead 2)
    ∷ Tests (IsLess 1 3) Away
    ∷ Acts (LoadConst 2 (codes "9"))
    ∷ Tests (HasNoNumber 3 2) (Ahead 2)
    ∷ Tests (IsLess 3 1) Away
    ∷ []
counts_lines = refl

-- an open bound has no lines
open_lines : guarded (guard.Between x bound.Open bound.Open) ≡
    Acts (LoadText 0 x) ∷ Tests (IsUndefined 0) Away ∷ Tests (HasNoNumber 1 0) Away ∷ []
open_lines = refl

-- ---- expressions

-- the lines of one spec after an operator
abbrev specified : Op → Spec → List Line
specified op spec = lines (spec_block [] (style_of op) spec)

abbrev prefix : ℕ → Text → Spec
prefix cut name = record { name = name; cut = cut; explode = false }

-- a variable is loaded; if it is defined, a comma comes between it and an earlier one, and then its own lines
abbrev listed : Action → Test → ℕ → List Line → List Line
listed load missing past own =
    Acts load
    ∷ Tests missing (Ahead past)
    ∷ Tests (IsEmpty 4) (Ahead 2)
    ∷ Acts (Emits (codes ","))
    ∷ Acts (LoadConst 4 (codes "1"))
    ∷ own

-- a variable is loaded; if it is defined, `sep` or, for the first one, `first` comes before its own lines
abbrev printed : Action → Test → ℕ → Text → Text → List Line → List Line
printed load missing past sep first own =
    Acts load
    ∷ Tests missing (Ahead past)
    ∷ Tests (IsEmpty 4) (Ahead 3)
    ∷ Acts (Emits sep)
    ∷ Jumps (Ahead 2)
    ∷ Acts (Emits first)
    ∷ Acts (LoadConst 4 (codes "1"))
    ∷ own

-- ---- expressions of a text

simple_lines : specified operator.Simple (plain x) ≡ listed (LoadText 0 x) (IsUndefined 0) 5 (Acts (Puts 0 U) ∷ [])
simple_lines = refl

reserved_lines : specified operator.Plus (prefix 9999 x) ≡ listed (LoadText 0 x) (IsUndefined 0) 5 (Acts (Cuts 0 9999 UR) ∷ [])
reserved_lines = refl

fragment_lines : specified operator.Hash (plain x) ≡ printed (LoadText 0 x) (IsUndefined 0) 7 (codes ",") (codes "#") (Acts (Puts 0 UR) ∷ [])
fragment_lines = refl

path_lines : specified operator.Slash (prefix 3 x) ≡ printed (LoadText 0 x) (IsUndefined 0) 7 (codes "/") (codes "/") (Acts (Cuts 0 3 U) ∷ [])
path_lines = refl

-- no equals sign after the name of an empty value
parameter_lines : specified operator.Semicolon (prefix 1 x) ≡
    printed (LoadText 0 x) (IsUndefined 0) 10 (codes ";") (codes ";")
    (Acts (Emits x) ∷ Tests (IsEmpty 0) (Ahead 3) ∷ Acts (Emits (codes "=")) ∷ Acts (Cuts 0 1 U) ∷ [])
parameter_lines = refl

query_lines : specified operator.Question (plain x) ≡
    printed (LoadText 0 x) (IsUndefined 0) 8 (codes "&") (codes "?") (Acts (Emits (codes "x=")) ∷ Acts (Puts 0 U) ∷ [])
query_lines = refl

continuation_lines : specified operator.Ampersand (prefix 2 x) ≡
    printed (LoadText 0 x) (IsUndefined 0) 8 (codes "&") (codes "&") (Acts (Emits (codes "x=")) ∷ Acts (Cuts 0 2 U) ∷ [])
continuation_lines = refl

-- ---- expressions of a list

simple_list_lines : specified operator.Simple (plain authors) ≡
    listed (LoadList 0 authors) (HasNoMember 0) 8 (Begins 5 0 4 ∷ Acts (Separates (codes ",")) ∷ Acts (Puts 5 U) ∷ Turns ∷ [])
simple_list_lines = refl

reserved_list_lines : specified operator.Plus (exploded authors) ≡
    listed (LoadList 0 authors) (HasNoMember 0) 8 (Begins 5 0 4 ∷ Acts (Separates (codes ",")) ∷ Acts (Puts 5 UR) ∷ Turns ∷ [])
reserved_list_lines = refl

-- only an exploded list has the operator's separator between its members
label_list_lines : specified operator.Dot (plain authors) ≡
    printed (LoadList 0 authors) (HasNoMember 0) 10 (codes ".") (codes ".") (Begins 5 0 4 ∷ Acts (Separates (codes ",")) ∷ Acts (Puts 5 U) ∷ Turns ∷ [])
label_list_lines = refl

exploded_label_lines : specified operator.Dot (exploded authors) ≡
    printed (LoadList 0 authors) (HasNoMember 0) 10 (codes ".") (codes ".") (Begins 5 0 4 ∷ Acts (Separates (codes ".")) ∷ Acts (Puts 5 U) ∷ Turns ∷ [])
exploded_label_lines = refl

exploded_parameter_lines : specified operator.Semicolon (exploded authors) ≡
    printed (LoadList 0 authors) (HasNoMember 0) 13 (codes ";") (codes ";")
    (Begins 5 0 7
    ∷ Acts (Separates (codes ";"))
    ∷ Acts (Emits authors)
    ∷ Tests (IsEmpty 5) (Ahead 3)
    ∷ Acts (Emits (codes "="))
    ∷ Acts (Puts 5 U)
    ∷ Turns
    ∷ [])
exploded_parameter_lines = refl

query_list_lines : specified operator.Question (plain authors) ≡
    printed (LoadList 0 authors) (HasNoMember 0) 11 (codes "&") (codes "?")
    (Acts (Emits (codes "rft.au=")) ∷ Begins 5 0 4 ∷ Acts (Separates (codes ",")) ∷ Acts (Puts 5 U) ∷ Turns ∷ [])
query_list_lines = refl

exploded_query_lines : specified operator.Question (exploded authors) ≡
    printed (LoadList 0 authors) (HasNoMember 0) 11 (codes "&") (codes "?")
    (Begins 5 0 5 ∷ Acts (Separates (codes "&")) ∷ Acts (Emits (codes "rft.au=")) ∷ Acts (Puts 5 U) ∷ Turns ∷ [])
exploded_query_lines = refl
