-- The tables of code: each name and each literal once, in the order in which lines use them.
use Rattle.std.specs.Prelude.{ℕ, List, [], ◌∷◌, Option, Some, None, Bool, true, false, ◌&&◌, not, filter}
use Rattle.std.specs.List.{filter_map, position_or_len}
use Rattle.std.specs.Bool.{beq}
use Rattle.std.specs.Str.{bytes_eq}
use Rattle.text_model.specs.Texts.{Text}
use Rattle.code_model.specs.Code.{Name, Literal}
use Rattle.compiler_model.specs.declared.lines.Action.{Action}
use Rattle.compiler_model.specs.declared.lines.Action.TheVariants.{LoadText, LoadList, LoadConst, Emits, Separates}
use Rattle.compiler_model.specs.declared.lines.Line.{Line}
use Rattle.compiler_model.specs.declared.lines.Line.TheVariants.{Acts}

-- ---- entries

abbrev pub name_entry : Bool → Text → Name
name_entry list text = record { list = list; text = text }

abbrev pub literal_entry : Bool → Text → Literal
literal_entry compared bytes = record { compared = compared; bytes = bytes }

abbrev pub is_same_name : Name → Name → Bool
is_same_name name other = bytes_eq name.text other.text && beq name.list other.list

abbrev pub is_same_literal : Literal → Literal → Bool
is_same_literal literal other = bytes_eq literal.bytes other.bytes && beq literal.compared other.compared

-- ---- what a line uses

abbrev pub name_in_action : Action → Option Name
name_in_action (LoadText register name) = Some (name_entry false name)
name_in_action (LoadList register name) = Some (name_entry true name)
name_in_action action = None

abbrev pub literal_in_action : Action → Option Literal
literal_in_action (LoadConst register text) = Some (literal_entry true text)
literal_in_action (Emits text) = Some (literal_entry false text)
literal_in_action (Separates text) = Some (literal_entry false text)
literal_in_action action = None

abbrev pub name_used : Line → Option Name
name_used (Acts action) = name_in_action action
name_used line = None

abbrev pub literal_used : Line → Option Literal
literal_used (Acts action) = literal_in_action action
literal_used line = None

-- ---- each once

-- the entries without those that came before
abbrev pub firsts : {X : Type 0} → (X → X → Bool) → List X → List X
firsts same [] = []
firsts same (x ∷ xs) = x ∷ filter (λ y. not (same x y)) (firsts same xs)

abbrev pub names_of : List Line → List Name
names_of lines = firsts is_same_name (filter_map name_used lines)

abbrev pub literals_of : List Line → List Literal
literals_of lines = firsts is_same_literal (filter_map literal_used lines)

-- the place of an entry in its table
abbrev pub name_index : List Name → Bool → Text → ℕ
name_index names list text = position_or_len (is_same_name (name_entry list text)) names

abbrev pub literal_index : List Literal → Bool → Text → ℕ
literal_index literals compared bytes = position_or_len (is_same_literal (literal_entry compared bytes)) literals
