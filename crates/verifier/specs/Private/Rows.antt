-- Kinds, needs and edges as the program stores them.
use Rattle.std.specs.Prelude.{◌<◌, List, [], ◌∷◌, ◌++◌, Option, Some, None, option_map, slice_index_or}
use Rattle.std.specs.List.{AllByRecursion}
use Rattle.code_model.specs.Operands.{Operand, Register, TextName, ListName, LinkText, Compared, Items, Mode, operands}
use Rattle.code_model.specs.declared.code.Instruction.{Instruction}
use Rattle.machine_model.specs.declared.form.Body.{Body}
use Rattle.machine_model.specs.declared.kind.Kind.TheVariants.{Any}
use Rattle.machine_model.specs.Kinds as model
use Rattle.machine_model.specs.Kinds.{Kinds}
use Rattle.machine_model.specs.Typable.{Table}
use Rattle.verifier.specs.declared.row.Row.{Row}
use Rattle.verifier.specs.declared.edges.Edge.{Edge}
use Rattle.verifier.specs.declared.needs.Need.{Need}

-- nothing is known about registers past the end of a row
abbrev pub kinds_of : Row → Kinds
kinds_of row r = slice_index_or row.kinds r Any

abbrev pub table_of : List (Option Row) → Table
table_of rows p = option_map kinds_of (slice_index_or rows p None)

abbrev pub edge_of : Edge → model.Edge
edge_of e = model.edge e.to (kinds_of e.row)

abbrev pub need_of : Need → model.Need
need_of n = model.need n.register n.kind

abbrev pub one_or_none : {X Y : Type 0} → (X → Y) → Option X → List Y
one_or_none f None = []
one_or_none f (Some x) = f x ∷ []

abbrev pub edges_of : Option Edge × Option Edge → List model.Edge
edges_of es = one_or_none edge_of es.0 ++ one_or_none edge_of es.1

abbrev pub needs_of : Option Need × Option Need → List model.Need
needs_of ns = one_or_none need_of ns.0 ++ one_or_none need_of ns.1

-- a row has the register
abbrev pub IsInRow : Operand → Type 0
IsInRow (Register n) = n < 64
IsInRow (TextName n) = Unit {0}
IsInRow (ListName n) = Unit {0}
IsInRow (LinkText n) = Unit {0}
IsInRow (Compared n) = Unit {0}
IsInRow (Items n) = Unit {0}
IsInRow (Mode n) = Unit {0}

abbrev pub AreInRow : Instruction → Type 0
AreInRow i = AllByRecursion IsInRow (operands i)

abbrev pub IsElementInRow : Option Body → Type 0
IsElementInRow None = Unit {0}
IsElementInRow (Some b) = b.element < 64

abbrev pub IsNeedInRow : Option Need → Type 0
IsNeedInRow None = Unit {0}
IsNeedInRow (Some n) = n.register < 64
