-- The order of kinds: joins are least, and edges keep it.
use Rattle.std.proofs.Common.{◌≡◌, ℕ, List, [], ◌∷◌, Option, Some, None, true, refl, arith}
use Rattle.std.proofs.lemmas.Grind.{common_steps}
use Rattle.std.proofs.Math.Path.{fun_ext}
use Rattle.code_model.specs.declared.code.Instruction.{Instruction}
use Rattle.code_model.specs.declared.code.Instruction.TheVariants.{Halt, Fail, Text as LoadText, List as LoadList, Const, Number, Undef, Empty, NoList, Differ}
use Rattle.code_model.specs.declared.code.Instruction.TheVariants.{Less, Each, Next, Count}
use Rattle.machine_model.specs.declared.form.Body.{Body}
use Rattle.machine_model.specs.declared.kind.Kind.{Kind}
use Rattle.machine_model.specs.declared.kind.Kind.TheVariants.{Any, OptText, Text as TextKind, List as ListKind, Number as NumberKind}
use Rattle.machine_model.specs.States.{put}
use Rattle.machine_model.specs.Kinds.{kind_le, kind_join, Kinds, IsBelow, Edge, edges}

-- ---- one kind

pub kind_le_refl : (k : Kind) → kind_le k k ≡ true
kind_le_refl Any = refl
kind_le_refl _ = refl

pub kind_le_trans : (k m n : Kind) → kind_le k m ≡ true → kind_le m n ≡ true → kind_le k n ≡ true
kind_le_trans k m Any e f = refl
kind_le_trans k Any _ e f = cc
kind_le_trans TextKind TextKind TextKind e f = refl
kind_le_trans TextKind TextKind OptText e f = refl
kind_le_trans TextKind OptText OptText e f = refl
kind_le_trans OptText OptText OptText e f = refl
kind_le_trans ListKind ListKind ListKind e f = refl
kind_le_trans NumberKind NumberKind NumberKind e f = refl
kind_le_trans _ _ _ e f = cc

kind_le_antisym : (k m : Kind) → kind_le k m ≡ true → kind_le m k ≡ true → k ≡ m
kind_le_antisym k m e f = grind (arith, common_steps)

pub kind_le-join_left : (k m : Kind) → kind_le k (kind_join k m) ≡ true
kind_le-join_left Any Any = refl
kind_le-join_left TextKind TextKind = refl
kind_le-join_left OptText OptText = refl
kind_le-join_left ListKind ListKind = refl
kind_le-join_left NumberKind NumberKind = refl
kind_le-join_left _ _ = refl

pub kind_le-join_right : (k m : Kind) → kind_le m (kind_join k m) ≡ true
kind_le-join_right Any Any = refl
kind_le-join_right TextKind TextKind = refl
kind_le-join_right OptText OptText = refl
kind_le-join_right ListKind ListKind = refl
kind_le-join_right NumberKind NumberKind = refl
kind_le-join_right _ _ = refl

-- the join of two kinds is at or below each kind above both
pub kind_join-least : (k m n : Kind) → kind_le k n ≡ true → kind_le m n ≡ true → kind_le (kind_join k m) n ≡ true
kind_join-least k m Any e f = refl
kind_join-least TextKind TextKind TextKind e f = refl
kind_join-least TextKind TextKind OptText e f = refl
kind_join-least TextKind OptText OptText e f = refl
kind_join-least OptText TextKind OptText e f = refl
kind_join-least OptText OptText OptText e f = refl
kind_join-least ListKind ListKind ListKind e f = refl
kind_join-least NumberKind NumberKind NumberKind e f = refl
kind_join-least _ _ _ e f = cc

-- ---- the kinds of all registers

pub below_trans : (ks ms ns : Kinds) → IsBelow ks ms → IsBelow ms ns → IsBelow ks ns
below_trans ks ms ns b d = record { at = λ r. kind_le_trans (ks r) (ms r) (ns r) (b.at r) (d.at r) }

pub below_antisym : (ks ms : Kinds) → IsBelow ks ms → IsBelow ms ks → ks ≡ ms
below_antisym ks ms b d = fun_ext (λ r. kind_le_antisym (ks r) (ms r) (b.at r) (d.at r))

pub put_below : (ks ms : Kinds) (a : ℕ) (k : Kind) → IsBelow ks ms → IsBelow (put ks a k) (put ms a k)
put_below ks ms a k b = grind (arith, common_steps)

-- ---- edges

-- edges to the same places, with smaller kinds
abbrev pub EdgesBelow : List Edge → List Edge → Type 0
EdgesBelow [] [] = Unit {0}
EdgesBelow (e ∷ es) (f ∷ fs) = (e.to ≡ f.to) × IsBelow e.kinds f.kinds × EdgesBelow es fs
EdgesBelow _ _ = ⊥

-- with smaller kinds the edges lead to the same places, and their kinds are smaller
pub edges_below : (p : ℕ) (ks ms : Kinds) (o : Option Body) (i : Instruction) → IsBelow ks ms → EdgesBelow (edges p ks o i) (edges p ms o i)
edges_below p ks ms o Halt b = tt
edges_below p ks ms o Fail b = tt
edges_below p ks ms o (LoadText a x) b = (refl, put_below ks ms a OptText b, tt)
edges_below p ks ms o (LoadList a x) b = (refl, put_below ks ms a ListKind b, tt)
edges_below p ks ms o (Const a x) b = (refl, put_below ks ms a TextKind b, tt)
edges_below p ks ms o (Number a x d) b = (refl, put_below ks ms a NumberKind b, (refl, b, tt))
edges_below p ks ms o (Undef a d) b = (refl, put_below ks ms a TextKind b, (refl, b, tt))
edges_below p ks ms o (Empty a d) b = (refl, b, (refl, b, tt))
edges_below p ks ms o (NoList a d) b = (refl, b, (refl, b, tt))
edges_below p ks ms o (Differ a x d) b = (refl, b, (refl, b, tt))
edges_below p ks ms o (Less a x d) b = (refl, b, (refl, b, tt))
edges_below p ks ms o (Each a x d) b = (refl, put_below ks ms a TextKind b, (refl, put_below ks ms a Any b, tt))
edges_below p ks ms None Next b = (refl, b, tt)
edges_below p ks ms (Some l) Next b = (refl, put_below ks ms l.element TextKind b, (refl, put_below ks ms l.element Any b, tt))
edges_below p ks ms o (Count a x) b = (refl, put_below ks ms a NumberKind b, tt)
edges_below p ks ms o _ b = (refl, b, tt)
