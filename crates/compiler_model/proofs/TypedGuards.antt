-- Kinds of guards: nothing is known before one, and nothing after it.

use Rattle.std.proofs.Common.{arith, List, [], ◌∷◌, Bool, true, false, refl}
use Rattle.std.proofs.lemmas.Grind.{common_steps}
use Rattle.text_model.specs.Texts.{Text}
use Rattle.environment_model.specs.Lists.{is_list}
use Rattle.machine_model.specs.declared.kind.Kind.{Kind}
use Rattle.machine_model.specs.declared.kind.Kind.TheVariants as kind
use Rattle.machine_model.specs.States.{put}
use Rattle.machine_model.specs.Kinds.{Kinds, any_kinds}
use Rattle.machine_model.proofs.Orders.{kind_le_refl}
use Rattle.rule_parser.specs.declared.rule.Bound.{Bound}
use Rattle.rule_parser.specs.declared.rule.Bound.TheVariants as bound
use Rattle.rule_parser.specs.declared.rule.Guard.{Guard}
use Rattle.rule_parser.specs.declared.rule.Guard.TheVariants as guard
use Rattle.compiler_model.specs.declared.lines.Test.{Test}
use Rattle.compiler_model.specs.declared.lines.Test.TheVariants.{HasNoNumber, IsLess}
use Rattle.compiler_model.specs.Blocks.{Does, Unless, LeaveIf}
use Rattle.compiler_model.specs.Shapes.{loading, is_missing, bound_block, bounds_block, guard_block, guards_block}
use Rattle.compiler_model.proofs.Typed.{HasKindIn, MeetsTest, Typed, after_test, below_any, exactly, known_only, known_pair, only, pair, put_above, wider}

-- the kind of what is loaded
abbrev loaded_kind : Bool → Kind
loaded_kind true = kind.List
loaded_kind false = kind.OptText

loading_typed : (list : Bool) (name : Text) (ks : Kinds) → Typed (Does (loading list name)) ks (put ks 0 (loaded_kind list))
loading_typed list name ks = grind (arith, common_steps)

missing_met : (list : Bool) (ks : Kinds) → MeetsTest (is_missing list) (put ks 0 (loaded_kind list))
missing_met list ks = grind (arith, common_steps)

-- r1 holds a number before and after a bound
abbrev numbered : Kinds
numbered = only 1 kind.Number

number_typed : (test : Test) → ((ks : Kinds) → HasKindIn ks 1 kind.Number → HasKindIn ks 3 kind.Number → Typed (LeaveIf test) ks numbered) → (ks : Kinds)
    → HasKindIn ks 1 kind.Number → HasKindIn ks 2 kind.Text → Typed (Unless (HasNoNumber 3 2) (LeaveIf test)) ks numbered
number_typed test h ks one two = (two, known_only ks 1 kind.Number one, h (put ks 3 kind.Number) one refl)

bound_typed : (test : Test) → ((ks : Kinds) → HasKindIn ks 1 kind.Number → HasKindIn ks 3 kind.Number → Typed (LeaveIf test) ks numbered) → (b : Bound)
    → Typed (bound_block test b) numbered numbered
bound_typed test h bound.Open = known_only numbered 1 kind.Number refl
bound_typed test h (bound.Digits digits) =
    let ks = put numbered 2 kind.Text in
    (ks, (tt, record { at = λ r. kind_le_refl (ks r) }), number_typed test h ks refl refl)
bound_typed test h (bound.Name name) =
    let ks = put numbered 2 kind.OptText in
    (ks, (tt, record { at = λ r. kind_le_refl (ks r) }), (refl, known_only ks 1 kind.Number refl, number_typed test h (put ks 2 kind.Text) refl refl))

bounds_typed : (low high : Bound) → Typed (bounds_block low high) numbered any_kinds
bounds_typed low high = (
  numbered,
  bound_typed (IsLess 1 3) (λ ks one three. ((one, three), known_only ks 1 kind.Number one)) low,
  wider (bound_block (IsLess 3 1) high) numbered numbered any_kinds (below_any numbered)
      (bound_typed (IsLess 3 1) (λ ks one three. ((three, one), known_only ks 1 kind.Number one)) high),
)

guard_typed : (lists : List Text) (g : Guard) → Typed (guard_block lists g) any_kinds any_kinds
guard_typed lists (guard.Has name) =
    let list = is_list lists name in
    let ks = put any_kinds 0 (loaded_kind list) in
    (ks, loading_typed list name any_kinds, (missing_met list any_kinds, below_any (after_test (is_missing list) ks)))
guard_typed lists (guard.Lacks name) =
    let list = is_list lists name in
    let ks = put any_kinds 0 (loaded_kind list) in
    (ks, loading_typed list name any_kinds, (missing_met list any_kinds, below_any ks, tt))
guard_typed lists (guard.Given name) =
    let ks = only 0 kind.OptText in
    let ms = put ks 0 kind.Text in
    (ks, (tt, exactly ks), (ms, (refl, exactly ms), (refl, below_any ms)))
guard_typed lists (guard.Same name text) =
    let ks = only 0 kind.OptText in
    let ms = put ks 0 kind.Text in
    let ns = put ms 1 kind.Text in
    (ks, (tt, exactly ks), (ms, (refl, exactly ms), (ns, (tt, exactly ns), ((refl, refl), below_any ns))))
guard_typed lists (guard.Holds name text) =
    let one = only 1 kind.Text in
    let two = pair 1 kind.Text 2 kind.Text in
    let ks = put two 0 kind.List in
    let turn = put two 3 kind.Text in (
      one,
      (tt, exactly one),
      (
        two,
        (tt, exactly two),
        (
          ks,
          (tt, exactly ks),
          (
            two,
            (
              turn,
              turn,
              grind (arith, common_steps),
              (
                (refl, refl),
                exactly turn,
                (tt, put_above (put turn 2 kind.Text) two 3 kind.Text refl (known_pair (put turn 2 kind.Text) 1 kind.Text 2 kind.Text refl refl)),
              ),
            ),
            (refl, below_any two),
          ),
        ),
      ),
    )
guard_typed lists (guard.Between name low high) =
    let ks = only 0 kind.OptText in
    let ms = put ks 0 kind.Text in
    (ks, (tt, exactly ks), (ms, (refl, exactly ms), (numbered, (refl, known_only (put ms 1 kind.Number) 1 kind.Number refl), bounds_typed low high)))
guard_typed lists (guard.Counts name low high) =
    let ks = only 0 kind.List in
    (ks, (tt, exactly ks), (numbered, (refl, known_only (put ks 1 kind.Number) 1 kind.Number refl), bounds_typed low high))

pub guards_typed : (lists : List Text) (gs : List Guard) → Typed (guards_block lists gs) any_kinds any_kinds
guards_typed lists [] = exactly any_kinds
guards_typed lists (g ∷ gs) = (any_kinds, guard_typed lists g, guards_typed lists gs)
