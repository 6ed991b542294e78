-- What the blocks of guards on lists do, and then those of all guards.

use Rattle.std.proofs.Common.{◌≡◌, List, [], ◌∷◌, length, Some, None, Bool, true, false, refl, subst, ◌⊎◌, arith}
use Rattle.std.specs.Prelude.{codes, ◌||◌}
use Rattle.std.specs.List.{list_all, list_any}
use Rattle.std.specs.Str.{bytes_eq}
use Rattle.std.proofs.lemmas.Bool.{and_parts}
use Rattle.std.proofs.lemmas.Slice.Eq.{bytes_eq-Decides}
use Rattle.std.proofs.lemmas.Grind.{common_steps}
use Rattle.text_model.specs.Texts.{Text}
use Rattle.environment_model.specs.Environment.{Environment, look_up, text_of, members_of}
use Rattle.environment_model.specs.Lists.{is_list}
use Rattle.machine_model.specs.Values as value
use Rattle.rule_parser.specs.declared.rule.Guard.{Guard}
use Rattle.rule_parser.specs.declared.rule.Guard.TheVariants as guard
use Rattle.rule_parser.specs.Rules.{bounds_fit, guard_fits}
use Rattle.rule_parser.specs.Meaning.{is_given, is_text, bound_number, is_within, guard_holds}
use Rattle.compiler_model.specs.declared.lines.Action.TheVariants.{LoadConst}
use Rattle.compiler_model.specs.declared.lines.Test.TheVariants.{IsEmpty, Differs}
use Rattle.compiler_model.specs.Blocks.{Does, Unless}
use Rattle.compiler_model.specs.Shapes.{guard_block, guards_block}
use Rattle.compiler_model.proofs.Effects.{Store, keeping, Claim, Tested, InTurns, Brings}
use Rattle.compiler_model.proofs.Pieces.{one}
use Rattle.compiler_model.proofs.Guards.{Settles, between_brings, bounds_bring, given_brings, loaded_tested, look, members_seen, same_brings, settles_and}
use Rattle.compiler_model.proofs.Guards.{settles_not, text_looked}

module _ (v : Environment) (lists : List Text) where
  -- the text in r2, which is empty until the member is found
  abbrev mark : Bool → Text
  mark true = one
  mark false = []

  abbrev found : Text → List Text → Bool
  found text ts = list_any (λ t. bytes_eq t text) ts

  -- the turns of the loop of `holds`, when earlier ones have found the text or not
  turns_find : (text : Text) (ts : List Text) (first before : Bool) (s : Store) (Q : Claim) → s.registers 1 ≡ value.Text text
      → s.registers 2 ≡ value.Text (mark before) → ((n : Store) → n.registers 2 ≡ value.Text (mark (before || found text ts)) → n.output ≡ s.output → Q n)
      → InTurns (λ turn next Claimed. Brings v (Some turn) (Unless (Differs 3 1) (Does (LoadConst 2 (codes "1")))) next Claimed (λ never. ⊥)) 3 ts first s Q
  turns_find text [] first true s Q e f k = k s f refl
  turns_find text [] first false s Q e f k = k s f refl
  turns_find text (t ∷ ts) first before s Q e f k = (
    t,
    text,
    refl,
    e,
    by_test (bytes_eq t text) refl k (turns_find text ts false true (keeping 2 (value.Text one) (keeping 3 (value.Text t) s)) Q e refl)
        (turns_find text ts false before (keeping 3 (value.Text t) s) Q e f),
  )
    where
      entered : Store
      entered = keeping 3 (value.Text t) s

      Later : Store → Type 0
      Later n = InTurns (λ turn next Claimed. Brings v (Some turn) (Unless (Differs 3 1) (Does (LoadConst 2 (codes "1")))) next Claimed (λ never. ⊥)) 3 ts
          false n Q

      Found : Bool → Type 0
      Found b = (n : Store) → n.registers 2 ≡ value.Text (mark b) → n.output ≡ s.output → Q n

      by_test : (b : Bool) → bytes_eq t text ≡ b → Found (before || (b || found text ts)) → (Found true → Later (keeping 2 (value.Text one) entered))
          → (Found (before || found text ts) → Later entered) → ((t ≡ text → ⊥) × Later entered) ⊎ ((t ≡ text) × Later (keeping 2 (value.Text one) entered))
      by_test b h k there missing = grind (arith, bytes_eq-Decides)

  holds_brings : (name text : Text) (s : Store) (Q R : Claim) → Settles (found text (members_of v name)) s.output Q R
      → Brings v None (guard_block lists (guard.Holds name text)) s Q R
  holds_brings name text s Q R k =
      (refl, members_of v name, refl, turns_find text (members_of v name) true false _ _ refl refl (λ n g o. by_mark n (found text (members_of v name)) g o k))
    where
      by_mark : (n : Store) (b : Bool) → n.registers 2 ≡ value.Text (mark b) → n.output ≡ s.output → Settles b s.output Q R → Tested (IsEmpty 2) n (R n) Q
      by_mark n b g o k = grind (arith, common_steps)

  -- ---- every guard

  pub guard_brings : (g : Guard) → guard_fits lists g ≡ true → (s : Store) (Q R : Claim) → Settles (guard_holds (look v lists) g) s.output Q R
      → Brings v None (guard_block lists g) s Q R
  guard_brings (guard.Has name) z s Q R k = loaded_tested v lists (is_list lists name) name (look_up v name) refl s Q R k
  guard_brings (guard.Lacks name) z s Q R k = loaded_tested v lists (is_list lists name) name (look_up v name) refl s R Q (settles_not _ s.output Q R k)
  guard_brings (guard.Given name) z s Q R k =
      given_brings v lists name (text_of v name) refl s Q R (subst (λ o. Settles (is_given o) s.output Q R) (text_looked v lists name z) k)
  guard_brings (guard.Same name text) z s Q R k =
      same_brings v lists name text (text_of v name) refl s Q R (subst (λ o. Settles (is_text text o) s.output Q R) (text_looked v lists name z) k)
  guard_brings (guard.Holds name text) z s Q R k =
      holds_brings name text s Q R (subst (λ ts. Settles (found text ts) s.output Q R) (members_seen v lists (look_up v name) (is_list lists name) z) k)
  guard_brings (guard.Between name low high) z s Q R k = grind (arith, and_parts, between_brings, text_looked)
  guard_brings (guard.Counts name low high) z s Q R k =
      let both = and_parts (is_list lists name) (bounds_fit lists low high) z in (
        members_of v name,
        refl,
        bounds_bring v lists low high both.1 (length (members_of v name))
            (keeping 1 (value.Number (length (members_of v name))) (keeping 0 (value.List (members_of v name)) s)) Q R refl
            (subst (λ (ts : List Text). Settles (is_within (bound_number (look v lists) low) (bound_number (look v lists) high) (length ts)) s.output Q R)
            (members_seen v lists (look_up v name) (is_list lists name) both.0) k),
      )

  pub guards_bring : (gs : List Guard) → list_all (guard_fits lists) gs ≡ true → (s : Store) (Q R : Claim)
      → Settles (list_all (guard_holds (look v lists)) gs) s.output Q R → Brings v None (guards_block lists gs) s Q R
  guards_bring [] z s Q R k = k s refl
  guards_bring (g ∷ gs) z s Q R k =
      let both = and_parts (guard_fits lists g) (list_all (guard_fits lists) gs) z in
      guard_brings g both.0 s (λ n. Brings v None (guards_block lists gs) n Q R) R
      (by_first (guard_holds (look v lists) g) (settles_and (guard_holds (look v lists) g) (list_all (guard_holds (look v lists)) gs) s.output Q R k)
      (λ n. guards_bring gs both.1 n Q R))
    where
      by_first : (b : Bool) → Settles b s.output (λ n. Settles (list_all (guard_holds (look v lists)) gs) n.output Q R) R
          → ((n : Store) → Settles (list_all (guard_holds (look v lists)) gs) n.output Q R → Brings v None (guards_block lists gs) n Q R)
          → Settles b s.output (λ n. Brings v None (guards_block lists gs) n Q R) R
      by_first b k rest = grind (arith, common_steps)
