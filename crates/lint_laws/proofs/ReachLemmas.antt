-- Guards whose bounds exclude every number never hold, and no rule is used after one that always holds.
use Rattle.std.proofs.Common.{◌≡◌, Bool, true, false, cond, List, [], ◌∷◌, ◌++◌, length, Some, refl, arith}
use Rattle.std.specs.List.{list_any, list_all, find}
use Rattle.std.proofs.lemmas.Grind.{common_steps}
use Rattle.std.proofs.lemmas.Bool.{false≢true}
use Rattle.std.proofs.Math.Seq.{take-append_seam}
use Rattle.text_model.specs.Texts.{Text}
use Rattle.environment_model.specs.Environment.{Environment, LookUp}
use Rattle.rule_parser.specs.declared.rule.Guard.{Guard}
use Rattle.rule_parser.specs.declared.rule.Rule.{Rule}
use Rattle.rule_parser.specs.Meaning.{guard_holds, guards_hold, meaning}
use Rattle.rule_lint.specs.Reach.{always_holds, is_without_guards, is_never_reached, never_holds}

-- ---- guards

pub never_held : (look : LookUp) (g : Guard) → never_holds g ≡ true → guard_holds look g ≡ false
never_held look g e = grind (arith, common_steps)

-- ---- rules

pub unguarded : (look : LookUp) (guards : List Guard) → is_without_guards guards ≡ true → list_all (guard_holds look) guards ≡ true
unguarded look guards e = grind (arith, common_steps)

-- the first rule that holds does not depend on the rules after one that always holds
found_before : (look : LookUp) (before xs ys : List Rule) → list_any always_holds before ≡ true
    → find (guards_hold look) (before ++ xs) ≡ find (guards_hold look) (before ++ ys)
found_before look [] xs ys e = absurd (false≢true e)
found_before look (r ∷ before) xs ys e = by_tests (always_holds r) (guards_hold look r) refl refl (λ f. found_before look before xs ys f)
  where
    by_tests : (a b : Bool) → always_holds r ≡ a → guards_hold look r ≡ b
        → (list_any always_holds before ≡ true → find (guards_hold look) (before ++ xs) ≡ find (guards_hold look) (before ++ ys))
        → cond (guards_hold look r) (Some r) (find (guards_hold look) (before ++ xs))
        ≡ cond (guards_hold look r) (Some r) (find (guards_hold look) (before ++ ys))
    by_tests a b f g rest = grind (arith, common_steps)

pub never_taken : (lists : List Text) (before after : List Rule) (rule : Rule) (env : Environment)
    → is_never_reached (before ++ rule ∷ after) (length before) ≡ true
    → meaning (record { lists = lists; rules = before ++ rule ∷ after }) env ≡ meaning (record { lists = lists; rules = before ++ after }) env
never_taken lists before after rule env e = grind (arith, take-append_seam, found_before)
