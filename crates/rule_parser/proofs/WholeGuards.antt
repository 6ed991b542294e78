-- Any text is read as one guard, or as none.

use Rattle.std.proofs.Common.{◌≡◌, ◌∷◌, ◌++◌, Option, Some, None, inl, inr, ap, subst, sym, codes}
use Rattle.text_model.specs.Texts.{Text}
use Rattle.uri_grammar.specs.Names.{IsName}
use Rattle.rule_parser.specs.declared.rule.Bound.{Bound}
use Rattle.rule_parser.specs.declared.rule.Guard.{Guard}
use Rattle.rule_parser.specs.declared.rule.Guard.TheVariants as guard
use Rattle.rule_parser.specs.Private.Reading.{ReadsQuoted, ReadsBounds, ReadsGuard, IsToken}
use Rattle.rule_parser.proofs.NameChoice.{name_choice}
use Rattle.rule_parser.proofs.GuardLemmas.{no_guard_without_name, no_guard_of_verb, no_compared_guard, no_same, no_holds, no_between, no_counts}
use Rattle.rule_parser.proofs.GuardLemmas.{no_guard_in_token}
use Rattle.rule_parser.proofs.GuardChoice.{bounds_choice, quoted_choice, space_choice, text_choice}

abbrev Reads : Text → Type 0
Reads tokens = (read : Option Guard) × ReadsGuard tokens read

defined_choice : (verb name : Text) → IsToken verb → IsToken name → Reads (verb ++ 32 ∷ name)
defined_choice verb name v w =
    elim (name_choice name) [
      | inr n ↦ (None, no_guard_without_name verb name v w n)
      | inl n ↦ elim (text_choice verb (codes "has")) [
        | inl e ↦ (Some (guard.Has name), (n, ap (λ x. x ++ 32 ∷ name) e))
        | inr no_has ↦ elim (text_choice verb (codes "lacks")) [
          | inl e ↦ (Some (guard.Lacks name), (n, ap (λ x. x ++ 32 ∷ name) e))
          | inr no_lacks ↦ elim (text_choice verb (codes "given")) [
            | inl e ↦ (Some (guard.Given name), (n, ap (λ x. x ++ 32 ∷ name) e))
            | inr no_given ↦ (None, no_guard_of_verb verb name v w no_has no_lacks no_given)
          ]
        ]
      ]
    ]

same_choice : (name value : Text) → IsName name → (read : Option Text) × ReadsQuoted value read → Reads (name ++ 32 ∷ (codes "is" ++ 32 ∷ value))
same_choice name value n (None, q) = (None, no_same name value n q)
same_choice name value n (Some t, q) = (Some (guard.Same name t), (n, ap (λ x. name ++ (codes " is " ++ x)) q))

holds_choice : (name value : Text) → IsName name → (read : Option Text) × ReadsQuoted value read → Reads (name ++ 32 ∷ (codes "holds" ++ 32 ∷ value))
holds_choice name value n (None, q) = (None, no_holds name value n q)
holds_choice name value n (Some t, q) = (Some (guard.Holds name t), (n, ap (λ x. name ++ (codes " holds " ++ x)) q))

between_choice : (name value : Text) → IsName name → (read : Option (Bound × Bound)) × ReadsBounds value read
    → Reads (name ++ 32 ∷ (codes "from" ++ 32 ∷ value))
between_choice name value n (None, q) = (None, no_between name value n q)
between_choice name value n (Some b, q) = (Some (guard.Between name b.0 b.1), ((n, q.0), ap (λ x. name ++ (codes " from " ++ x)) q.1))

counts_choice : (name value : Text) → IsName name → (read : Option (Bound × Bound)) × ReadsBounds value read
    → Reads (name ++ 32 ∷ (codes "counts" ++ 32 ∷ value))
counts_choice name value n (None, q) = (None, no_counts name value n q)
counts_choice name value n (Some b, q) = (Some (guard.Counts name b.0 b.1), ((n, q.0), ap (λ x. name ++ (codes " counts " ++ x)) q.1))

-- the same tokens with another verb
with_verb : (name verb other value : Text) → verb ≡ other → Reads (name ++ 32 ∷ (other ++ 32 ∷ value)) → Reads (name ++ 32 ∷ (verb ++ 32 ∷ value))
with_verb name verb other value e r = subst (λ v. Reads (name ++ 32 ∷ (v ++ 32 ∷ value))) (sym e) r

compared_choice : (name verb value : Text) → IsToken name → IsToken verb → Reads (name ++ 32 ∷ (verb ++ 32 ∷ value))
compared_choice name verb value w v =
    elim (name_choice name) [
      | inr n ↦ (None, no_compared_guard name verb value w v (λ m _ _ _. n m) (λ m _ _ _. n m) (λ m _ _ _ _ _. n m) (λ m _ _ _ _ _. n m))
      | inl n ↦ elim (text_choice verb (codes "is")) [
        | inl e ↦ with_verb name verb _ value e (same_choice name value n (quoted_choice value))
        | inr no_is ↦ elim (text_choice verb (codes "holds")) [
          | inl e ↦ with_verb name verb _ value e (holds_choice name value n (quoted_choice value))
          | inr no_holds' ↦ elim (text_choice verb (codes "from")) [
            | inl e ↦ with_verb name verb _ value e (between_choice name value n (bounds_choice value))
            | inr no_from ↦ elim (text_choice verb (codes "counts")) [
              | inl e ↦ with_verb name verb _ value e (counts_choice name value n (bounds_choice value))
              | inr no_counts' ↦ (
                None,
                no_compared_guard name verb value w v (λ _ e _ _. no_is e) (λ _ e _ _. no_holds' e) (λ _ e _ _ _ _. no_from e)
                    (λ _ e _ _ _ _. no_counts' e),
              )
            ]
          ]
        ]
      ]
    ]

pub guard_choice : (tokens : Text) → Reads tokens
guard_choice tokens =
    elim (space_choice tokens) [
      | inl w ↦ (None, no_guard_in_token tokens w)
      | inr first ↦ subst Reads (sym first.2) (elim (space_choice first.1) [
        | inl w ↦ defined_choice first.0 first.1 first.3 w
        | inr second ↦ subst (λ t. Reads (first.0 ++ 32 ∷ t)) (sym second.2) (compared_choice first.0 second.0 second.1 first.3 second.3)
      ])
    ]
