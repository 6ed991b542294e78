-- Operators and bodies: what the reader needs to know of them, and that a body is at most one expression.
use Rattle.std.proofs.Common.{◌≡◌, ℕ, ◌+◌, true, false, ⊎_elim, inl, inr, List, [], ◌∷◌, length, drop, refl, ap, sym, subst, arith}
use Rattle.std.proofs.lemmas.Grind.{common_steps}
use Rattle.std.proofs.Common.{◌==◌}
use Rattle.std.proofs.lemmas.Bool.{cases_Bool, cond-true, cond-false}
use Rattle.uri_grammar.specs.declared.error.TemplateError.{TemplateError}
use Rattle.uri_grammar.specs.declared.error.TemplateErrorKind.{TemplateErrorKind}
use Rattle.uri_grammar.specs.declared.parts.Op.{Op}
use Rattle.uri_grammar.specs.declared.parts.Op.TheVariants as operator
use Rattle.uri_grammar.specs.Expressions.{operator_text, begins_with_operator, begins_with_reserved, HasOperator}
use Rattle.uri_grammar.specs.Faults.{IsListFault, IsBodyFault, reserved_operator, bad_list}
use Rattle.uri_grammar.specs.Private.Reading.{operator_of, IsFault}
use Rattle.uri_grammar.specs.Private.Moved.{moved, moved_place}
use Rattle.uri_grammar.proofs.SpecLemmas.{spec_moves}

-- ---- the operator of a body

-- the operator that the body begins with, and the rest of it
pub OperatorOf : List ℕ → Type 0
OperatorOf body = HasOperator body (operator_of body) (drop (length (operator_text (operator_of body))) body)

has_this : (k : ℕ) (o : Op) (c : ℕ) (cs : List ℕ) → (c == k) ≡ true → operator_text o ≡ k ∷ [] → (o ≡ operator.Simple → ⊥)
    → begins_with_reserved (c ∷ cs) ≡ false → operator_of (c ∷ cs) ≡ o → OperatorOf (c ∷ cs)
unfolding OperatorOf
has_this k o c cs t text other h is = grind (arith, common_steps)

has_none : (body : List ℕ) → begins_with_reserved body ≡ false → begins_with_operator body ≡ false → operator_of body ≡ operator.Simple → OperatorOf body
unfolding OperatorOf
has_none body h b is =
    subst (λ (q : Op). HasOperator body q (drop (length (operator_text q)) body)) (sym is) (record { whole = refl; not_reserved = h; chosen = λ s. b })

no_operator_here : (c : ℕ) (cs : List ℕ) → (c == 43) ≡ false → (c == 35) ≡ false → (c == 46) ≡ false → (c == 47) ≡ false → (c == 59) ≡ false
    → (c == 63) ≡ false → (c == 38) ≡ false → begins_with_operator (c ∷ cs) ≡ false
no_operator_here c cs a b d e f g i = grind (arith, common_steps)

has_operator : (body : List ℕ) → begins_with_reserved body ≡ false → OperatorOf body
has_operator [] h = has_none [] h refl refl
has_operator (c ∷ cs) h = grind (arith, has_this, cond-true, cond-false, has_none, no_operator_here, cases_Bool)

pub operator_of-HasOperator : (body : List ℕ) → begins_with_reserved body ≡ false
    → HasOperator body (operator_of body) (drop (length (operator_text (operator_of body))) body)
unfolding OperatorOf
operator_of-HasOperator body h = has_operator body h

-- ---- one operator

pub operator_same : (body : List ℕ) (o p : Op) (l m : List ℕ) → HasOperator body o l → HasOperator body p m → (o ≡ p) × (l ≡ m)
operator_same body o p l m h k = grind (arith, common_steps)

-- ---- errors of bodies

pub body_moves : (body : List ℕ) (k : TemplateErrorKind) (d at n : ℕ) → IsBodyFault body k d → moved_place k at n ≡ at + n
body_moves body k d at n (reserved_operator b h) = refl
body_moves body k d at n (bad_list b o list l e h f) = spec_moves f.piece k f.distance at n f.fault

pub body_fault : (body : List ℕ) (o : Op) (list : List ℕ) (e : TemplateError) → HasOperator body o list → IsFault e (IsListFault list)
    → IsFault (moved e (length (operator_text o))) (IsBodyFault body)
body_fault body o list e is f =
    ⊎_elim
    (λ m. inl (ap (λ (x : TemplateError). moved x (length (operator_text o))) m))
    (λ g.
    let place : length (operator_text o) + e.at ≡ moved_place e.kind e.at (length (operator_text o)) = grind (arith, common_steps) in
    inr (subst (λ (n : ℕ). IsBodyFault body e.kind n) place (bad_list body o list e.kind e.at is g)))
    f
