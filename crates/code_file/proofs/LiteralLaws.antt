-- Bytes begin with at most one literal, and have at most one error of a literal.
use Rattle.std.proofs.Common.{◌≡◌, ◌<◌, ◌+◌, ◌*◌, ◌/◌, ◌%◌, ◌^◌, ◌⊎◌, ℕ, Bool, true, false, [], ◌∷◌, ◌++◌, length, take, refl, sym, ◌∙◌, ap, subst, inl, inr}
use Rattle.std.proofs.lemmas.Grind.{common_steps}
use Rattle.std.proofs.Common.{arith}
use Rattle.std.specs.Prelude.{Result, Ok, Err, nat_lt, ◌==◌, if◌then◌else◌}
use Rattle.std.proofs.lemmas.Bool.{lt-ltb}
use Rattle.text_model.specs.Texts.{Text}
use Rattle.text_model.proofs.Lists.{same_halves}
use Rattle.code_model.specs.Code.{Literal}
use Rattle.code_file.specs.declared.error.CodeError.{CodeError}
use Rattle.code_file.specs.declared.error.CodeErrorKind.TheVariants.{BadKind, BadLiteral}
use Rattle.code_file.specs.Grammar.{kind_byte, literal_field, IsTextOf, IsLiteral}
use Rattle.code_file.specs.Fault.{fault, cut_short, no_kind, bad_kind, in_kind, no_length, no_text, bad_text, IsLiteralFault}
use Rattle.code_file.proofs.StageLemmas.{IsApart}

abbrev literal_shape_from : ℕ → ℕ → ℕ → Text → Result Literal CodeError
literal_shape_from kind high low rest =
    if nat_lt (length rest) (256 * high + low) then Err (cut_short (kind ∷ high ∷ low ∷ rest))
    else Ok (record { compared = kind == 1; bytes = take (256 * high + low) rest })

abbrev literal_shape : Text → Result Literal CodeError
literal_shape [] = Err (cut_short [])
literal_shape (kind ∷ []) = if nat_lt 1 kind then Err (fault BadKind 0) else Err (cut_short (kind ∷ []))
literal_shape (kind ∷ high ∷ []) = if nat_lt 1 kind then Err (fault BadKind 0) else Err (cut_short (kind ∷ high ∷ []))
literal_shape (kind ∷ high ∷ low ∷ rest) = if nat_lt 1 kind then Err (fault BadKind 0) else literal_shape_from kind high low rest

bad_kind_literal : (kind : ℕ) (rest : Text) → 1 < kind → literal_shape (kind ∷ rest) ≡ Err (fault BadKind 0)
bad_kind_literal kind [] k = rw (lt-ltb 1 kind k) refl
bad_kind_literal kind (high ∷ []) k = rw (lt-ltb 1 kind k) refl
bad_kind_literal kind (high ∷ low ∷ rest) k = rw (lt-ltb 1 kind k) refl

no_length_literal : (compared : Bool) (rest : Text) → length rest < 2
    → literal_shape (kind_byte compared ∷ rest) ≡ Err (cut_short (kind_byte compared ∷ rest))
no_length_literal true [] n = refl
no_length_literal false [] n = refl
no_length_literal true (high ∷ []) n = refl
no_length_literal false (high ∷ []) n = refl
no_length_literal true (high ∷ low ∷ rest) n = absurd (omega arith)
no_length_literal false (high ∷ low ∷ rest) n = absurd (omega arith)

good_kind_literal : (compared : Bool) (high low : ℕ) (rest : Text)
    → literal_shape (kind_byte compared ∷ high ∷ low ∷ rest) ≡ literal_shape_from (kind_byte compared) high low rest
good_kind_literal true high low rest = refl
good_kind_literal false high low rest = refl

-- a number can be computed from its two bytes
pub number_back : (n : ℕ) → n < 65536 → 256 * (n / 256 % 256) + n % 256 ≡ n
number_back n small = omega arith

literal_text_shape : (l : Literal) (rest : Text) → length l.bytes < 2 ^ 16 → literal_shape (literal_field l ++ rest) ≡ Ok l
literal_text_shape l rest small = grind (arith, common_steps)

abbrev IsShapedLiteral : Text → CodeError → Type 0
IsShapedLiteral bytes e =
    (literal_shape bytes ≡ Err e)
    ⊎ ((l : Literal) × (literal_shape bytes ≡ Ok l) × (IsTextOf l.compared l.bytes → ⊥) × (e ≡ fault BadLiteral 3))

shaped_literal : {bytes : Text} {e : CodeError} → IsLiteralFault bytes e → IsShapedLiteral bytes e
shaped_literal {bytes = bytes} (in_kind e (no_kind h)) = inl (subst (λ (b : Text). literal_shape b ≡ Err (cut_short b)) (sym h) refl)
shaped_literal {bytes = bytes} (in_kind e (bad_kind kind rest h k)) = inl (ap literal_shape h ∙ bad_kind_literal kind rest k)
shaped_literal {bytes = bytes} (no_length compared rest h n) =
    inl (subst (λ (b : Text). literal_shape b ≡ Err (cut_short b)) (sym h) (no_length_literal compared rest n))
shaped_literal {bytes = bytes} (no_text compared len rest h n short) =
    inl (subst (λ (b : Text). literal_shape b ≡ Err (cut_short b)) (sym h)
    (good_kind_literal compared (len / 256 % 256) (len % 256) rest ∙ rw (number_back len n, lt-ltb (length rest) len short) refl))
shaped_literal {bytes = bytes} (bad_text literal rest h n bad) =
    inr (literal, ap literal_shape h ∙ literal_text_shape literal rest n, bad, refl)

one_literal_fault : (bytes : Text) (e f : CodeError) → IsLiteralFault bytes e → IsLiteralFault bytes f → e ≡ f
one_literal_fault bytes e f p q = grind (arith, shaped_literal)

literal_no_fault : (l : Literal) (rest : Text) (e : CodeError) → IsLiteral l → IsLiteralFault (literal_field l ++ rest) e → ⊥
literal_no_fault l rest e good p = grind (arith, shaped_literal, literal_text_shape)

one_literal : (x y : Literal) (s t : Text) → IsLiteral x → IsLiteral y → literal_field x ++ s ≡ literal_field y ++ t → (x ≡ y) × (s ≡ t)
one_literal x y s t g h e = grind (arith, same_halves)

pub literals_apart : IsApart IsLiteral literal_field IsLiteralFault
literals_apart = grind (arith, one_literal, literal_no_fault, one_literal_fault)
