-- The test of names by their bytes, one after the other, passes the names of the grammar.
use Rattle.std.proofs.Common.{◌≡◌, ◌≤◌, ℕ, zero, suc, ◌==◌, ◌&&◌, Bool, true, false, not, cond, [], ◌∷◌, ◌++◌, length, nat_le, refl, sym, ap, ◌∙◌, subst, arith}
use Rattle.std.proofs.Common.{append_assoc, append-nil}
use Rattle.std.specs.Prelude.{◌↔◌}
use Rattle.std.proofs.lemmas.Bool.{and_from, and_parts, eqb-true, false≢true, le-leb, leb-true}
use Rattle.text_model.specs.Texts.{Text, is_hexadecimal, is_triplet, percent}
use Rattle.uri_grammar.specs.Characters.{dot}
use Rattle.uri_grammar.specs.Names.{is_name_character, IsVarchar, character_varchar, triplet_varchar, IsVarname, first_varchar}
use Rattle.uri_grammar.specs.Names.{next_varchar, dotted_varchar, IsName}
use Rattle.uri_grammar.specs.declared.names.TheConstants.{MAX_NAME_BYTES}
use Rattle.rule_lint.specs.Names.{are_varchars, is_name}

-- ---- the names of the grammar pass

-- what is asked of a byte where no digit of a triplet is due
abbrev by_byte : Bool → ℕ → Text → Bool → Bool → Bool
by_byte due c t is_letter is_percent =
    cond is_letter (are_varchars false false false t)
    (cond is_percent (are_varchars false true true t) ((c == dot && not due) && are_varchars true false false t))

varchar_passes : (due : Bool) (v t : Text) → IsVarchar v → are_varchars due false false (v ++ t) ≡ are_varchars false false false t
varchar_passes due _ t (character_varchar c is) = ap (λ (b : Bool). by_byte due c t b (c == percent)) is
varchar_passes due _ t (triplet_varchar c high low is) =
    let first = and_parts (c == percent) (is_hexadecimal high && is_hexadecimal low) is in
    let digits = and_parts (is_hexadecimal high) (is_hexadecimal low) first.1 in
    ap (λ (d : ℕ). are_varchars due false false (d ∷ high ∷ low ∷ t)) (eqb-true c percent first.0)
    ∙ ap (λ (b : Bool). b && (is_hexadecimal low && are_varchars false false false t)) digits.0
    ∙ ap (λ (b : Bool). b && are_varchars false false false t) digits.1

name_passes : (name t : Text) → IsVarname name → are_varchars true false false (name ++ t) ≡ are_varchars false false false t
name_passes _ t (first_varchar v is) = varchar_passes true v t is
name_passes _ t (next_varchar name v before is) =
    ap (are_varchars true false false) (append_assoc name v t) ∙ name_passes name (v ++ t) before ∙ varchar_passes false v t is
name_passes _ t (dotted_varchar name v before is) =
    ap (are_varchars true false false) (append_assoc name (dot ∷ v) t) ∙ name_passes name (dot ∷ v ++ t) before ∙ varchar_passes true v t is

-- ---- what passes is a name

-- a name ends with each varchar after this text: nothing, a name, or a name and a dot
abbrev Grows : Text → Type 0
Grows front = (v : Text) → IsVarchar v → IsVarname (front ++ v)

-- a text of at most that many bytes that passes after such a text makes a name of both
abbrev Ends : ℕ → Type 0
Ends n = (due : Bool) (front t : Text) → length t ≤ n → Grows front → (due ≡ false → IsVarname front) → are_varchars due false false t ≡ true
    → IsVarname (front ++ t)

after_varchar : (n : ℕ) → Ends n → (front v t : Text) → length t ≤ n → Grows front → IsVarchar v → are_varchars false false false t ≡ true
    → IsVarname (front ++ (v ++ t))
after_varchar n later front v t few grows is passes =
    let name = grows v is in
    subst IsVarname (append_assoc front v t) (later false (front ++ v) t few (λ w h. next_varchar (front ++ v) w name h) (λ none_due. name) passes)

after_percent : (n : ℕ) → Ends n → (front : Text) (c : ℕ) (t : Text) → length t ≤ n → Grows front → (c == percent) ≡ true
    → are_varchars false true true t ≡ true → IsVarname (front ++ c ∷ t)
after_percent n later front c [] few grows is passes = absurd (false≢true passes)
after_percent n later front c (high ∷ []) few grows is passes = absurd (false≢true (and_parts (is_hexadecimal high) false passes).1)
after_percent n later front c (high ∷ low ∷ t) few grows is passes =
    let first = and_parts (is_hexadecimal high) (is_hexadecimal low && are_varchars false false false t) passes in
    let second = and_parts (is_hexadecimal low) (are_varchars false false false t) first.1 in
    let whole : is_triplet c high low ≡ true = and_from (c == percent) _ is (and_from (is_hexadecimal high) _ first.0 second.0) in
    after_varchar n later front (c ∷ high ∷ low ∷ []) t (omega (arith, few)) grows (triplet_varchar c high low whole) second.1

after_dot : (n : ℕ) → Ends n → (due : Bool) (front t : Text) → length t ≤ n → (due ≡ false → IsVarname front) → not due ≡ true
    → are_varchars true false false t ≡ true → IsVarname (front ++ dot ∷ t)
after_dot n later true front t few name is passes = absurd (false≢true is)
after_dot n later false front t few name is passes =
    subst IsVarname (append_assoc front (dot ∷ []) t)
    (later true (front ++ dot ∷ []) t few
    (λ v h. subst IsVarname (sym (append_assoc front (dot ∷ []) v)) (dotted_varchar front v (name refl) h))
    (λ none_due. absurd (false≢true (sym none_due))) passes)

at_end : (due : Bool) (front : Text) → (due ≡ false → IsVarname front) → are_varchars due false false [] ≡ true → IsVarname (front ++ [])
at_end true front name passes = absurd (false≢true passes)
at_end false front name passes = subst IsVarname (sym (append-nil front)) (name refl)

step : (n : ℕ) → Ends n → (due : Bool) (front : Text) (c : ℕ) (t : Text) → length t ≤ n → Grows front → (due ≡ false → IsVarname front)
    → are_varchars due false false (c ∷ t) ≡ true → IsVarname (front ++ c ∷ t)
step n later due front c t few grows name passes = by_letter (is_name_character c) refl passes
  where
    by_percent : (b : Bool) → (c == percent) ≡ b → by_byte due c t false b ≡ true → IsVarname (front ++ c ∷ t)
    by_percent true is more = after_percent n later front c t few grows is more
    by_percent false is more =
        let parts = and_parts (c == dot && not due) (are_varchars true false false t) more in
        let both = and_parts (c == dot) (not due) parts.0 in
        subst (λ (d : ℕ). IsVarname (front ++ d ∷ t)) (sym (eqb-true c dot both.0)) (after_dot n later due front t few name both.1 parts.1)

    by_letter : (b : Bool) → is_name_character c ≡ b → by_byte due c t b (c == percent) ≡ true → IsVarname (front ++ c ∷ t)
    by_letter true is more = after_varchar n later front (c ∷ []) t few grows (character_varchar c is) more
    by_letter false is more = by_percent (c == percent) refl more

ends : (n : ℕ) → Ends n
ends n due front [] few grows name passes = at_end due front name passes
ends zero due front (c ∷ t) few grows name passes = absurd (omega (arith, few))
ends (suc n) due front (c ∷ t) few grows name passes = step n (ends n) due front c t (omega (arith, few)) grows name passes

-- ---- both

forth : (text : Text) → is_name text ≡ true → IsName text
forth text passes =
    let parts = and_parts (nat_le (length text) MAX_NAME_BYTES) (are_varchars true false false text) passes in (
      ends (length text) true [] text (omega arith) (λ v is. first_varchar v is) (λ none_due. absurd (false≢true (sym none_due))) parts.1,
      leb-true (length text) MAX_NAME_BYTES parts.0,
    )

back : (text : Text) → IsName text → is_name text ≡ true
back text name =
    let passes = ap (are_varchars true false false) (sym (append-nil text)) ∙ name_passes text [] name.0 in
    and_from (nat_le (length text) MAX_NAME_BYTES) (are_varchars true false false text) (le-leb (length text) MAX_NAME_BYTES name.1) passes

pub is_name_iff : (text : Text) → (is_name text ≡ true) ↔ IsName text
is_name_iff text = (forth text, back text)
