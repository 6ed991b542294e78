-- Bytes begin with at most one name, and have at most one error of a name.
use Rattle.std.proofs.Common.{◌≡◌, ◌<◌, ◌+◌, ◌⊎◌, ℕ, Bool, true, false, [], ◌∷◌, ◌++◌, length, take, get_or, refl, sym, ◌∙◌, ap, subst, inl, inr, arith}
use Rattle.std.specs.Prelude.{Result, Ok, Err, nat_lt, nat_le, ◌&&◌, slice_index, if◌then◌else◌}
use Rattle.std.proofs.lemmas.Grind.{common_steps}
use Rattle.std.proofs.lemmas.Bool.{cases_order, cases_Bool, lt-ltb, le-leb, ltb-true, leb-true, and_from, and_parts}
use Rattle.std.proofs.lemmas.List.{length-take-le, get_or-take}
use Rattle.text_model.specs.Texts.{Text}
use Rattle.text_model.proofs.Lists.{same_halves}
use Rattle.code_model.specs.Code.{Name}
use Rattle.code_file.specs.declared.error.CodeError.{CodeError}
use Rattle.code_file.specs.declared.error.CodeErrorKind.TheVariants.{BadKind, BadName}
use Rattle.code_file.specs.declared.limits.TheConstants.{MAX_NAME_BYTES}
use Rattle.code_file.specs.Grammar.{kind_byte, name_field, IsNameByte, IsCodeName}
use Rattle.code_file.specs.Fault.{fault, cut_short, IsFirstWrong, IsNameLength, no_kind, bad_kind, IsNameFault, in_kind, no_length, bad_length}
use Rattle.code_file.specs.Fault.{no_text, bad_text}
use Rattle.code_file.proofs.StageLemmas.{IsApart}

-- ---- lists and kinds

pub same_kind : (b d : Bool) → kind_byte b ≡ kind_byte d → b ≡ d
same_kind true true h = refl
same_kind true false h = absurd (omega arith)
same_kind false true h = absurd (omega arith)
same_kind false false h = refl

-- ---- names

-- the text of the name at the beginning, whatever its bytes are, or an error
abbrev name_shape_from : ℕ → ℕ → Text → Result Text CodeError
name_shape_from kind len rest =
    if (nat_lt 0 len && nat_le len MAX_NAME_BYTES)
    then (if nat_lt (length rest) len then Err (cut_short (kind ∷ len ∷ rest)) else Ok (take len rest))
    else Err (fault BadName 1)

abbrev name_shape : Text → Result Text CodeError
name_shape [] = Err (cut_short [])
name_shape (kind ∷ []) = if nat_lt 1 kind then Err (fault BadKind 0) else Err (cut_short (kind ∷ []))
name_shape (kind ∷ len ∷ rest) = if nat_lt 1 kind then Err (fault BadKind 0) else name_shape_from kind len rest

bad_kind_shape : (kind : ℕ) (rest : Text) → 1 < kind → name_shape (kind ∷ rest) ≡ Err (fault BadKind 0)
bad_kind_shape kind [] k = rw (lt-ltb 1 kind k) refl
bad_kind_shape kind (len ∷ rest) k = rw (lt-ltb 1 kind k) refl

no_length_shape : (list : Bool) → name_shape (kind_byte list ∷ []) ≡ Err (cut_short (kind_byte list ∷ []))
no_length_shape true = refl
no_length_shape false = refl

good_kind_shape : (list : Bool) (len : ℕ) (rest : Text) → name_shape (kind_byte list ∷ len ∷ rest) ≡ name_shape_from (kind_byte list) len rest
good_kind_shape true len rest = refl
good_kind_shape false len rest = refl

good_length : (len : ℕ) → IsNameLength len → (nat_lt 0 len && nat_le len MAX_NAME_BYTES) ≡ true
good_length len n = and_from (nat_lt 0 len) (nat_le len MAX_NAME_BYTES) (lt-ltb 0 len n.0) (le-leb len MAX_NAME_BYTES n.1)

not_length : (len : ℕ) → (IsNameLength len → ⊥) → (nat_lt 0 len && nat_le len MAX_NAME_BYTES) ≡ false
not_length len bad = elim (cases_Bool (nat_lt 0 len && nat_le len MAX_NAME_BYTES)) [
  | inl is ↦ let p = and_parts (nat_lt 0 len) (nat_le len MAX_NAME_BYTES) is in absurd (bad (ltb-true 0 len p.0, leb-true len MAX_NAME_BYTES p.1))
  | inr isnt ↦ isnt
]

text_shape : (n : Name) (rest : Text) → IsNameLength (length n.text) → name_shape (name_field n ++ rest) ≡ Ok n.text
text_shape n rest len = grind (arith, common_steps)

-- an error of a name is one of its shape, or a wrong byte of its text
abbrev IsShapedName : Text → CodeError → Type 0
IsShapedName bytes e =
    (name_shape bytes ≡ Err e)
    ⊎ ((text : Text) × (place : ℕ) × (name_shape bytes ≡ Ok text) × IsFirstWrong text place × (e ≡ fault BadName (2 + place)))

shaped_name : {bytes : Text} {e : CodeError} → IsNameFault bytes e → IsShapedName bytes e
shaped_name {bytes = bytes} (in_kind e (no_kind h)) = inl (subst (λ (b : Text). name_shape b ≡ Err (cut_short b)) (sym h) refl)
shaped_name {bytes = bytes} (in_kind e (bad_kind kind rest h k)) = inl (ap name_shape h ∙ bad_kind_shape kind rest k)
shaped_name {bytes = bytes} (no_length list h) =
    inl (subst (λ (b : Text). name_shape b ≡ Err (cut_short b)) (sym h) (no_length_shape list))
shaped_name {bytes = bytes} (bad_length list len rest h bad) =
    inl (ap name_shape h ∙ good_kind_shape list len rest ∙ rw (not_length len bad) refl)
shaped_name {bytes = bytes} (no_text list len rest h n short) =
    inl (subst (λ (b : Text). name_shape b ≡ Err (cut_short b)) (sym h)
    (good_kind_shape list len rest ∙ rw (good_length len n, lt-ltb (length rest) len short) refl))
shaped_name {bytes = bytes} (bad_text name rest place h n w) =
    inr (name.text, place, ap name_shape h ∙ text_shape name rest n, w, refl)

one_wrong : (text : Text) (i j : ℕ) → IsFirstWrong text i → IsFirstWrong text j → i ≡ j
one_wrong text i j p q = elim (cases_order i j) [
  | inl same ↦ same
  | inr other ↦ elim other [
    | inl less ↦ absurd (p.wrong (earlier text i j less q))
    | inr more ↦ absurd (q.wrong (earlier text j i more p))
  ]
]
  where
    earlier : (text : Text) (i j : ℕ) → i < j → IsFirstWrong text j → IsNameByte (slice_index text i)
    earlier text i j less q =
        let len : length (take j text) ≡ j = length-take-le j text (omega (arith, q.within)) in
        let good : IsNameByte (get_or (take j text) i 0) = q.before i 0 (omega (arith, len)) in
        subst IsNameByte (get_or-take j text i 0 less) good

one_name_fault : (bytes : Text) (e f : CodeError) → IsNameFault bytes e → IsNameFault bytes f → e ≡ f
one_name_fault bytes e f p q = grind (arith, shaped_name, one_wrong)

name_no_fault : (n : Name) (rest : Text) (e : CodeError) → IsCodeName n → IsNameFault (name_field n ++ rest) e → ⊥
name_no_fault n rest e good p = grind (arith, shaped_name, text_shape)

one_name : (x y : Name) (s t : Text) → name_field x ++ s ≡ name_field y ++ t → (x ≡ y) × (s ≡ t)
one_name x y s t h = grind (arith, same_halves)

pub names_apart : IsApart IsCodeName name_field IsNameFault
names_apart = grind (arith, one_name, name_no_fault, one_name_fault)
