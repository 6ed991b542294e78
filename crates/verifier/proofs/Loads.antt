-- From errors of reading, and from errors of a code, to errors of loading.
use Rattle.std.proofs.Common.{◌≡◌, ℕ, Option, Some, None, Bool, true, false, refl, sym, ap, ◌∙◌, subst, inl, inr}
use Rattle.std.specs.Prelude.{slice_get, if◌then◌else◌, not}
use Rattle.std.proofs.lemmas.Option.{get_or_from_slice_get, same_Some, slice_get_within}
use Rattle.std.proofs.lemmas.List.Elements.{All-get_or}
use Rattle.text_model.specs.Texts.{Text}
use Rattle.text_model.specs.UriText.{IsUriText}
use Rattle.code_model.specs.Code.{Code, Literal}
use Rattle.code_file.specs.Grammar.{IsTextOf, IsLiteral, IsCode, IsCodeFile}
use Rattle.code_file.specs.Fault.{fault, IsKindFault, no_kind, bad_kind, IsNameFault, IsLiteralFault, IsTableFault}
use Rattle.code_file.specs.Fault.{IsFieldFault, bad_counts, in_names, in_literals, IsFirstFault, too_long, in_field}
use Rattle.code_file.specs.Fault as read
use Rattle.code_file.specs.declared.error.CodeError.{CodeError}
use Rattle.code_file.specs.declared.error.CodeErrorKind.{CodeErrorKind}
use Rattle.code_file.specs.declared.error.CodeErrorKind.TheVariants.{TooMany, NoCode, NoMemory}
use Rattle.machine_model.specs.declared.form.FormFault.{FormFault}
use Rattle.machine_model.specs.declared.form.FormFault.TheVariants as form
use Rattle.machine_model.specs.First.{Located}
use Rattle.machine_model.specs.Operands.{is_link_text, text_of_literal}
use Rattle.machine_model.specs.Form.{HasGoodForm, first_form_fault}
use Rattle.machine_model.specs.Typable.{Table, IsTypable, IsLeast}
use Rattle.machine_model.specs.Mismatch.{first_mismatch, IsFirstMismatch}
use Rattle.machine_model.specs.Safe.{IsFileCode}
use Rattle.verifier.specs.declared.error.LoadError.{LoadError}
use Rattle.verifier.specs.declared.error.LoadError.TheVariants as load
use Rattle.verifier.specs.Private.Checks.{located_of}
use Rattle.verifier.specs.Faults.{form_error, mismatch_error, read_error, IsLoadFault, IsCodeRefusal}
use Rattle.verifier.specs.Faults as faults

-- ---- a first error is never out of memory

in_kind_field : (bytes : Text) (e : CodeError) → IsKindFault bytes e → e.kind ≡ NoMemory → ⊥
in_kind_field bytes e (no_kind h) k = absurd (cc)
in_kind_field bytes e (bad_kind kind rest h lt) k = absurd (cc)

in_name : (bytes : Text) (e : CodeError) → IsNameFault bytes e → e.kind ≡ NoMemory → ⊥
in_name bytes e (IsNameFault.in_kind f h) k = in_kind_field bytes f h k
in_name bytes e _ k = absurd (cc)

in_literal : (bytes : Text) (e : CodeError) → IsLiteralFault bytes e → e.kind ≡ NoMemory → ⊥
in_literal bytes e (IsLiteralFault.in_kind f h) k = in_kind_field bytes f h k
in_literal bytes e _ k = absurd (cc)

in_table : {X : Type 0} (IsGood : X → Type 0) (field : X → Text) (IsFault : Text → CodeError → Type 0) (count : ℕ) (bytes : Text) (e : CodeError)
    → ((b : Text) (f : CodeError) → IsFault b f → f.kind ≡ NoMemory → ⊥) → IsTableFault IsGood field IsFault count bytes e → e.kind ≡ NoMemory → ⊥
in_table IsGood field IsFault count bytes e never t k = never t.rest t.here t.faulty (sym (ap (λ (f : CodeError). f.kind) t.place) ∙ k)

in_counts : (a b d z : Bool) (e : CodeError) → (if a then Some (fault TooMany 4) else if b then Some (fault TooMany 6) else if d then Some (fault TooMany 8)
    else if z then Some (fault NoCode 8) else None) ≡ Some e → e.kind ≡ NoMemory → ⊥
in_counts true b d z e h k = let s : fault TooMany 4 ≡ e = same_Some _ _ h in let t : TooMany ≡ NoMemory = ap (λ (f : CodeError). f.kind) s ∙ k in absurd (cc)
in_counts false true d z e h k =
    let s : fault TooMany 6 ≡ e = same_Some _ _ h in let t : TooMany ≡ NoMemory = ap (λ (f : CodeError). f.kind) s ∙ k in absurd (cc)
in_counts false false true z e h k = let s : fault TooMany 8 ≡ e = same_Some _ _ h in let t : TooMany ≡ NoMemory = ap (λ (f : CodeError). f.kind) s ∙ k in
    absurd (cc)
in_counts false false false true e h k = let s : fault NoCode 8 ≡ e = same_Some _ _ h in let t : NoCode ≡ NoMemory = ap (λ (f : CodeError). f.kind) s ∙ k in
    absurd (cc)
in_counts false false false false e h k = absurd (cc)

in_file : (bytes : Text) (e : CodeError) → IsFieldFault bytes e → e.kind ≡ NoMemory → ⊥
in_file bytes e (bad_counts p f h) k = in_counts _ _ _ _ f h k
in_file bytes e (in_names p f h) k = in_table _ _ _ _ _ f in_name h k
in_file bytes e (in_literals p f h) k = in_table _ _ _ _ _ f in_literal h k
in_file bytes e _ k = absurd (cc)

never_memory : (bytes : Text) (e : CodeError) → IsFirstFault bytes e → e.kind ≡ NoMemory → ⊥
never_memory bytes e (too_long h) k = absurd (cc)
never_memory bytes e (in_field f le h) k = in_file bytes f h k

read_first : (bytes : Text) (e : CodeError) → IsFirstFault bytes e → IsLoadFault bytes (read_error e)
read_first bytes e h = by_kind e.kind refl
  where
    here : (k : CodeErrorKind) → e.kind ≡ k → IsLoadFault bytes (load.Code k e.at)
    here k is = subst (λ x. IsLoadFault bytes (load.Code x e.at)) is (faults.no_code e h)

    by_kind : (k : CodeErrorKind) → e.kind ≡ k → IsLoadFault bytes (read_error (fault k e.at))
    by_kind NoMemory is = absurd (never_memory bytes e h is)
    by_kind k is = here k is

pub read_refused : (bytes : Text) (e : CodeError) → read.IsRefusal bytes e → IsLoadFault bytes (read_error e)
read_refused bytes e (inl h) = read_first bytes e h
read_refused bytes e (inr h) = subst (λ x. IsLoadFault bytes (read_error x)) (sym h.0) (faults.no_memory h.1.0 h.1.1)

-- ---- errors of a code

pub code_refused : (bytes : Text) (c : Code) (e : LoadError) → IsCodeFile bytes c → IsCodeRefusal c e → IsLoadFault bytes e
code_refused bytes c e file (IsCodeRefusal.bad_form f h) = IsLoadFault.bad_form c f file h
code_refused bytes c e file (IsCodeRefusal.mismatch m g h) = IsLoadFault.mismatch c m file g h
code_refused bytes c e file IsCodeRefusal.no_memory = IsLoadFault.no_memory c file

not_of_form : (f : FormFault) (place : ℕ) (m : Located ℕ) → form_error (record { place = place; what = f }) ≡ mismatch_error m → ⊥
not_of_form form.UnknownOp place m e = absurd (cc)
not_of_form _ place m e = absurd (cc)

-- code that is rejected for its kinds is not typable
pub exact : ((bytes : Text) (c d : Code) → IsCodeFile bytes c → IsCodeFile bytes d → c ≡ d)
    → ((c : Code) (m : Located ℕ) → IsFirstMismatch c m → IsTypable c → ⊥) → (bytes : Text) (e : LoadError) → IsLoadFault bytes e → (m : Located ℕ) (c : Code)
    → e ≡ mismatch_error m → IsCodeFile bytes c → IsTypable c → ⊥
exact one untypable bytes e (IsLoadFault.no_code f h) m c is file y = absurd (cc)
exact one untypable bytes e (IsLoadFault.bad_form d f g h) m c is file y = not_of_form f.what f.place m is
exact one untypable bytes e (IsLoadFault.mismatch d n g w h) m c is file y = untypable d n h (subst IsTypable (one bytes c d file g) y)
exact one untypable bytes e (IsLoadFault.no_memory d g) m c is file y = absurd (cc)

-- the link texts of a code are URI text
pub file_code : (c : Code) → IsCode c → IsFileCode c
file_code c k = record { some = k.header.some; links = λ n h. by_literal n (slice_get c.literals n) refl h }
  where
    by_text : (t : Bool) (text : Text) → IsTextOf t text → not t ≡ true → IsUriText text
    by_text true text h e = absurd (cc)
    by_text false text h e = h

    by_literal : (n : ℕ) (o : Option Literal) → slice_get c.literals n ≡ o → is_link_text o ≡ true → IsUriText (text_of_literal o)
    by_literal n None e h = absurd (cc)
    by_literal n (Some l) e h =
        let good : IsLiteral l =
        subst IsLiteral (get_or_from_slice_get c.literals n l l e) (All-get_or IsLiteral c.literals n l (slice_get_within c.literals n l e) k.literals) in
        by_text l.compared l.bytes good.text h

-- ---- what the checks found

pub form_refused : (c d : Code) (found : Option (FormFault × ℕ)) (f : FormFault × ℕ) (e : LoadError) → d ≡ c → located_of found ≡ first_form_fault d
    → found ≡ Some f → e ≡ form_error (record { place = f.1; what = f.0 }) → IsCodeRefusal c e
form_refused c d found f e same h is er =
    subst (IsCodeRefusal c) (sym er) (IsCodeRefusal.bad_form (record { place = f.1; what = f.0 }) (ap first_form_fault (sym same) ∙ sym h ∙ ap located_of is))

pub kinds_refused : (c d : Code) (found : Option (ℕ × ℕ)) (m : ℕ × ℕ) (t : Table) → d ≡ c → HasGoodForm d → IsLeast d t → located_of found ≡ first_mismatch d t
    → found ≡ Some m → IsCodeRefusal c (load.KindMismatch m.1 m.0)
kinds_refused c d found m t same form least h is =
    subst (λ x. IsCodeRefusal x (load.KindMismatch m.1 m.0)) same
    (IsCodeRefusal.mismatch (record { place = m.1; what = m.0 }) form (t, least, sym h ∙ ap located_of is))
