-- Bytes have at most one code or first error. Each stage of reading has one result, and so have several stages in a row.
use Rattle.std.proofs.Common.{◌≡◌, ◌<◌, ◌≤◌, ℕ, List, [], ◌∷◌, ◌++◌, length, refl, sym, ◌∙◌, ap, subst, inl, inr, append_assoc, arith, length-append}
use Rattle.std.specs.Prelude.{All, Result, Ok, Err}
use Rattle.std.specs.List.{flat_map}
use Rattle.std.proofs.lemmas.Bool.{cases_order}
use Rattle.std.proofs.lemmas.List.{append-nil, nil_from_length}
use Rattle.std.proofs.lemmas.List.Elements.{All-head, All-tail}
use Rattle.text_model.specs.Texts.{Text}
use Rattle.code_file.specs.declared.error.CodeError.{CodeError}
use Rattle.code_file.specs.Fault.{after}

-- ---- a table

-- bytes begin with at most one entry of a kind
pub record IsApart {X : Type 0} (IsGood : X → Type 0) (field : X → Text) (IsFault : Text → CodeError → Type 0) : Type 0 where
  pub one_entry : (x y : X) (s t : Text) → IsGood x → IsGood y → field x ++ s ≡ field y ++ t → (x ≡ y) × (s ≡ t)
  pub no_fault : (x : X) (s : Text) (e : CodeError) → IsGood x → IsFault (field x ++ s) e → ⊥
  pub one_fault : (bytes : Text) (e f : CodeError) → IsFault bytes e → IsFault bytes f → e ≡ f

-- of two sequences of entries, the shorter one is the beginning of the longer one
first_entries : {X : Type 0} (IsGood : X → Type 0) (field : X → Text) (IsFault : Text → CodeError → Type 0)
    → IsApart IsGood field IsFault → (xs ys : List X) (s t : Text) → All IsGood xs → All IsGood ys
    → flat_map field xs ++ s ≡ flat_map field ys ++ t → length xs ≤ length ys
    → (zs : List X) × All IsGood zs × (ys ≡ xs ++ zs) × (s ≡ flat_map field zs ++ t)
first_entries {X = X} IsGood field IsFault apart [] ys s t g h e n = (ys, h, refl, e)
first_entries {X = X} IsGood field IsFault apart (x ∷ xs) [] s t g h e n = absurd (omega arith)
first_entries {X = X} IsGood field IsFault apart (x ∷ xs) (y ∷ ys) s t g h e n =
    let whole : field x ++ (flat_map field xs ++ s) ≡ field y ++ (flat_map field ys ++ t) =
    sym (append_assoc (field x) (flat_map field xs) s) ∙ e ∙ append_assoc (field y) (flat_map field ys) t in
    let one = apart.one_entry x y _ _ (All-head IsGood x xs g) (All-head IsGood y ys h) whole in
    let more = first_entries IsGood field IsFault apart xs ys s t (All-tail IsGood x xs g) (All-tail IsGood y ys h) one.1 (omega arith) in
    (more.0, more.1, ap (λ (l : List X). y ∷ l) more.2 ∙ ap (λ (z : X). z ∷ (xs ++ more.0)) (sym one.0), more.3)

-- the result of reading a table of that many entries: the entries and the bytes after them, or the first error
pub data ReadsTable {X : Type 0} (IsGood : X → Type 0) (field : X → Text) (IsFault : Text → CodeError → Type 0)
    (count : ℕ) (bytes : Text) : Result (List X × Text) CodeError → Type 0 where
  found : (xs : List X) (rest : Text) → All IsGood xs → length xs ≡ count → bytes ≡ flat_map field xs ++ rest
      → ReadsTable IsGood field IsFault count bytes (Ok (xs, rest))
  faulty : (xs : List X) (rest : Text) (e : CodeError) → All IsGood xs → length xs < count → bytes ≡ flat_map field xs ++ rest
      → IsFault rest e → ReadsTable IsGood field IsFault count bytes (Err (after (length (flat_map field xs)) e))

-- there are no further entries where an error is
no_more : {X : Type 0} (IsGood : X → Type 0) (field : X → Text) (IsFault : Text → CodeError → Type 0)
    → IsApart IsGood field IsFault → (xs ys : List X) (s t : Text) (e : CodeError) → All IsGood xs → All IsGood ys
    → flat_map field xs ++ s ≡ flat_map field ys ++ t → length xs < length ys → IsFault s e → ⊥
no_more {X = X} IsGood field IsFault apart xs ys s t e g h same n f =
    let first = first_entries IsGood field IsFault apart xs ys s t g h same (omega arith) in
    go first.0 first.1 first.2 first.3
  where
    go : (zs : List X) → All IsGood zs → ys ≡ xs ++ zs → s ≡ flat_map field zs ++ t → ⊥
    go [] good eq spells = omega (arith, ap length eq, length-append xs [])
    go (z ∷ zs) good eq spells =
        apart.no_fault z (flat_map field zs ++ t) e (All-head IsGood z zs good)
        (subst (λ (b : Text). IsFault b e) (spells ∙ append_assoc (field z) (flat_map field zs) t) f)

pub same_entries : {X : Type 0} (IsGood : X → Type 0) (field : X → Text) (IsFault : Text → CodeError → Type 0)
    → IsApart IsGood field IsFault → (xs ys : List X) (s t : Text) → All IsGood xs → All IsGood ys
    → flat_map field xs ++ s ≡ flat_map field ys ++ t → length xs ≡ length ys → (xs ≡ ys) × (s ≡ t)
same_entries {X = X} IsGood field IsFault apart xs ys s t g h same n =
    let first = first_entries IsGood field IsFault apart xs ys s t g h same (omega arith) in
    let none : first.0 ≡ [] = nil_from_length first.0 (omega (arith, ap length first.2, length-append xs first.0)) in
    (sym (first.2 ∙ ap (λ (l : List X). xs ++ l) none ∙ append-nil xs), first.3 ∙ ap (λ (l : List X). flat_map field l ++ t) none)

pub one_table : {X : Type 0} (IsGood : X → Type 0) (field : X → Text) (IsFault : Text → CodeError → Type 0)
    → IsApart IsGood field IsFault → (count : ℕ) (bytes : Text) (r q : Result (List X × Text) CodeError)
    → ReadsTable IsGood field IsFault count bytes r → ReadsTable IsGood field IsFault count bytes q → r ≡ q
one_table IsGood field IsFault apart count bytes r q (found xs s g n e) (found ys t h m f) =
    let same = same_entries IsGood field IsFault apart xs ys s t g h (sym e ∙ f) (n ∙ sym m) in
    rw (same.0, same.1) refl
one_table IsGood field IsFault apart count bytes r q (found xs s g n e) (faulty ys t w h m f k) =
    absurd (no_more IsGood field IsFault apart ys xs t s w h g (sym f ∙ e) (omega arith) k)
one_table IsGood field IsFault apart count bytes r q (faulty xs s v g n e j) (found ys t h m f) =
    absurd (no_more IsGood field IsFault apart xs ys s t v g h (sym e ∙ f) (omega arith) j)
one_table IsGood field IsFault apart count bytes r q (faulty xs s v g n e j) (faulty ys t w h m f k) =
    elim (cases_order (length xs) (length ys)) [
      | inl same ↦
          let both = same_entries IsGood field IsFault apart xs ys s t g h (sym e ∙ f) same in
          let one = apart.one_fault t v w (subst (λ (b : Text). IsFault b v) both.1 j) k in
          rw (both.0, one) refl
      | inr other ↦ elim other [
        | inl less ↦ absurd (no_more IsGood field IsFault apart xs ys s t v g h (sym e ∙ f) less j)
        | inr more ↦ absurd (no_more IsGood field IsFault apart ys xs t s w h g (sym f ∙ e) more k)
      ]
    ]

-- ---- stages that follow one another

abbrev pub IsOne : {A B : Type 0} → (A → Result B CodeError → Type 0) → Type 0
IsOne {A} {B} R = (a : A) (r q : Result B CodeError) → R a r → R a q → r ≡ q

-- the second stage reads the result of the first; an error of the first is the error of both
pub data Then {A B C : Type 0} (R : A → Result B CodeError → Type 0) (S : B → Result C CodeError → Type 0) (a : A) :
    Result C CodeError → Type 0 where
  stops : (e : CodeError) → R a (Err e) → Then R S a (Err e)
  continues : (b : B) (r : Result C CodeError) → R a (Ok b) → S b r → Then R S a r

pub then_one : {A B C : Type 0} (R : A → Result B CodeError → Type 0) (S : B → Result C CodeError → Type 0)
    → IsOne R → IsOne S → IsOne (Then R S)
then_one {B = B} R S one two a r q (stops e h) (stops f k) = let both = one a (Err e) (Err f) h k in let same : e ≡ f = cc in ap Err same
then_one {B = B} R S one two a r q (stops e h) (continues b s k j) = let both = one a (Err e) (Ok b) h k in cc
then_one {B = B} R S one two a r q (continues b s k j) (stops e h) = let both = one a (Err e) (Ok b) h k in cc
then_one {B = B} R S one two a r q (continues b s h j) (continues d t k l) =
    let both = one a (Ok b) (Ok d) h k in let same : b ≡ d = cc in two d s t (subst (λ (x : B). S x s) same j) l
