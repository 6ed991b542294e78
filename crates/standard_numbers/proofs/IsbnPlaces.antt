-- ISBNs at places of a text.
use Rattle.std.proofs.Common.{◌≡◌, ℕ, zero, suc, ◌+◌, ◌-◌, ◌<◌, ◌≤◌, [], ◌∷◌, ◌++◌, Bool, true, false, ◌||◌, cond, Option, Some, None, eqb, length, get_or}
use Rattle.std.proofs.Common.{take, drop, refl, ap, ◌∙◌, sym, subst, arith, inl, inr}
use Rattle.std.specs.Prelude.{codes}
use Rattle.std.specs.Char.{is_ascii_digit}
use Rattle.std.specs.List.{list_all}
use Rattle.std.specs.Str.{bytes_eq}
use Rattle.std.proofs.lemmas.Bool.{and_parts, and_from, eqb-true, eq-eqb, or_cases, or_left, or_right}
use Rattle.std.proofs.lemmas.List.{take-append-drop, get_or_past}
use Rattle.std.proofs.lemmas.Slice.Eq.{bytes_eq-Decides}
use Rattle.text_model.specs.Texts.{Text}
use Rattle.standard_numbers.specs.Spellings.{space, are_digits}
use Rattle.standard_numbers.specs.Isbn.{digits_end, ended, has_prefix, compact, is_isbn, length_of_13, length_of_10, isbn_length}
use Rattle.standard_numbers.proofs.Forms.{length_of_digits}
use Rattle.standard_numbers.proofs.IsbnForms.{digits_end_there}

-- an ISBN of 13 digits or of ten
abbrev pub AreIsbnDigits : Text → Type 0
AreIsbnDigits digits = (is_isbn digits || are_digits 10 digits) ≡ true

-- which of the two it is, by its length
pub ten_digits : (digits : Text) → AreIsbnDigits digits → (length digits ≡ 13 → ⊥) → are_digits 10 digits ≡ true
ten_digits digits h short = elim (or_cases _ _ h) [
  | inl isbn ↦ absurd (short (eqb-true _ _ (and_parts _ _ (and_parts _ _ isbn).0).0))
  | inr ten ↦ ten
]

pub thirteen_digits : (digits : Text) → AreIsbnDigits digits → length digits ≡ 13 → is_isbn digits ≡ true
thirteen_digits digits h long = elim (or_cases _ _ h) [
  | inl isbn ↦ isbn
  | inr ten ↦ absurd (omega (arith, length_of_digits digits 10 ten))
]

ended_at : (k n : ℕ) (b : Bool) → cond b None (Some k) ≡ Some n → Some k ≡ Some n
ended_at k n true h = cc
ended_at k n false h = h

ended_is : (t : Text) (end : Option ℕ) (n : ℕ) → ended t end ≡ Some n → end ≡ Some n
ended_is t None n h = h
ended_is t (Some k) n h = ended_at k n (is_ascii_digit (get_or t k 0)) h

-- the prefix stays if the hyphens go
prefix_978 : (r : Text) (k : ℕ) → has_prefix (compact (take (suc (suc (suc k))) (codes "978" ++ r))) ≡ true
prefix_978 r k = refl

prefix_979 : (r : Text) (k : ℕ) → has_prefix (compact (take (suc (suc (suc k))) (codes "979" ++ r))) ≡ true
prefix_979 r k = refl

prefix_of : (p t : Text) (k : ℕ) → ((r : Text) → has_prefix (compact (take (suc (suc (suc k))) (p ++ r))) ≡ true) → bytes_eq (take 3 t) p ≡ true
    → has_prefix (compact (take (suc (suc (suc k))) t)) ≡ true
prefix_of p t k h e =
    let same : take 3 t ≡ p = (bytes_eq-Decides (take 3 t) p).0 e in
    let parts : p ++ drop 3 t ≡ t = ap (λ s. s ++ drop 3 t) (sym same) ∙ take-append-drop 3 t in
    subst (λ s. has_prefix (compact (take (suc (suc (suc k))) s)) ≡ true) parts (h (drop 3 t))

prefix_stays : (t : Text) (n : ℕ) → 3 ≤ n → has_prefix t ≡ true → has_prefix (compact (take n t)) ≡ true
prefix_stays t zero far h = absurd (omega arith)
prefix_stays t (suc zero) far h = absurd (omega arith)
prefix_stays t (suc (suc zero)) far h = absurd (omega arith)
prefix_stays t (suc (suc (suc k))) far h = elim (or_cases _ _ h) [
  | inl e ↦ prefix_of (codes "978") t k (λ r. prefix_978 r k) e
  | inr e ↦ prefix_of (codes "979") t k (λ r. prefix_979 r k) e
]

some_if : (b : Bool) (o : Option ℕ) (n : ℕ) → cond b o None ≡ Some n → (b ≡ true) × (o ≡ Some n)
some_if true o n h = (refl, h)
some_if false o n h = cc

of_13 : (t : Text) (n : ℕ) → length_of_13 t ≡ Some n → AreIsbnDigits (compact (take n t))
of_13 t n h =
    let is = some_if _ _ _ h in
    let end = digits_end_there false t 0 13 false n (omega arith) (ended_is t (digits_end false 0 13 false t) n is.1) in
    let same : n ≡ end.more = omega (arith, end.place) in
    let long = length_of_digits (compact (take end.more t)) 13 end.digits in
    let P : ℕ → Type 0 = λ k. is_isbn (compact (take k t)) ≡ true in
    let isbn : P end.more = and_from _ _ (and_from _ _ (eq-eqb _ _ long) (end.tenless refl)) (prefix_stays t end.more (omega (arith, end.enough)) is.0) in
    or_left _ _ (subst P (sym same) isbn)

of_10 : (t : Text) (n : ℕ) → length_of_10 t ≡ Some n → AreIsbnDigits (compact (take n t))
of_10 t n h =
    let end = digits_end_there true t 0 10 false n (omega arith) (ended_is t (digits_end true 0 10 false t) n h) in
    let same : n ≡ end.more = omega (arith, end.place) in
    or_right _ _ (subst (λ k. are_digits 10 (compact (take k t)) ≡ true) (sym same) end.digits)

either : (t : Text) (n : ℕ) (digit some : Bool) → cond digit None (cond some (length_of_13 t) (length_of_10 t)) ≡ Some n → AreIsbnDigits (compact (take n t))
either t n true some h = cc
either t n false true h = of_13 t n h
either t n false false h = of_10 t n h

-- what begins at a place is one
pub isbn_begins : (before : ℕ) (t : Text) (n : ℕ) → isbn_length before t ≡ Some n → AreIsbnDigits (compact (take n t))
isbn_begins before t n h = either t n _ _ h

-- ---- an ISBN of 13 digits, alone

ends_more : (t : Text) (read left b : ℕ) (may_join one : Bool) → is_ascii_digit b ≡ true → eqb left 1 ≡ one → length t + 1 ≡ left
    → (0 < left - 1 → digits_end false (read + 1) (left - 1) true t ≡ Some (read + 1 + (left - 1)))
    → digits_end false read left may_join (b ∷ t) ≡ Some (read + left)
ends_more t read left b may_join true digit last long rest =
    let e : left ≡ 1 = eqb-true left 1 last in
    rw digit (rw last (ap (λ k. Some (read + k)) (sym e)))
ends_more t read left b may_join false digit last long rest =
    let some : 0 < left - 1 = grind (arith, last) in
    let e : read + 1 + (left - 1) ≡ read + left = omega arith in
    rw digit (rw last (rest some ∙ ap Some e))

ends_all : (t : Text) (read left : ℕ) (may_join : Bool) → list_all is_ascii_digit t ≡ true → length t ≡ left → 0 < left
    → digits_end false read left may_join t ≡ Some (read + left)
ends_all [] read left may_join digits long some = absurd (omega arith)
ends_all (b ∷ t) read left may_join digits long some =
    let a = and_parts _ _ digits in
    ends_more t read left b may_join _ a.0 refl (omega arith) (λ more. ends_all t (read + 1) (left - 1) true a.1 (omega arith) more)

-- how many bytes it takes
pub isbn_alone : (isbn : Text) → is_isbn isbn ≡ true → isbn_length space isbn ≡ Some 13
isbn_alone isbn h =
    let a = and_parts _ _ h in
    let b = and_parts _ _ a.0 in
    let long : length isbn ≡ 13 = eqb-true _ _ b.0 in
    let end : digits_end false 0 13 false isbn ≡ Some 13 = ends_all isbn 0 13 false b.1 long (omega arith) in
    let past : get_or isbn 13 0 ≡ 0 = get_or_past isbn 13 0 (omega arith) in
    let whole : length_of_13 isbn ≡ Some 13 = rw a.1 (ap (ended isbn) end ∙ rw past refl) in
    rw whole refl
