-- A reference as it is written is the first one of its text.
use Rattle.std.proofs.Common.{◌≡◌, ℕ, zero, suc, ◌+◌, ◌-◌, ◌<◌, ◌≤◌, [], ◌∷◌, ◌++◌, Bool, true, false, ◌||◌, ◌&&◌, not, cond}
use Rattle.std.proofs.Common.{Option, Some, None, length, get_or, take, drop, ltb, refl, sym, ap, ◌∙◌, subst, arith, append_assoc}
use Rattle.std.specs.Prelude.{◌==◌, nat_le}
use Rattle.std.specs.Char.{is_ascii_digit}
use Rattle.std.specs.List.{list_any, prefix_len, suffix_len}
use Rattle.std.specs.Option.{option_map}
use Rattle.std.proofs.lemmas.Bool.{or_left, or_right, ltb-true, ltb-false}
use Rattle.std.proofs.lemmas.Bool.Decides.{nat_tests}
use Rattle.std.proofs.lemmas.List.{take_at, drop_at, drop-append-le, length-take, length-append, reverse-append, get_or-append-add}
use Rattle.std.proofs.lemmas.List.Folds.{list_any-append}
use Rattle.std.proofs.lemmas.List.Sums.{suffix_len-le-length}
use Rattle.text_model.specs.Texts.{Text}
use Rattle.journal_references.specs.Pieces.{last}
use Rattle.journal_references.specs.Parts.{Match}
use Rattle.journal_references.specs.Forms.{forms, match_form}
use Rattle.journal_references.specs.References.{Reference, is_inside, is_loose, tight, reference_of, reference_at, or_other, first_reference}
use Rattle.journal_references.specs.References.{reference_in}
use Rattle.journal_references.specs.Written.{written, written_parts, ArePlain}
use Rattle.journal_references.proofs.Beginnings.{volume_first}
use Rattle.journal_references.proofs.Starts.{IsStart, reaches}
use Rattle.journal_references.proofs.Found.{form_of, is_sound, all_sound}
use Rattle.journal_references.proofs.Names.{form_starts}
use Rattle.journal_references.proofs.WrittenPieces.{digit_front}
use Rattle.journal_references.proofs.WrittenParts.{found, form_read}
use Rattle.std.proofs.lemmas.Bool.{and_parts}

-- ---- the first place

first_is : (text : Text) (k left n : ℕ) (r : Reference) → ((j : ℕ) → n ≤ j → j < n + k → reference_at text j ≡ None)
    → reference_at text (n + k) ≡ Some r → k < left → first_reference text n left ≡ Some r
first_is text k zero n r none here less = absurd (omega (arith, less))
first_is text zero (suc left) n r none here less =
    let same : n ≡ n + 0 = omega arith in
    ap (λ o. or_other o (first_reference text (n + 1) left)) (ap (λ j. reference_at text j) same ∙ here)
first_is text (suc k) (suc left) n r none here less =
    let same : n + 1 + k ≡ n + suc k = omega arith in
    ap (λ o. or_other o (first_reference text (n + 1) left)) (none n (omega arith) (omega arith))
    ∙ first_is text k left (n + 1) r (λ j low high. none j (omega (arith, low)) (omega (arith, high))) (ap (λ j. reference_at text j) same ∙ here)
    (omega (arith, less))

no_match : (t : Text) → (IsStart t → ⊥) → match_form t ≡ None
no_match t never = by_match (match_form t) refl
  where
    by_match : (o : Option Match) → match_form t ≡ o → o ≡ None
    by_match None e = refl
    by_match (Some m) e =
        let of = form_of is_sound forms t m all_sound e in
        absurd (never (form_starts of.form t m (and_parts _ _ of.passes).0 of.matches))

none_at : (text : Text) (j : ℕ) → (IsStart (drop j text) → ⊥) → reference_at text j ≡ None
none_at text j never = by_inside (is_inside (last (take j text)))
  where
    by_inside : (c : Bool) → option_map (reference_of (tight (take j text))) (cond c None (match_form (drop j text))) ≡ None
    by_inside true = refl
    by_inside false = ap (λ o. option_map (reference_of (tight (take j text))) o) (no_match (drop j text) never)

-- ---- no place in a name without a digit

right_false : (x y : Bool) → (x || y) ≡ false → y ≡ false
right_false true y h = cc
right_false false y h = h

left_false : (x y : Bool) → (x || y) ≡ false → x ≡ false
left_false true y h = cc
left_false false y h = refl

drop_any : (n : ℕ) (s : Text) → list_any is_ascii_digit s ≡ false → list_any is_ascii_digit (drop n s) ≡ false
drop_any zero s h = h
drop_any (suc n) [] h = h
drop_any (suc n) (b ∷ s) h = drop_any n s (right_false (is_ascii_digit b) (list_any is_ascii_digit s) h)

-- a digit comes before the first comma at a place where a reference begins
no_digit : (s x : Text) → list_any is_ascii_digit s ≡ false → reaches (s ++ 0x2c ∷ x) ≡ true → ⊥
no_digit [] x h reached = cc
no_digit (b ∷ s) x h reached =
    let none = left_false (is_ascii_digit b) (list_any is_ascii_digit s) h in
    let later : (not (b == 0x2c) && reaches (s ++ 0x2c ∷ x)) ≡ true =
    sym (ap (λ c. c || (not (b == 0x2c) && reaches (s ++ 0x2c ∷ x))) none) ∙ reached in
    no_digit s x (right_false (is_ascii_digit b) (list_any is_ascii_digit s) h) (and_parts (not (b == 0x2c)) (reaches (s ++ 0x2c ∷ x)) later).1

no_start : (s x : Text) → list_any is_ascii_digit s ≡ false → IsStart (s ++ 0x2c ∷ x) → ⊥
no_start s x h start = no_digit s x h start.reached

none_before : (name x : Text) → list_any is_ascii_digit name ≡ false → (j : ℕ) → j < length name + 2
    → reference_at (name ++ 0x2c ∷ 0x20 ∷ x) j ≡ None
none_before name x h j less = none_at (name ++ 0x2c ∷ 0x20 ∷ x) j (by_place (ltb (length name) j) refl)
  where
    space : false ≡ true → ⊥
    space e = cc

    by_place : (c : Bool) → ltb (length name) j ≡ c → IsStart (drop j (name ++ 0x2c ∷ 0x20 ∷ x)) → ⊥
    by_place false e start =
        no_start (drop j name) (0x20 ∷ x) (drop_any j name h)
        (subst IsStart (drop-append-le j name (0x2c ∷ 0x20 ∷ x) (ltb-false (length name) j e)) start)
    by_place true e start =
        let first : length (name ++ 0x2c ∷ []) ≡ j = omega (arith, less, ltb-true (length name) j e, length-append name (0x2c ∷ [])) in
        let rest : drop j (name ++ 0x2c ∷ 0x20 ∷ x) ≡ 0x20 ∷ x =
        ap (drop j) (sym (append_assoc name (0x2c ∷ []) (0x20 ∷ x))) ∙ drop_at (name ++ 0x2c ∷ []) (0x20 ∷ x) j first in
        space (subst IsStart rest start).begun

-- ---- the name

ends_of : (name : Text) → tight name ≡ name → suffix_len is_loose name ≡ 0
ends_of name e = omega (arith, ap length e, length-take (length name - suffix_len is_loose name) name, suffix_len-le-length is_loose name)

abbrev front : Text → Text
front name = name ++ 0x2c ∷ 0x20 ∷ []

front_ends : (name : Text) → tight name ≡ name → suffix_len is_loose (front name) ≡ 2
front_ends name e =
    ap (λ s. prefix_len is_loose s) (reverse-append name (0x2c ∷ 0x20 ∷ [])) ∙ ap (λ n. 1 + (1 + n)) (ends_of name e)

front_tight : (name : Text) → tight name ≡ name → tight (front name) ≡ name
front_tight name e =
    let short : length name ≡ length (front name) - 2 = omega (arith, length-append name (0x2c ∷ 0x20 ∷ [])) in
    ap (λ n. take (length (front name) - n) (front name)) (front_ends name e)
    ∙ take_at name (0x2c ∷ 0x20 ∷ []) (length (front name) - 2) short

front_last : (name : Text) → last (front name) ≡ 0x20
front_last name =
    let at : length (front name) - 1 ≡ length name + 1 = omega (arith, length-append name (0x2c ∷ 0x20 ∷ [])) in
    ap (λ k. get_or (front name) k 0) at ∙ get_or-append-add name (0x2c ∷ 0x20 ∷ []) 1 0

-- ---- the reference

found_at : (name body : Text) (m : Match) → tight name ≡ name → match_form body ≡ Some m
    → reference_at (name ++ 0x2c ∷ 0x20 ∷ body) (length name + 2) ≡ Some (reference_of name m)
found_at name body m e is =
    let text : Text = name ++ 0x2c ∷ 0x20 ∷ body in
    let p = length name + 2 in
    let whole : text ≡ front name ++ body = sym (append_assoc name (0x2c ∷ 0x20 ∷ []) body) in
    let long : length (front name) ≡ p = omega (arith, length-append name (0x2c ∷ 0x20 ∷ [])) in
    let before : take p text ≡ front name = ap (take p) whole ∙ take_at (front name) body p long in
    let after : drop p text ≡ body = ap (drop p) whole ∙ drop_at (front name) body p long in
    ap (λ x. option_map (reference_of (tight x)) (cond (is_inside (last x)) None (match_form (drop p text)))) before
    ∙ ap (λ b. option_map (reference_of (tight (front name))) (cond (is_inside b) None (match_form (drop p text)))) (front_last name)
    ∙ ap (λ x. option_map (reference_of (tight (front name))) (match_form x)) after
    ∙ ap (λ o. option_map (reference_of (tight (front name))) o) is
    ∙ ap (λ x. Some (reference_of x m)) (front_tight name e)

any_first : (t : Text) → is_ascii_digit (get_or t 0 0) ≡ true → list_any is_ascii_digit t ≡ true
any_first [] h = cc
any_first (b ∷ t) h = or_left (is_ascii_digit b) (list_any is_ascii_digit t) h

short_is : (n : ℕ) → n ≤ 500 → nat_le n 500 ≡ true
short_is n h = grind (arith, nat_tests)

pub written_read : (name volume issue pages : Text) → ArePlain name volume issue pages
    → reference_in (written name volume issue pages) ≡ Some (written_parts name volume issue pages)
written_read name volume issue pages are =
    let rest : Text = 0x28 ∷ (issue ++ (0x29 ∷ 0x2c ∷ 0x20 ∷ pages)) in
    let body : Text = volume ++ rest in
    let text : Text = name ++ 0x2c ∷ 0x20 ∷ body in
    let first = digit_front volume rest (volume_first volume are.of_volume.1) in
    let digit : list_any is_ascii_digit text ≡ true =
    list_any-append is_ascii_digit name (0x2c ∷ 0x20 ∷ body)
    ∙ or_right (list_any is_ascii_digit name) (list_any is_ascii_digit body) (any_first body first) in
    let long : length name + 2 < length text =
    omega (arith, length-append name (0x2c ∷ 0x20 ∷ body), length-append volume rest) in
    let m = found (Some volume) (Some issue) (Some pages) [] in
    let read = form_read volume issue pages are.of_volume are.of_issue are.issue_begins are.of_pages are.pages_begin are.no_year in
    let none : (j : ℕ) → 0 ≤ j → j < 0 + (length name + 2) → reference_at text j ≡ None =
    λ j low high. none_before name body are.digitless j (omega (arith, high)) in
    let start : 0 + (length name + 2) ≡ length name + 2 = omega arith in
    ap (λ c. cond (c && list_any is_ascii_digit text) (first_reference text 0 (length text)) None) (short_is (length text) are.short)
    ∙ ap (λ c. cond c (first_reference text 0 (length text)) None) digit
    ∙ first_is text (length name + 2) (length text) 0 (written_parts name volume issue pages) none
    (ap (λ k. reference_at text k) start ∙ found_at name body m are.ends_tightly read) long
