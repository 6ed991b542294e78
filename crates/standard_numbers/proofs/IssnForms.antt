-- ISSNs by their halves.
use Rattle.std.proofs.Common.{◌≡◌, ℕ, zero, suc, ◌+◌, ◌-◌, ◌≤◌, [], ◌∷◌, ◌++◌, Bool, true, false, cond, Some, None, length, get_or, take, drop, refl, ap}
use Rattle.std.proofs.Common.{◌∙◌, ◌<◌, ◌&&◌, sym, subst, arith}
use Rattle.std.specs.Char.{is_ascii_digit}
use Rattle.std.specs.List.{list_all}
use Rattle.std.proofs.lemmas.Bool.{and_parts, and_from, eqb-true, eq-eqb, cond_both}
use Rattle.std.proofs.lemmas.List.{take_at, get_or_at, take-take, drop-take, length-take, length-take-le, length-drop, take-append-drop, drop_more}
use Rattle.text_model.specs.Texts.{Text}
use Rattle.standard_numbers.specs.Spellings.{hyphen, is_joint, are_digits}
use Rattle.standard_numbers.specs.Issn.{is_issn, has_halves, issn_length, issn_of}
use Rattle.standard_numbers.proofs.Forms.{length_of_digits}

pub record IsInHalves (issn : Text) : Type 0 where
  pub start : list_all is_ascii_digit (take 4 issn) ≡ true
  pub middle : get_or issn 4 0 ≡ hyphen
  pub end : are_digits 4 (drop 5 issn) ≡ true
  pub long : length issn ≡ 9

pub halves : (issn : Text) → is_issn issn ≡ true → IsInHalves issn
halves issn h =
    let a = and_parts _ _ h in
    let b = and_parts _ _ a.0 in
    let four : length (drop 5 issn) ≡ 4 = length_of_digits (drop 5 issn) 4 a.1 in
    record { start = b.0; middle = eqb-true _ _ b.1; end = a.1; long = omega (arith, length-drop 5 issn) }

-- an ISSN is its halves with a hyphen between them
pub whole : (issn : Text) → IsInHalves issn → take 4 issn ++ hyphen ∷ drop 5 issn ≡ issn
whole issn is =
    let more : drop 4 issn ≡ get_or issn 4 0 ∷ drop 5 issn = drop_more issn 4 0 (omega (arith, is.long)) in
    ap (λ b. take 4 issn ++ b ∷ drop 5 issn) (sym is.middle) ∙ ap (λ t. take 4 issn ++ t) (sym more) ∙ take-append-drop 4 issn

drop_past : (start end : Text) (n : ℕ) → length start ≡ n → drop (suc n) (start ++ hyphen ∷ end) ≡ end
drop_past [] end zero h = refl
drop_past [] end (suc n) h = absurd (omega arith)
drop_past (b ∷ start) end zero h = absurd (omega arith)
drop_past (b ∷ start) end (suc n) h = drop_past start end n (omega arith)

-- two halves make one
pub joined : (start end : Text) → length start ≡ 4 → list_all is_ascii_digit start ≡ true → are_digits 4 end ≡ true → is_issn (start ++ hyphen ∷ end) ≡ true
joined start end long digits last =
    let front : take 4 (start ++ hyphen ∷ end) ≡ start = take_at start (hyphen ∷ end) 4 long in
    let middle : get_or (start ++ hyphen ∷ end) 4 0 ≡ hyphen = get_or_at start hyphen end 0 4 long in
    let rest : drop 5 (start ++ hyphen ∷ end) ≡ end = drop_past start end 4 long in
    and_from _ _ (and_from _ _ (ap (list_all is_ascii_digit) front ∙ digits) (eq-eqb _ _ middle)) (ap (are_digits 4) rest ∙ last)

-- the digits that begin a text, with a joint in their middle or none
in_text : (half : ℕ) (t : Text) → 4 ≤ half → list_all is_ascii_digit (take 4 t) ≡ true → are_digits 4 (take 4 (drop half t)) ≡ true
    → is_issn (issn_of (take (half + 4) t)) ≡ true
in_text half t far digits last =
    let four : length (take 4 (drop half t)) ≡ 4 = length_of_digits (take 4 (drop half t)) 4 last in
    let enough : half + 4 ≤ length t = omega (arith, length-take 4 (drop half t), length-drop half t) in
    let long : length (take (half + 4) t) ≡ half + 4 = length-take-le (half + 4) t enough in
    let start : take 4 (take (half + 4) t) ≡ take 4 t = take-take 4 (half + 4) t (omega arith) in
    let short : length (take (half + 4) t) - 4 ≡ half = omega arith in
    let end : drop (length (take (half + 4) t) - 4) (take (half + 4) t) ≡ take 4 (drop half t) =
    ap (λ k. drop k (take (half + 4) t)) short ∙ drop-take half 4 t in
    let same : issn_of (take (half + 4) t) ≡ take 4 t ++ hyphen ∷ take 4 (drop half t) =
    ap (λ s. s ++ hyphen ∷ drop (length (take (half + 4) t) - 4) (take (half + 4) t)) start ∙ ap (λ s. take 4 t ++ hyphen ∷ s) end in
    ap is_issn same ∙ joined (take 4 t) (take 4 (drop half t)) (length-take-le 4 t (omega arith)) digits last

pub some_if : (b : Bool) (m n : ℕ) → cond b (Some m) None ≡ Some n → (b ≡ true) × (m ≡ n)
some_if true m n h = (refl, cc)
some_if false m n h = cc

-- what begins at a place is one
pub issn_begins : (before : ℕ) (t : Text) (n : ℕ) → issn_length before t ≡ Some n → is_issn (issn_of (take n t)) ≡ true
issn_begins before t n h =
    let half : ℕ = cond (is_joint (get_or t 4 0)) 5 4 in
    let far : 4 ≤ half = cond_both (is_joint (get_or t 4 0)) 5 4 (λ k. 4 ≤ k) (λ _. omega arith) (λ _. omega arith) in
    let is = some_if _ _ _ h in
    let a = and_parts _ _ is.0 in
    let b = and_parts _ _ a.1 in
    subst (λ k. is_issn (issn_of (take k t)) ≡ true) is.1 (in_text half t far b.0 b.1)

no_both : (a b : Bool) → b ≡ false → (a && b) ≡ false
no_both true b h = h
no_both false b h = refl

-- a text that is too short has none
pub short_halves : (half : ℕ) (t : Text) → length t < half + 4 → has_halves half t ≡ false
short_halves half t short = no_both (list_all is_ascii_digit (take 4 t)) _ (by_end (are_digits 4 (take 4 (drop half t))) refl)
  where
    by_end : (b : Bool) → are_digits 4 (take 4 (drop half t)) ≡ b → b ≡ false
    by_end true e =
        let four : length (take 4 (drop half t)) ≡ 4 = length_of_digits (take 4 (drop half t)) 4 e in
        absurd (omega (arith, four, length-take 4 (drop half t), length-drop half t, short))
    by_end false e = refl
