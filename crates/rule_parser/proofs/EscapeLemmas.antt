-- Escaped texts: no two texts have the same, and one that begins with another continues with an escaped text.
use Rattle.std.proofs.Common.{◌≡◌, ℕ, ◌<◌, ◌≤◌, [], ◌∷◌, ◌++◌, Bool, true, false, ◌==◌, ◌⊎◌, inl, inr, length, get_or, if◌then◌else◌, refl, ap, sym, ◌∙◌, arith}
use Rattle.std.proofs.lemmas.Grind.{common_steps}
use Rattle.std.proofs.Math.Bool.{beq}
use Rattle.std.specs.Char.{encode_utf8}
use Rattle.std.specs.List.{AllByRecursion}
use Rattle.std.proofs.lemmas.Bool.{or_cases, eqb-true, cases_lt, cases_Bool, both_ways}
use Rattle.std.proofs.lemmas.List.{append-nil, append_assoc}
use Rattle.std.proofs.lemmas.List.Elements.{recursion_from_All, All-from_get_or}
use Rattle.std.proofs.lemmas.Str.{encode_ascii, inside_one, length-le-encodes}
use Rattle.text_model.specs.Texts.{Text}
use Rattle.text_model.proofs.Lists.{same_parts}
use Rattle.rule_parser.specs.Statements.{escaped, is_special}

-- the text that is left, with the backslash before it if one was read and its character was not
abbrev pub waiting : Bool → Text → Text
waiting true rest = 92 ∷ rest
waiting false rest = rest

-- ---- special bytes

pub special_is : (b : ℕ) → is_special b ≡ true → (b ≡ 34) ⊎ (b ≡ 92)
special_is b h = elim (or_cases (b == 34) (b == 92) h) [ inl e ↦ inl (eqb-true b 34 e) | inr e ↦ inr (eqb-true b 92 e) ]

special_is_ascii : (b : ℕ) → is_special b ≡ true → b < 128
special_is_ascii b h = elim (special_is b h) [ inl e ↦ omega (arith, e) | inr e ↦ omega (arith, e) ]

large_is_plain : (b : ℕ) → 128 ≤ b → is_special b ≡ false
large_is_plain b h = elim (cases_Bool (is_special b)) [ inl e ↦ absurd (omega (arith, special_is_ascii b e)) | inr e ↦ e ]

encode_is_not_empty : (c : ℕ) → 0 < length (encode_utf8 c)
encode_is_not_empty c = let h : 1 ≤ length (encode_utf8 c ++ []) = length-le-encodes (c ∷ []) in rw append-nil at h

abbrev pub ArePlain : Text → Type 0
ArePlain bs = AllByRecursion (λ b. is_special b ≡ false) bs

-- a character beyond ASCII has no byte of ASCII
pub plain_bytes : (c : ℕ) → is_special c ≡ false → ArePlain (encode_utf8 c)
plain_bytes c h =
    recursion_from_All (λ b. is_special b ≡ false) (encode_utf8 c) (All-from_get_or (λ b. is_special b ≡ false) (encode_utf8 c) 0 each)
  where
    each : (i : ℕ) → i < length (encode_utf8 c) → is_special (get_or (encode_utf8 c) i 0) ≡ false
    each i l =
        elim (cases_lt (get_or (encode_utf8 c) i 0) 128) [
          | inl small ↦ ap is_special (sym (inside_one c [] (encode_utf8 c) i (sym (append-nil (encode_utf8 c))) l small)) ∙ h
          | inr large ↦ large_is_plain (get_or (encode_utf8 c) i 0) large
        ]

-- ---- escaping, byte by byte

escaped_step : (x : Bool) (b : ℕ) (t : Text) → is_special b ≡ x → escaped (b ∷ t) ≡ (if x then (92 ∷ b ∷ escaped t) else (b ∷ escaped t))
escaped_step x b t e = ap (λ (y : Bool). if y then (92 ∷ b ∷ escaped t) else (b ∷ escaped t)) e

pub escaped_special : (b : ℕ) (t : Text) → is_special b ≡ true → escaped (b ∷ t) ≡ 92 ∷ b ∷ escaped t
escaped_special b t e = escaped_step true b t e

pub escaped_plain : (b : ℕ) (t : Text) → is_special b ≡ false → escaped (b ∷ t) ≡ b ∷ escaped t
escaped_plain b t e = escaped_step false b t e

pub escaped-append : (xs ys : Text) → escaped (xs ++ ys) ≡ escaped xs ++ escaped ys
escaped-append [] ys = refl
escaped-append (b ∷ xs) ys =
    elim (cases_Bool (is_special b)) [
      | inl e ↦ escaped_special b (xs ++ ys) e ∙ ap (λ t. 92 ∷ b ∷ t) (escaped-append xs ys) ∙ sym (ap (λ t. t ++ escaped ys) (escaped_special b xs e))
      | inr e ↦ escaped_plain b (xs ++ ys) e ∙ ap (λ t. b ∷ t) (escaped-append xs ys) ∙ sym (ap (λ t. t ++ escaped ys) (escaped_plain b xs e))
    ]

pub escaped_plain_text : (bs : Text) → ArePlain bs → escaped bs ≡ bs
escaped_plain_text [] h = refl
escaped_plain_text (b ∷ bs) h = escaped_plain b bs h.0 ∙ ap (λ t. b ∷ t) (escaped_plain_text bs h.1)

-- a byte cannot be special and plain
not_both : (b d : ℕ) → is_special b ≡ false → b ≡ d → is_special d ≡ true → ⊥
not_both b d p e s = both_ways (is_special b) p (ap is_special e ∙ s)

rest_after_bytes : (d b : ℕ) (t s more : Text) → (escaped t ≡ escaped s ++ more → (u : Text) × (escaped u ≡ more)) → escaped (d ∷ t) ≡ escaped (b ∷ s) ++ more
    → (u : Text) × (escaped u ≡ more)
rest_after_bytes d b t s more next e = grind (arith, common_steps)

-- a text cannot be both empty and not empty
not_empty : (x : ℕ) (t : Text) → [] ≡ x ∷ t → ⊥
not_empty x t e = cc

-- an escaped text that begins with another escaped text continues with an escaped text
pub escaped_rest : (t s more : Text) → escaped t ≡ escaped s ++ more → (u : Text) × (escaped u ≡ more)
escaped_rest t [] more e = (t, e)
escaped_rest [] (b ∷ s) more e = grind (arith, common_steps)
escaped_rest (d ∷ t) (b ∷ s) more e = rest_after_bytes d b t s more (escaped_rest t s more) e

bytes_same : (d b : ℕ) (t u : Text) → (escaped t ≡ escaped u → t ≡ u) → escaped (d ∷ t) ≡ escaped (b ∷ u) → d ∷ t ≡ b ∷ u
bytes_same d b t u next e = grind (arith, common_steps)

-- a text is determined by its escaped form
pub escaped_same : (t u : Text) → escaped t ≡ escaped u → t ≡ u
escaped_same [] [] e = refl
escaped_same [] (b ∷ u) e = grind (arith, common_steps)
escaped_same (d ∷ t) [] e = grind (arith, common_steps)
escaped_same (d ∷ t) (b ∷ u) e = bytes_same d b t u (escaped_same t u) e

-- a bare quote
pub not_quote : (u more : Text) → escaped u ≡ 34 ∷ more → ⊥
not_quote [] more e = not_empty _ _ e
not_quote (b ∷ u) more e = grind (arith, common_steps)

-- a special byte at the beginning
abbrev BeginsSpecial : Text → Type 0
BeginsSpecial text = (b : ℕ) × (rest : Text) × (text ≡ b ∷ rest) × (is_special b ≡ true)

-- a backslash has a special byte after it
pub after_backslash : (u more : Text) → escaped u ≡ 92 ∷ more → BeginsSpecial more
after_backslash [] more e = absurd (not_empty _ _ e)
after_backslash (b ∷ u) more e = grind (arith, common_steps)

-- a character's first byte
plain_first : (bs next : Text) → ArePlain bs → 0 < length bs → BeginsSpecial (bs ++ next) → ⊥
plain_first [] next p l h = absurd (omega arith)
plain_first (d ∷ bs) next p l h = not_both d h.0 p.0 (same_parts _ _ _ _ h.2).0 h.3

-- ---- the steps of the reader

-- the next character denotes itself
pub escaped_more : (whole t rest next : Text) (c : ℕ) (waits : Bool) → is_special c ≡ waits → whole ≡ escaped t ++ waiting waits rest
    → rest ≡ encode_utf8 c ++ next
    → whole ≡ escaped (t ++ encode_utf8 c) ++ next
escaped_more whole t rest next c true s w r = grind (arith, encode_ascii, escaped_special, escaped-append, append_assoc)
escaped_more whole t rest next c false s w r = grind (arith, escaped_plain_text, plain_bytes, escaped-append, append_assoc)

-- no escaped text begins with the next character
pub not_escaped : (whole t rest next : Text) (c : ℕ) (waits : Bool) → (is_special c ≡ waits → ⊥) → (c ≡ 92 → ⊥) → whole ≡ escaped t ++ waiting waits rest
    → rest ≡ encode_utf8 c ++ next → (u : Text) → whole ≡ escaped u → ⊥
not_escaped whole t rest next c true s n w r u e =
    let plain : is_special c ≡ false = elim (cases_Bool (is_special c)) [ inl y ↦ absurd (s y) | inr y ↦ y ] in
    let tail = escaped_rest u t (92 ∷ rest) (sym e ∙ w) in
    let following = after_backslash tail.0 rest tail.1 in
    plain_first (encode_utf8 c) next (plain_bytes c plain) (encode_is_not_empty c) (following.0, following.1, sym r ∙ following.2, following.3)
not_escaped whole t rest next c false s n w r u e =
    let x : is_special c ≡ true = elim (cases_Bool (is_special c)) [ inl y ↦ y | inr y ↦ absurd (s y) ] in
    let quote : c ≡ 34 = elim (special_is c x) [ inl y ↦ y | inr y ↦ absurd (n y) ] in
    let alone : encode_utf8 c ≡ c ∷ [] = encode_ascii c (special_is_ascii c x) in
    let tail = escaped_rest u t rest (sym e ∙ w) in
    not_quote tail.0 next (tail.1 ∙ r ∙ ap (λ v. v ++ next) alone ∙ ap (λ v. v ∷ next) quote)

-- a backslash at the end, without its character
pub not_escaped_at_end : (whole t rest : Text) (waits : Bool) → waits ≡ true → length rest ≡ 0 → whole ≡ escaped t ++ waiting waits rest → (u : Text)
    → whole ≡ escaped u → ⊥
not_escaped_at_end whole t (b ∷ rest) waits x l w u e = absurd (omega (arith, l))
not_escaped_at_end whole t [] false x l w u e = cc
not_escaped_at_end whole t [] true x l w u e = grind (arith, escaped_rest, after_backslash)

-- ---- a test whether two Booleans are equal

pub same_answers : (x y : Bool) → beq x y ≡ true → x ≡ y
same_answers true true e = refl
same_answers true false e = cc
same_answers false true e = cc
same_answers false false e = refl

pub other_answers : (x y : Bool) → beq x y ≡ false → x ≡ y → ⊥
other_answers true true e h = cc
other_answers true false e h = cc
other_answers false true e h = cc
other_answers false false e h = cc
