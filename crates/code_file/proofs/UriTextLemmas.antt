-- URI text read from the left: what the loop of a reader needs to know of the set, whose texts are extended at the end.
use Rattle.std.proofs.Common.{◌≡◌, ◌<◌, ◌≤◌, ◌⊎◌, ℕ, Bool, true, false, [], ◌∷◌, ◌++◌, length, drop, get_or, refl, ◌∙◌, subst, inl, inr, append_assoc, arith}
use Rattle.std.proofs.Common.{cond}
use Rattle.std.specs.Prelude.{◌==◌}
use Rattle.std.proofs.lemmas.List.{append-nil}
use Rattle.std.proofs.lemmas.Bool.{and_parts, eqb-true, ne_eqb}
use Rattle.text_model.specs.Texts.{Text, begins_with_triplet, is_hexadecimal, is_triplet}
use Rattle.text_model.specs.Writing.{is_unreserved_or_reserved}
use Rattle.code_file.specs.Private.FromLeft.{is_uri_text}
use Rattle.text_model.specs.UriText.{IsUriText, nothing, and_character, and_triplet}
use Rattle.text_model.proofs.Unchanged.{not_percent}

-- the two cases of a test
pub chosen : (q x y : Bool) → cond q x y ≡ true → ((q ≡ true) × (x ≡ true)) ⊎ ((q ≡ false) × (y ≡ true))
chosen true x y h = inl (refl, h)
chosen false x y h = inr (refl, h)

no_triplet : (b high low : ℕ) → is_unreserved_or_reserved b ≡ true → is_triplet b high low ≡ false
no_triplet b high low h = rw (ne_eqb b 37 (not_percent b h)) refl

pub is_uri_text-character : (b : ℕ) (t : Text) → is_unreserved_or_reserved b ≡ true → is_uri_text (b ∷ t) ≡ is_uri_text t
unfolding is_uri_text
is_uri_text-character b [] h = h
is_uri_text-character b (c ∷ []) h = rw h refl
is_uri_text-character b (high ∷ low ∷ t) h = rw (no_triplet b high low h, h) refl

pub is_uri_text-triplet : (high low : ℕ) (t : Text) → is_hexadecimal high ≡ true → is_hexadecimal low ≡ true
    → is_uri_text (37 ∷ high ∷ low ∷ t) ≡ is_uri_text t
unfolding is_uri_text
is_uri_text-triplet high low t h l = rw (h, l) refl

-- URI text followed by more URI text
grows : (s : Text) (t : Text) → is_uri_text t ≡ true → IsUriText s → IsUriText (s ++ t)
unfolding is_uri_text
grows s [] h u = rw append-nil u
grows s (b ∷ []) h u = and_character s b u h
grows s (b ∷ c ∷ []) h u =
    let e = and_parts _ _ h in
    subst IsUriText (append_assoc s (b ∷ []) (c ∷ [])) (and_character (s ++ b ∷ []) c (and_character s b u e.0) e.1)
grows s (b ∷ high ∷ low ∷ t) h u =
    let more : is_uri_text t ≡ true → IsUriText (s ++ 37 ∷ high ∷ low ∷ []) → IsUriText ((s ++ 37 ∷ high ∷ low ∷ []) ++ t) = λ g v. grows _ t g v in
    let one : is_uri_text (high ∷ low ∷ t) ≡ true → IsUriText (s ++ b ∷ []) → IsUriText ((s ++ b ∷ []) ++ (high ∷ low ∷ t)) = λ g v. grows _ (high ∷ low ∷ t) g
    v in
    elim (chosen (is_triplet b high low) _ _ h) [
      | inl p ↦
          let e = and_parts _ _ p.0 in
          let hex = and_parts _ _ e.1 in
          let is_percent : b ≡ 37 = eqb-true b 37 e.0 in
          rw (is_percent, ← append_assoc s (37 ∷ high ∷ low ∷ []) t) (more p.1 (and_triplet s high low u hex.0 hex.1))
      | inr p ↦
          let e = and_parts _ _ p.1 in
          subst IsUriText (append_assoc s (b ∷ []) (high ∷ low ∷ t)) (one e.1 (and_character s b u e.0))
    ]

pub IsUriText-from_left : (t : Text) → is_uri_text t ≡ true → IsUriText t
IsUriText-from_left t h = grows [] t h nothing

joins : (s t : Text) → is_uri_text s ≡ true → is_uri_text t ≡ true → is_uri_text (s ++ t) ≡ true
unfolding is_uri_text
joins [] t h g = g
joins (b ∷ []) t h g = is_uri_text-character b t h ∙ g
joins (b ∷ c ∷ []) t h g =
    let e = and_parts _ _ h in
    is_uri_text-character b (c ∷ t) e.0 ∙ (is_uri_text-character c t e.1 ∙ g)
joins (b ∷ high ∷ low ∷ s) t h g =
    let more : is_uri_text s ≡ true → is_uri_text (s ++ t) ≡ true = λ k. joins s t k g in
    let one : is_uri_text (high ∷ low ∷ s) ≡ true → is_uri_text ((high ∷ low ∷ s) ++ t) ≡ true = λ k. joins (high ∷ low ∷ s) t k g in
    elim (chosen (is_triplet b high low) _ _ h) [
      | inl p ↦ rw p.0 (more p.1)
      | inr p ↦ grind (arith, and_parts, one)
    ]

pub is_uri_text-from_set : {t : Text} → IsUriText t → is_uri_text t ≡ true
unfolding is_uri_text
is_uri_text-from_set nothing = refl
is_uri_text-from_set (and_character t b u h) = joins t (b ∷ []) (is_uri_text-from_set u) h
is_uri_text-from_set (and_triplet t high low u h l) =
    joins t (37 ∷ high ∷ low ∷ []) (is_uri_text-from_set u) (is_uri_text-triplet high low [] h l)

-- ---- what a reader's step needs

pub begins_with_triplet_reads : (bs : Text) → 3 ≤ length bs
    → begins_with_triplet bs ≡ is_triplet (get_or bs 0 0) (get_or bs 1 0) (get_or bs 2 0)
begins_with_triplet_reads [] h = absurd (omega arith)
begins_with_triplet_reads (b ∷ []) h = absurd (omega arith)
begins_with_triplet_reads (b ∷ c ∷ []) h = absurd (omega arith)
begins_with_triplet_reads (b ∷ c ∷ d ∷ t) h = refl

pub begins_with_triplet_short : (bs : Text) → length bs < 3 → begins_with_triplet bs ≡ false
begins_with_triplet_short [] h = refl
begins_with_triplet_short (b ∷ []) h = refl
begins_with_triplet_short (b ∷ c ∷ []) h = refl
begins_with_triplet_short (b ∷ c ∷ d ∷ t) h = absurd (omega arith)

pub after_triplet : (bs : Text) → begins_with_triplet bs ≡ true → (is_uri_text bs ≡ is_uri_text (drop 3 bs)) × (3 ≤ length bs)
unfolding is_uri_text
after_triplet [] h = cc
after_triplet (b ∷ []) h = cc
after_triplet (b ∷ c ∷ []) h = cc
after_triplet (b ∷ high ∷ low ∷ t) h = (rw h refl, omega arith)

pub after_character : (bs : Text) → 0 < length bs → is_unreserved_or_reserved (get_or bs 0 0) ≡ true
    → is_uri_text bs ≡ is_uri_text (drop 1 bs)
after_character [] n h = absurd (omega arith)
after_character (b ∷ t) n h = is_uri_text-character b t h

pub after_neither : (bs : Text) → 0 < length bs → begins_with_triplet bs ≡ false
    → is_unreserved_or_reserved (get_or bs 0 0) ≡ false → is_uri_text bs ≡ false
unfolding is_uri_text
after_neither [] n h g = absurd (omega arith)
after_neither (b ∷ []) n h g = g
after_neither (b ∷ c ∷ []) n h g = rw g refl
after_neither (b ∷ high ∷ low ∷ t) n h g = rw (h, g) refl

pub is_uri_text-empty : (bs : Text) → (length bs == 0) ≡ true → is_uri_text bs ≡ true
unfolding is_uri_text
is_uri_text-empty [] h = refl
is_uri_text-empty (b ∷ t) h = let e = eqb-true (length (b ∷ t)) 0 h in absurd (omega arith)
