-- The parts of a guard, each of which a text has or has not: a first word, a quoted text, bounds.

use Rattle.std.proofs.Common.{◌≡◌, ◌≢◌, ℕ, [], ◌∷◌, ◌++◌, true, false, Option, Some, None, ◌⊎◌, inl, inr, length, refl, ap, subst, sym, ◌∙◌, codes, arith}
use Rattle.std.specs.Char.{is_ascii_digit}
use Rattle.std.specs.Cmp.Lexicographic.{bytes_decides}
use Rattle.std.specs.List.{list_all}
use Rattle.std.specs.Str.{bytes_eq}
use Rattle.std.proofs.lemmas.Grind.{common_steps}
use Rattle.std.proofs.lemmas.Bool.{both_ways, cases_Bool, cases_eq, cases_lt}
use Rattle.text_model.specs.Texts.{Text}
use Rattle.rule_parser.specs.declared.rule.Bound.{Bound}
use Rattle.rule_parser.specs.declared.rule.Bound.TheVariants as bound
use Rattle.rule_parser.specs.Statements.{escaped, is_special}
use Rattle.rule_parser.specs.Private.Reading.{ReadsEscaped, ReadsQuoted, ReadsBound, ReadsBounds, IsToken}
use Rattle.rule_parser.proofs.NameChoice.{name_choice}
use Rattle.rule_parser.proofs.EscapeLemmas.{escaped_special, escaped_plain, escaped_rest, special_is, not_quote, after_backslash}
use Rattle.rule_parser.proofs.GuardLemmas.{quoted_reads, not_quoted, not_closed, no_bound, no_bounds_in_token, no_bounds_without_to, no_bounds_without_low}
use Rattle.rule_parser.proofs.GuardLemmas.{no_bounds_without_high, bounds_read}

-- ---- texts

pub text_choice : (x y : Text) → (x ≡ y) ⊎ (x ≢ y)
text_choice x y =
    elim (cases_Bool (bytes_eq x y)) [
      | inl e ↦ inl ((bytes_decides x y).0 e)
      | inr e ↦ inr (λ s. both_ways (bytes_eq x y) e ((bytes_decides x y).1 s))
    ]

-- a text begins with another, or it does not
pub front_choice : (front text : Text) → ((rest : Text) × (text ≡ front ++ rest)) ⊎ ((rest : Text) → text ≢ front ++ rest)
front_choice [] text = inl (text, refl)
front_choice (x ∷ front) [] = inr (λ rest e. cc)
front_choice (x ∷ front) (y ∷ text) = by_case (cases_eq y x) (front_choice front text)
  where
    by_case : (y ≡ x) ⊎ (y ≡ x → ⊥) → ((rest : Text) × (text ≡ front ++ rest)) ⊎ ((rest : Text) → text ≢ front ++ rest)
        → ((rest : Text) × (y ∷ text ≡ x ∷ front ++ rest)) ⊎ ((rest : Text) → y ∷ text ≢ x ∷ front ++ rest)
    by_case h c = grind (arith, common_steps)

-- a byte ends a text, or it does not
end_choice : (c : ℕ) (text : Text) → ((front : Text) × (text ≡ front ++ c ∷ [])) ⊎ ((front : Text) → text ≢ front ++ c ∷ [])
end_choice c [] = grind (arith, common_steps)
end_choice c (b ∷ text) = by_case text (cases_eq b c) (end_choice c text)
  where
    by_case : (t : Text) → (b ≡ c) ⊎ (b ≡ c → ⊥) → ((front : Text) × (t ≡ front ++ c ∷ [])) ⊎ ((front : Text) → t ≢ front ++ c ∷ [])
        → ((front : Text) × (b ∷ t ≡ front ++ c ∷ [])) ⊎ ((front : Text) → b ∷ t ≢ front ++ c ∷ [])
    by_case t d (inl r) = inl (b ∷ r.0, ap (λ s. b ∷ s) r.1)
    by_case [] (inl e) (inr n) = inl ([], ap (λ x. x ∷ []) e)
    by_case [] (inr d) (inr n) = grind (arith, common_steps)
    by_case (y ∷ t) d (inr n) = inr refuted
      where
        refuted : (front : Text) → b ∷ y ∷ t ≢ front ++ c ∷ []
        refuted [] e = cc
        refuted (x ∷ front) e = n front (cc)

-- a text is split at its first space, or it has none
pub space_choice : (text : Text) → IsToken text ⊎ ((token : Text) × (rest : Text) × (text ≡ token ++ 32 ∷ rest) × IsToken token)
space_choice [] = inl tt
space_choice (b ∷ text) = by_case (cases_eq b 32) (space_choice text)
  where
    by_case : (b ≡ 32) ⊎ (b ≢ 32) → IsToken text ⊎ ((token : Text) × (rest : Text) × (text ≡ token ++ 32 ∷ rest) × IsToken token)
        → IsToken (b ∷ text) ⊎ ((token : Text) × (rest : Text) × (b ∷ text ≡ token ++ 32 ∷ rest) × IsToken token)
    by_case (inl e) c = inr ([], text, ap (λ x. x ∷ text) e, tt)
    by_case (inr d) (inl w) = inl (d, w)
    by_case (inr d) (inr c) = inr (b ∷ c.0, c.1, ap (λ t. b ∷ t) c.2, (d, c.3))

-- ---- quoted texts

plain_more : (b : ℕ) (t : Text) → is_special b ≡ false → (read : Option Text) × ReadsEscaped t read → (read : Option Text) × ReadsEscaped (b ∷ t) read
plain_more b t p (Some u, e) = (Some (b ∷ u), ap (λ x. b ∷ x) e ∙ sym (escaped_plain b u p))
plain_more b t p (None, n) = (
  None,
  λ v e.
      let rest = escaped_rest v (b ∷ []) t (sym e ∙ sym (ap (λ x. x ++ t) (escaped_plain b [] p))) in
      n rest.0 (sym rest.1),
)

special_more : (b : ℕ) (t : Text) → is_special b ≡ true → (read : Option Text) × ReadsEscaped t read → (read : Option Text) × ReadsEscaped (92 ∷ b ∷ t) read
special_more b t s (Some u, e) = (Some (b ∷ u), ap (λ x. 92 ∷ b ∷ x) e ∙ sym (escaped_special b u s))
special_more b t s (None, n) = (
  None,
  λ v e.
      let rest = escaped_rest v (b ∷ []) t (sym e ∙ sym (ap (λ x. x ++ t) (escaped_special b [] s))) in
      n rest.0 (sym rest.1),
)

no_special : (b : ℕ) (t : Text) → is_special b ≡ false → (v : Text) → 92 ∷ b ∷ t ≡ escaped v → ⊥
no_special b t p v e = grind (arith, after_backslash)

no_end : (v : Text) → 92 ∷ [] ≡ escaped v → ⊥
no_end v e = let following = after_backslash v [] (sym e) in let none : [] ≡ following.0 ∷ following.1 = following.2 in cc

escaped_choice : (text : Text) → (read : Option Text) × ReadsEscaped text read
escaped_choice [] = (Some [], refl)
escaped_choice (b ∷ []) =
    elim (cases_Bool (is_special b)) [
      | inr p ↦ plain_more b [] p (Some [], refl)
      | inl s ↦ elim (special_is b s) [
        | inl quote ↦ (None, λ v e. not_quote v [] (sym e ∙ ap (λ x. x ∷ []) quote))
        | inr backslash ↦ (None, λ v e. no_end v (sym (ap (λ x. x ∷ []) backslash) ∙ e))
      ]
    ]
escaped_choice (b ∷ c ∷ text) = by_case (cases_Bool (is_special b)) (escaped_choice (c ∷ text)) (escaped_choice text)
  where
    by_case : (is_special b ≡ true) ⊎ (is_special b ≡ false) → (read : Option Text) × ReadsEscaped (c ∷ text) read → (read : Option Text)
        × ReadsEscaped text read
        → (read : Option Text) × ReadsEscaped (b ∷ c ∷ text) read
    by_case (inr p) following more = plain_more b (c ∷ text) p following
    by_case (inl s) following more =
        elim (special_is b s) [
          | inl quote ↦ (None, λ v e. not_quote v (c ∷ text) (sym e ∙ ap (λ x. x ∷ c ∷ text) quote))
          | inr backslash ↦ subst (λ x. (read : Option Text) × ReadsEscaped (x ∷ c ∷ text) read) (sym backslash)
              (elim (cases_Bool (is_special c)) [ inl t ↦ special_more c text t more | inr p ↦ (None, no_special c text p) ])
        ]

pub quoted_choice : (value : Text) → (read : Option Text) × ReadsQuoted value read
quoted_choice value =
    elim (front_choice (34 ∷ []) value) [
      | inr n ↦ (None, not_quoted value n)
      | inl v ↦ elim (end_choice 34 v.0) [
        | inr n ↦ (None, not_closed value v.0 v.1 n)
        | inl r ↦ let read = escaped_choice r.0 in (read.0, quoted_reads value v.0 r.0 read.0 v.1 r.1 read.1)
      ]
    ]

-- ---- bounds

digits_choice : (token : Text) → list_all is_ascii_digit token ≡ true → (token ≡ codes "*" → ⊥) → (read : Option Bound) × ReadsBound token read
digits_choice token d star =
    elim (cases_lt (length token) 1) [
      | inl short ↦ (None, no_bound token star (λ _ l m. omega (arith, short, l)) (λ n e. both_ways (list_all is_ascii_digit token) e d))
      | inr some ↦ elim (cases_lt 9 (length token)) [
        | inl long ↦ (None, no_bound token star (λ _ l m. omega (arith, long, m)) (λ n e. both_ways (list_all is_ascii_digit token) e d))
        | inr few ↦ (Some (bound.Digits token), ((d, some, few), refl))
      ]
    ]

name_bound_choice : (token : Text) → list_all is_ascii_digit token ≡ false → (token ≡ codes "*" → ⊥) → (read : Option Bound) × ReadsBound token read
name_bound_choice token d star =
    elim (name_choice token) [
      | inl n ↦ (Some (bound.Name token), ((n, d), refl))
      | inr n ↦ (None, no_bound token star (λ e _ _. both_ways (list_all is_ascii_digit token) d e) (λ m _. n m))
    ]

bound_choice : (token : Text) → (read : Option Bound) × ReadsBound token read
bound_choice token =
    elim (text_choice token (codes "*")) [
      | inl e ↦ (Some bound.Open, (tt, e))
      | inr star ↦ elim (cases_Bool (list_all is_ascii_digit token)) [
        | inl d ↦ digits_choice token d star
        | inr d ↦ name_bound_choice token d star
      ]
    ]

two_bounds : (text l rest u : Text) → text ≡ l ++ 32 ∷ rest → rest ≡ codes "to " ++ u → IsToken l → (read : Option Bound) × ReadsBound l read
    → (read : Option Bound) × ReadsBound u read → (read : Option (Bound × Bound)) × ReadsBounds text read
two_bounds text l rest u s r w (None, a) high = (None, no_bounds_without_low text l rest s w a)
two_bounds text l rest u s r w (Some low, a) (None, b) = (None, no_bounds_without_high text l rest u s r w b)
two_bounds text l rest u s r w (Some low, a) (Some high, b) = (Some (low, high), bounds_read text l rest u low high s r a b)

pub bounds_choice : (text : Text) → (read : Option (Bound × Bound)) × ReadsBounds text read
bounds_choice text =
    elim (space_choice text) [
      | inl w ↦ (None, no_bounds_in_token text w)
      | inr c ↦ elim (front_choice (codes "to ") c.1) [
        | inr n ↦ (None, no_bounds_without_to text c.0 c.1 c.2 c.3 n)
        | inl t ↦ two_bounds text c.0 c.1 t.0 c.2 t.1 c.3 (bound_choice c.0) (bound_choice t.0)
      ]
    ]
