-- A text that is not the beginning of a web link, and is not continued to one, is never a web link.
use Rattle.std.proofs.Common.{◌≡◌, ℕ, ◌==◌, Bool, true, false, ◌||◌, ◌&&◌, List, [], ◌∷◌, ◌++◌, None, ◌⊎◌, inl, inr, refl, sym, ap, ◌∙◌, arith, codes}
use Rattle.std.proofs.lemmas.Grind.{common_steps}
use Rattle.std.specs.Char.{to_ascii_lowercase}
use Rattle.std.proofs.lemmas.Bool.{false≢true, and_from, and_parts, eqb-true, eq-eqb}
use Rattle.std.proofs.lemmas.Bool.{or_parts, not-true, both_ways, or_from, false_from_ne_true, or_left, or_right}
use Rattle.text_model.specs.Texts.{Text}
use Rattle.environment_model.specs.Environment.{LookUp}
use Rattle.uri_text.specs.AnyCase.{begins_in_any_case}
use Rattle.uri_grammar.specs.declared.parts.Part.{Part}
use Rattle.uri_grammar.specs.declared.parts.Part.TheVariants.{Literal, Expression}
use Rattle.uri_template.specs.Expansion.{expansion}
use Rattle.menu.specs.WebLink.{is_web_link}
use Rattle.rule_lint.specs.HostStates.{slash}
use Rattle.rule_lint.specs.Host.{after_slashes}
use Rattle.rule_lint.specs.WebLink.{first_text, has_expression, is_never_web_link}

-- ---- the first text and what follows it

rest_text : LookUp → List Part → Text
rest_text look [] = []
rest_text look (Literal text ∷ parts) = rest_text look parts
rest_text look (Expression op specs ∷ parts) = expansion look (Expression op specs ∷ parts)

first_and_rest : (look : LookUp) (parts : List Part) → expansion look parts ≡ first_text parts ++ rest_text look parts
unfolding rest_text
first_and_rest look [] = refl
first_and_rest look (Literal text ∷ parts) = grind (arith, common_steps, first_and_rest look parts)
first_and_rest look (Expression op specs ∷ parts) = refl

no_rest : (look : LookUp) (parts : List Part) → has_expression parts ≡ false → rest_text look parts ≡ []
unfolding rest_text
no_rest look [] e = refl
no_rest look (Literal text ∷ parts) e = no_rest look parts e
no_rest look (Expression op specs ∷ parts) e = absurd (false≢true (sym e))

-- ---- beginnings

-- equality of bytes is symmetric
turned : (a b : ℕ) → (a == b) ≡ true → (b == a) ≡ true
turned a b e = eq-eqb b a (sym (eqb-true a b e))

-- a beginning of two joined texts is one of the first, or continues into the second
begins_across : (t r s : Text) → begins_in_any_case (t ++ r) s ≡ true → (begins_in_any_case t s ≡ true) ⊎ ((begins_in_any_case s t ≡ true) × (r ≡ [] → ⊥))
begins_across t r [] e = inl refl
begins_across [] r (c ∷ s) e = inr (refl, λ none. false≢true (ap (λ (x : Text). begins_in_any_case x (c ∷ s)) (sym none) ∙ e))
begins_across (b ∷ t) r (c ∷ s) e =
    let parts = and_parts (to_ascii_lowercase b == to_ascii_lowercase c) (begins_in_any_case (t ++ r) s) e in
    elim (begins_across t r s parts.1) [
      | inl h ↦ inl (and_from _ _ parts.0 h)
      | inr h ↦ inr (and_from _ _ (turned (to_ascii_lowercase b) (to_ascii_lowercase c) parts.0) h.0, h.1)
    ]

-- ---- links

has_rest : (look : LookUp) (parts : List Part) (b : Bool) → has_expression parts ≡ b → (rest_text look parts ≡ [] → ⊥) → b ≡ true
has_rest look parts b e f = grind (arith, no_rest)

-- the link does not begin with this text if neither the first text does nor its continuation by an expression
not_so : (look : LookUp) (parts : List Part) (s : Text) → (begins_in_any_case (first_text parts) s ≡ true → ⊥)
    → (has_expression parts ≡ true → begins_in_any_case s (first_text parts) ≡ true → ⊥) → begins_in_any_case (expansion look parts) s ≡ true → ⊥
not_so look parts s f g e =
    elim (begins_across (first_text parts) (rest_text look parts) s (ap (λ (x : Text). begins_in_any_case x s) (sym (first_and_rest look parts)) ∙ e)) [
      | inl h ↦ f h
      | inr h ↦ g (has_rest look parts (has_expression parts) refl h.1) h.0
    ]

pub never_a_web_link : (look : LookUp) (parts : List Part) → is_never_web_link parts ≡ true → is_web_link (expansion look parts) ≡ false
never_a_web_link look parts e =
    let t = first_text parts in
    let plain = begins_in_any_case t (codes "http://") in
    let secure = begins_in_any_case t (codes "https://") in
    let plain_on = begins_in_any_case (codes "http://") t in
    let secure_on = begins_in_any_case (codes "https://") t in
    let none = or_parts (plain || secure) (has_expression parts && (plain_on || secure_on)) (not-true _ e) in
    let fronts = or_parts plain secure none.0 in
    let continues : has_expression parts ≡ true → (plain_on || secure_on) ≡ true → ⊥ = grind (arith, common_steps) in
    or_from _ _
    (false_from_ne_true _ (not_so look parts (codes "http://") (both_ways plain fronts.0) (λ h k. continues h (or_left plain_on secure_on k))))
    (false_from_ne_true _ (not_so look parts (codes "https://") (both_ways secure fronts.1) (λ h k. continues h (or_right plain_on secure_on k))))

-- ---- the slashes of a web link

pub slash_lowered : (b : ℕ) → (to_ascii_lowercase b == 0x2F) ≡ true → (b == slash) ≡ true
slash_lowered b e = grind (arith, common_steps)

pub web_link_has_slashes : (link : Text) → is_web_link link ≡ true → after_slashes link ≡ None → ⊥
web_link_has_slashes link web none = grind (arith, common_steps)
