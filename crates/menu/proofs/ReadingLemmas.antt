-- A link that was written into an attribute is read as the link, and as nothing else.
use Rattle.std.proofs.Common.{◌≡◌, ℕ, Bool, true, false, [], ◌∷◌, ◌++◌, ◌↔◌, refl, sym, ap, ◌∙◌, subst, arith}
use Rattle.std.specs.Prelude.{◌==◌, if◌then◌else◌}
use Rattle.std.proofs.lemmas.Bool.{eqb-true, eqb-false}
use Rattle.text_model.specs.Texts.{Text}
use Rattle.menu.specs.Escaping.{ampersand, apostrophe, ampersand_reference, apostrophe_reference, escaped, IsReadAs, read_nothing, read_ampersand}
use Rattle.menu.specs.Escaping.{read_apostrophe, read_character}

read_back : (link : Text) → IsReadAs (escaped link) link
read_back [] = read_nothing
read_back (b ∷ t) = by_tests (b == ampersand) (b == apostrophe) refl refl (read_back t)
  where
    by_tests : (x y : Bool) → (b == ampersand) ≡ x → (b == apostrophe) ≡ y → IsReadAs (escaped t) t
        → IsReadAs ((if x then ampersand_reference else (if y then apostrophe_reference else (b ∷ []))) ++ escaped t) (b ∷ t)
    by_tests true y e f h = subst (λ c. IsReadAs (ampersand_reference ++ escaped t) (c ∷ t)) (sym (eqb-true b ampersand e)) (read_ampersand _ _ h)
    by_tests false true e f h = subst (λ c. IsReadAs (apostrophe_reference ++ escaped t) (c ∷ t)) (sym (eqb-true b apostrophe f)) (read_apostrophe _ _ h)
    by_tests false false e f h = read_character b _ _ (eqb-false b ampersand e) h

unfoldable pub head_of : Text → ℕ
head_of [] = 0
head_of (b ∷ t) = b

unfoldable pub rest_of : Text → Text
rest_of [] = []
rest_of (b ∷ t) = t

after_reference : Text → Text
after_reference t = rest_of (rest_of (rest_of (rest_of (rest_of t))))

-- a text is read as only one text
pub one_reading : (written other t u : Text) → written ≡ other → IsReadAs written t → IsReadAs other u → t ≡ u
unfolding head_of rest_of after_reference
one_reading _ _ _ _ e read_nothing read_nothing = refl
one_reading _ _ _ _ e read_nothing (read_ampersand t u h) = absurd (cc)
one_reading _ _ _ _ e read_nothing (read_apostrophe t u h) = absurd (cc)
one_reading _ _ _ _ e read_nothing (read_character b t u n h) = absurd (cc)
one_reading _ _ _ _ e (read_ampersand t u h) read_nothing = absurd (cc)
one_reading _ _ _ _ e (read_ampersand t u h) (read_ampersand v w k) = ap (λ x. ampersand ∷ x) (one_reading t v u w (ap after_reference e) h k)
one_reading _ _ _ _ e (read_ampersand t u h) (read_apostrophe v w k) = absurd (omega (arith, ap (λ x. head_of (rest_of x)) e))
one_reading _ _ _ _ e (read_ampersand t u h) (read_character c v w n k) = absurd (n (sym (ap head_of e)))
one_reading _ _ _ _ e (read_apostrophe t u h) read_nothing = absurd (cc)
one_reading _ _ _ _ e (read_apostrophe t u h) (read_ampersand v w k) = absurd (omega (arith, ap (λ x. head_of (rest_of x)) e))
one_reading _ _ _ _ e (read_apostrophe t u h) (read_apostrophe v w k) = ap (λ x. apostrophe ∷ x) (one_reading t v u w (ap after_reference e) h k)
one_reading _ _ _ _ e (read_apostrophe t u h) (read_character c v w n k) = absurd (n (sym (ap head_of e)))
one_reading _ _ _ _ e (read_character b t u n h) read_nothing = absurd (cc)
one_reading _ _ _ _ e (read_character b t u n h) (read_ampersand v w k) = absurd (n (ap head_of e))
one_reading _ _ _ _ e (read_character b t u n h) (read_apostrophe v w k) = absurd (n (ap head_of e))
one_reading _ _ _ _ e (read_character b t u n h) (read_character c v w m k) =
    ap (λ x. x ∷ u) (ap head_of e) ∙ ap (λ x. c ∷ x) (one_reading t v u w (ap rest_of e) h k)

pub escaped-read_back : (link u : Text) → IsReadAs (escaped link) u ↔ (u ≡ link)
escaped-read_back link u =
    (λ h. one_reading (escaped link) (escaped link) u link refl h (read_back link), λ e. subst (IsReadAs (escaped link)) (sym e) (read_back link))
