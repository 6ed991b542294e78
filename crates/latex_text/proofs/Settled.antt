-- Texts without the braces of a group, and texts after a command, in which nothing is left to read.
use Rattle.std.proofs.Common.{◌≡◌, ℕ, suc, [], ◌∷◌, ◌++◌, Bool, true, false, cond, Option, Some, None}
use Rattle.std.proofs.Common.{refl, sym, ap, ◌∙◌, subst}
use Rattle.std.specs.Prelude.{◌==◌, ◌&&◌, ◌||◌, not}
use Rattle.std.specs.List.{list_all, remove}
use Rattle.std.specs.Option.{option_map, unwrap_or}
use Rattle.std.proofs.lemmas.Bool.{and_parts, eqb-true, not-true}
use Rattle.std.proofs.lemmas.Option.{same_Some}
use Rattle.text_model.specs.Texts.{Text}
use Rattle.latex_text.specs.declared.places.Place.{Place}
use Rattle.latex_text.specs.declared.places.Place.TheVariants.{Start, Word, Name, Sign, Formula}
use Rattle.latex_text.specs.Places.{backslash, opening, closing, dollar, is_letter}
use Rattle.latex_text.specs.Places.{in_text, next, has_commands, has_groups, follows_initial}
use Rattle.latex_text.specs.Groups.{closing_at, opened, ungrouped}
use Rattle.latex_text.specs.Commands.{is_plain}
use Rattle.latex_text.specs.Texts.{changed, IsFree}
use Rattle.latex_text.proofs.PlaceSteps.{groups_commands, text_next, open_next, formula_next, after_group}
use Rattle.latex_text.proofs.Frees.{as_either, changed_is, ungrouped_none, ordinary_none, formula_none, weak}

-- ---- without the end of a group

abbrev pub Fits : Bool → Place → Type 0
Fits true s = s ≡ Formula
Fits false s = has_groups s ≡ true

pub formula_fits : (x : Bool) → Fits (not x) (cond x Start Formula)
formula_fits true = refl
formula_fits false = refl

pub text_fits : (s : Place) (b : ℕ) → has_groups s ≡ true → (b == backslash) ≡ false → (x : Bool) → (b == dollar) ≡ x → Fits x (next s b)
text_fits s b g e true d = ap (next s) (eqb-true b dollar d) ∙ formula_next s (groups_commands s g)
text_fits s b g e false d = text_next s b g e d

pub or_false : (x y : Bool) → (x || y) ≡ false → (x ≡ false) × (y ≡ false)
or_false true y h = cc
or_false false y h = (refl, h)

pub removed : (f : Bool) (s : Place) (t : Text) (n : ℕ) → Fits f s → closing_at f t ≡ Some n → IsFree s t → IsFree s (remove t n)
removed true s [] n fits h free = cc
removed false s [] n fits h free = cc
removed true s (b ∷ t) n fits h free =
    let here : next s b ≡ next Formula b = ap (λ p. next p b) fits in
    by_rest (closing_at (not (b == dollar)) t) refl h
    (λ m e. removed (not (b == dollar)) (next s b) t m (subst (Fits (not (b == dollar))) (sym here) (formula_fits (b == dollar))) e free.1)
  where
    by_rest : (o : Option ℕ) → closing_at (not (b == dollar)) t ≡ o → option_map suc o ≡ Some n
        → ((m : ℕ) → closing_at (not (b == dollar)) t ≡ Some m → IsFree (next s b) (remove t m)) → IsFree s (remove (b ∷ t) n)
    by_rest None e g others = cc
    by_rest (Some m) e g others =
        let is : suc m ≡ n = same_Some (suc m) n g in
        subst (λ k. IsFree s (remove (b ∷ t) k)) is
        (ap (λ p. changed p b (remove t m)) fits ∙ formula_none b (remove t m), others m e)
removed false s (b ∷ t) n fits h free =
    by_closing (b == closing) refl h (λ e m f. removed (b == dollar) (next s b) t m (text_fits s b fits e (b == dollar) refl) f free.1)
  where
    by_rest : (o : Option ℕ) → closing_at (b == dollar) t ≡ o → option_map suc o ≡ Some n → (b == backslash) ≡ false → (b == opening) ≡ false
        → ((m : ℕ) → closing_at (b == dollar) t ≡ Some m → IsFree (next s b) (remove t m)) → IsFree s (remove (b ∷ t) n)
    by_rest None e g x y others = cc
    by_rest (Some m) e g x y others =
        let is : suc m ≡ n = same_Some (suc m) n g in
        subst (λ k. IsFree s (remove (b ∷ t) k)) is (ordinary_none s b (remove t m) x y, others m e)

    by_mark : (x : Bool) → (b == backslash || b == opening) ≡ x → cond x None (option_map suc (closing_at (b == dollar) t)) ≡ Some n
        → ((b == backslash) ≡ false → (m : ℕ) → closing_at (b == dollar) t ≡ Some m → IsFree (next s b) (remove t m))
        → IsFree s (remove (b ∷ t) n)
    by_mark true e g others = cc
    by_mark false e g others =
        let parts = or_false (b == backslash) (b == opening) e in
        by_rest (closing_at (b == dollar) t) refl g parts.0 parts.1 (others parts.0)

    by_closing : (x : Bool) → (b == closing) ≡ x
        → cond x (Some 0) (cond (b == backslash || b == opening) None (option_map suc (closing_at (b == dollar) t))) ≡ Some n
        → ((b == backslash) ≡ false → (m : ℕ) → closing_at (b == dollar) t ≡ Some m → IsFree (next s b) (remove t m))
        → IsFree s (remove (b ∷ t) n)
    by_closing true e g others =
        let is : 0 ≡ n = same_Some 0 n g in
        let after : next s b ≡ Word = ap (next s) (eqb-true b closing e) ∙ after_group s fits in
        subst (λ k. IsFree s (remove (b ∷ t) k)) is
        (weak Word s t refl (groups_commands s fits) (subst (λ p. IsFree p t) after free.1))
    by_closing false e g others = by_mark (b == backslash || b == opening) refl g others

-- the text after the beginning of a group
pub opened_free : (s : Place) (t u : Text) → has_commands s ≡ true → opened t ≡ Some u → IsFree Start t → IsFree s u
opened_free s t u o h free = by_closing (closing_at false t) refl h
  where
    by_closing : (c : Option ℕ) → closing_at false t ≡ c → option_map (λ n. remove t n) c ≡ Some u → IsFree s u
    by_closing None e g = cc
    by_closing (Some n) e g =
        subst (IsFree s) (same_Some (remove t n) u g) (weak Start s (remove t n) refl o (removed false Start t n refl e free))

-- ---- after a command

-- a text without the group with which it begins
pub settled : (s : Place) (b : ℕ) (t : Text) → has_commands s ≡ true → changed s b t ≡ None → IsFree (next Word b) t → IsFree Word (ungrouped (b ∷ t))
settled s b t o none free = by_group (b == opening) refl
  where
    by_opened : (c : Option Text) → opened t ≡ c → b ≡ opening → IsFree Word (unwrap_or c (b ∷ t))
    by_opened None e is =
        let here : changed Word opening t ≡ None = changed_is Word opening t ∙ e in
        (subst (λ d. changed Word d t ≡ None) (sym is) here, free)
    by_opened (Some u) e is = opened_free Word t u refl e (subst (λ d. IsFree (next Word d) t) is free)

    by_group : (x : Bool) → (b == opening) ≡ x → IsFree Word (cond x (unwrap_or (opened t) (b ∷ t)) (b ∷ t))
    by_group true e = by_opened (opened t) refl (eqb-true b opening e)
    by_group false e =
        let here : as_either (b == backslash) false true (follows_initial s) true t ≡ None =
        ap (λ c. as_either (b == backslash) false c (follows_initial s) true t) (sym o)
        ∙ without_groups (b == backslash) (has_commands s) (follows_initial s) true (has_groups s) t
        ∙ ap (λ y. as_either (b == backslash) y (has_commands s) (follows_initial s) (has_groups s) t) (sym e) ∙ sym (changed_is s b t) ∙ none in
        let word : changed Word b t ≡ None =
        changed_is Word b t ∙ ap (λ y. as_either (b == backslash) y true false true t) e
        ∙ ungrouped_none (b == backslash) (follows_initial s) false true t here in
        (word, free)
      where
        without_groups : (x c i g h : Bool) (t : Text) → as_either x false c i g t ≡ as_either x false c i h t
        without_groups x c i g h t = refl

pub settled_text : (s : Place) (t : Text) → has_groups s ≡ true → IsFree s t → IsFree Word (ungrouped t)
settled_text s [] g free = tt
settled_text s (b ∷ t) g free =
    let word : IsFree Word (b ∷ t) = weak s Word (b ∷ t) g refl free in settled Word b t refl word.0 word.1

pub settled_sign : (t : Text) → IsFree Sign t → IsFree Word (ungrouped t)
settled_sign [] free = tt
settled_sign (b ∷ t) free = settled Sign b t refl free.0 free.1

abbrev pub is_lettered : Text → Bool
is_lettered [] = false
is_lettered (b ∷ t) = is_letter b

pub settled_name : (t : Text) → is_lettered t ≡ false → IsFree Name t → IsFree Word (ungrouped t)
settled_name [] h free = tt
settled_name (b ∷ t) h free =
    settled Name b t refl free.0 (subst (λ c. IsFree (cond c Name (in_text false b)) t) h free.1)

-- ---- what is written

abbrev pub is_quiet : ℕ → Bool
is_quiet b = not (b == backslash) && not (b == opening) && not (b == dollar)

pub quiet_free : (s : Place) (c t : Text) → has_commands s ≡ true → list_all is_quiet c ≡ true → IsFree Word t → IsFree s (c ++ t)
quiet_free s [] t o h free = weak Word s t refl o free
quiet_free s (b ∷ c) t o h free =
    let parts = and_parts (is_quiet b) (list_all is_quiet c) h in
    let byte = and_parts _ _ parts.0 in
    let marks = and_parts _ _ byte.0 in
    let e = not-true (b == backslash) marks.0 in (
      ordinary_none s b (c ++ t) e (not-true (b == opening) marks.1),
      quiet_free (next s b) c t (open_next s b o e (not-true (b == dollar) byte.1)) parts.1 free,
    )

pub plain_free : (s : Place) (t : Text) → is_plain t ≡ true → IsFree s t
plain_free s [] h = tt
plain_free s (b ∷ t) h =
    let parts = and_parts (not (b == backslash) && not (b == opening)) (is_plain t) h in
    let byte = and_parts (not (b == backslash)) (not (b == opening)) parts.0 in
    (ordinary_none s b t (not-true (b == backslash) byte.0) (not-true (b == opening) byte.1), plain_free (next s b) t parts.1)
