-- Texts in which nothing is left to read.
use Rattle.std.proofs.Common.{◌≡◌, ℕ, [], ◌∷◌, Bool, true, false, cond, Option, Some, None}
use Rattle.std.proofs.Common.{refl, sym, ap, ◌∙◌, subst}
use Rattle.std.specs.Prelude.{◌==◌, ◌&&◌}
use Rattle.std.specs.Option.{option_map}
use Rattle.std.proofs.lemmas.Bool.{eqb-true}
use Rattle.text_model.specs.Texts.{Text}
use Rattle.latex_text.specs.declared.commands.Command.{Command}
use Rattle.latex_text.specs.declared.places.Place.{Place}
use Rattle.latex_text.specs.declared.places.Place.TheVariants.{Escaped, Formula}
use Rattle.latex_text.specs.Places.{backslash, opening, dollar}
use Rattle.latex_text.specs.Places.{next, has_commands, has_groups, follows_initial}
use Rattle.latex_text.specs.Groups.{opened}
use Rattle.latex_text.specs.Commands.{command_of, accent, named, reserved, is_quoted, apostrophe, or_else}
use Rattle.latex_text.specs.Texts.{done, changed, IsFree}
use Rattle.latex_text.proofs.PlaceSteps.{groups_commands, text_next, open_next, escaped_next, formula_next}

-- ---- where nothing is read

pub or_none : (o p : Option Command) → or_else o p ≡ None → (o ≡ None) × (p ≡ None)
or_none None p h = (refl, h)
or_none (Some c) p h = cc

pub unquoted : (x : Bool) → apostrophe x ≡ None → x ≡ false
unquoted true h = cc
unquoted false h = refl

pub quoted_none : (i x : Bool) → x ≡ false → apostrophe (i && x) ≡ None
quoted_none true x h = ap apostrophe h
quoted_none false x h = refl

-- what is no command stays after `O` too, and the other way round
pub none_any : (i j : Bool) (t : Text) → command_of i t ≡ None → command_of j t ≡ None
unfolding command_of
none_any i j t h =
    let last = apostrophe (is_quoted t) in
    let signs = or_else (reserved t) last in
    let names = or_else (named t) signs in
    let all = or_else (accent t) names in
    let first = or_none (apostrophe (i && is_quoted t)) all h in
    let second = or_none (accent t) names first.1 in
    let third = or_none (named t) signs second.1 in
    let fourth = or_none (reserved t) last third.1 in
    let none = unquoted (is_quoted t) fourth.1 in
    ap (λ o. or_else o all) (quoted_none j (is_quoted t) none)
    ∙ first.1

pub map_none : (t : Text) (o : Option Command) → option_map (done t) o ≡ None → o ≡ None
map_none t None h = refl
map_none t (Some c) h = cc

abbrev pub as_command : Bool → Bool → Text → Option Text
as_command has initial t = cond has (option_map (done t) (command_of initial t)) None

abbrev pub as_group : Bool → Text → Option Text
as_group has t = cond has (opened t) None

abbrev pub as_either : Bool → Bool → Bool → Bool → Bool → Text → Option Text
as_either x y has initial groups t = cond x (as_command has initial t) (cond y (as_group groups t) None)

pub changed_is : (s : Place) (b : ℕ) (t : Text)
    → changed s b t ≡ as_either (b == backslash) (b == opening) (has_commands s) (follows_initial s) (has_groups s) t
unfolding changed
changed_is s b t = refl

pub weaker : (x y has groups i j : Bool) (t : Text) → as_either x y true i true t ≡ None → as_either x y has j groups t ≡ None
weaker true y true groups i j t h = ap (λ o. option_map (done t) o) (none_any i j t (map_none t (command_of i t) h))
weaker true y false groups i j t h = refl
weaker false true has true i j t h = h
weaker false true has false i j t h = refl
weaker false false has groups i j t h = refl

pub none_anywhere : (s r : Place) (b : ℕ) (t : Text) → has_groups s ≡ true → changed s b t ≡ None → changed r b t ≡ None
none_anywhere s r b t g h =
    let is : as_either (b == backslash) (b == opening) true (follows_initial s) true t ≡ None =
    ap (λ c. as_either (b == backslash) (b == opening) c (follows_initial s) true t) (sym (groups_commands s g))
    ∙ ap (λ c. as_either (b == backslash) (b == opening) (has_commands s) (follows_initial s) c t) (sym g)
    ∙ sym (changed_is s b t) ∙ h in
    changed_is r b t
    ∙ weaker (b == backslash) (b == opening) (has_commands r) (has_groups r) (follows_initial s) (follows_initial r) t is

pub ungrouped_none : (x i j g : Bool) (t : Text) → as_either x false true i g t ≡ None → as_either x false true j g t ≡ None
ungrouped_none true i j g t h = ap (λ o. option_map (done t) o) (none_any i j t (map_none t (command_of i t) h))
ungrouped_none false i j g t h = refl

pub ordinary_none : (s : Place) (b : ℕ) (t : Text) → (b == backslash) ≡ false → (b == opening) ≡ false → changed s b t ≡ None
ordinary_none s b t e f =
    changed_is s b t ∙ ap (λ x. as_either x (b == opening) (has_commands s) (follows_initial s) (has_groups s) t) e
    ∙ ap (λ y. as_either false y (has_commands s) (follows_initial s) (has_groups s) t) f

pub formula_either : (x y : Bool) (t : Text) → as_either x y false false false t ≡ None
formula_either true y t = refl
formula_either false true t = refl
formula_either false false t = refl

pub escaped_none : (b : ℕ) (t : Text) → changed Escaped b t ≡ None
escaped_none b t = changed_is Escaped b t ∙ formula_either (b == backslash) (b == opening) t

pub formula_none : (b : ℕ) (t : Text) → changed Formula b t ≡ None
formula_none b t = changed_is Formula b t ∙ formula_either (b == backslash) (b == opening) t

-- ---- in any place where a command may begin

pub weak : (s r : Place) (t : Text) → has_groups s ≡ true → has_commands r ≡ true → IsFree s t → IsFree r t
weak s r [] g o free = tt
weak s r (b ∷ t) g o free = (none_anywhere s r b t g free.0, by_mark (b == backslash) refl (b == dollar) refl (weak (next s b) (next r b) t))
  where
    by_mark : (x : Bool) → (b == backslash) ≡ x → (y : Bool) → (b == dollar) ≡ y
        → (has_groups (next s b) ≡ true → has_commands (next r b) ≡ true → IsFree (next s b) t → IsFree (next r b) t) → IsFree (next r b) t
    by_mark true e y d others =
        let is = eqb-true b backslash e in
        let same : next s b ≡ next r b =
        ap (next s) is ∙ escaped_next s (groups_commands s g) ∙ sym (escaped_next r o) ∙ sym (ap (next r) is) in
        subst (λ p. IsFree p t) same free.1
    by_mark false e true d others =
        let is = eqb-true b dollar d in
        let same : next s b ≡ next r b =
        ap (next s) is ∙ formula_next s (groups_commands s g) ∙ sym (formula_next r o) ∙ sym (ap (next r) is) in
        subst (λ p. IsFree p t) same free.1
    by_mark false e false d others = others (text_next s b g e d) (open_next r b o e d) free.1
