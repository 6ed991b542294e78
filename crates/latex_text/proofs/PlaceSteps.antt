-- From one place of a text to the next.
use Rattle.std.proofs.Common.{◌≡◌, ℕ, Bool, true, false, cond}
use Rattle.std.proofs.Common.{refl, ap, ◌∙◌}
use Rattle.std.specs.Prelude.{◌==◌, ◌&&◌}
use Rattle.std.proofs.lemmas.Bool.{cond_both}
use Rattle.latex_text.specs.declared.places.Place.{Place}
use Rattle.latex_text.specs.declared.places.Place.TheVariants.{Start, Word, Initial, Escaped, Name, Sign, Formula}
use Rattle.latex_text.specs.Places.{backslash, opening, closing, dollar, is_letter, is_word_byte, is_initial}
use Rattle.latex_text.specs.Places.{in_text, next, has_commands, has_groups}

-- ---- places

abbrev pub in_words : Bool → ℕ → Place
in_words at_start b = cond (is_word_byte b) (cond (is_initial b && at_start) Initial Word) Start

pub words_text : (x : Bool) (b : ℕ) → has_groups (in_words x b) ≡ true
words_text x b =
    cond_both (is_word_byte b) (cond (is_initial b && x) Initial Word) Start (λ p. has_groups p ≡ true)
    (λ _. cond_both (is_initial b && x) Initial Word (λ p. has_groups p ≡ true) (λ _. refl) (λ _. refl)) (λ _. refl)

-- a byte that begins no command and no formula
pub in_text_ordinary : (x : Bool) (b : ℕ) → (b == backslash) ≡ false → (b == dollar) ≡ false → has_groups (in_text x b) ≡ true
in_text_ordinary x b e d =
    ap (λ c. has_groups (cond c Escaped (cond (b == dollar) Formula (in_words x b)))) e
    ∙ ap (λ c. has_groups (cond c Formula (in_words x b))) d ∙ words_text x b

pub groups_commands : (s : Place) → has_groups s ≡ true → has_commands s ≡ true
groups_commands Start h = refl
groups_commands Word h = refl
groups_commands Initial h = refl
groups_commands Escaped h = cc
groups_commands Name h = refl
groups_commands Sign h = refl
groups_commands Formula h = cc

pub text_next : (s : Place) (b : ℕ) → has_groups s ≡ true → (b == backslash) ≡ false → (b == dollar) ≡ false → has_groups (next s b) ≡ true
text_next Start b h e d = in_text_ordinary true b e d
text_next Word b h e d = in_text_ordinary false b e d
text_next Initial b h e d = in_text_ordinary false b e d
text_next Escaped b h e d = cc
text_next Name b h e d = cc
text_next Sign b h e d = cc
text_next Formula b h e d = cc

pub open_next : (s : Place) (b : ℕ) → has_commands s ≡ true → (b == backslash) ≡ false → (b == dollar) ≡ false → has_commands (next s b) ≡ true
open_next Start b h e d = groups_commands _ (in_text_ordinary true b e d)
open_next Word b h e d = groups_commands _ (in_text_ordinary false b e d)
open_next Initial b h e d = groups_commands _ (in_text_ordinary false b e d)
open_next Escaped b h e d = cc
open_next Name b h e d =
    cond_both (is_letter b) Name (in_text false b) (λ p. has_commands p ≡ true) (λ _. refl)
    (λ _. groups_commands _ (in_text_ordinary false b e d))
open_next Sign b h e d = groups_commands _ (in_text_ordinary false b e d)
open_next Formula b h e d = cc

pub escaped_next : (s : Place) → has_commands s ≡ true → next s backslash ≡ Escaped
escaped_next Start h = refl
escaped_next Word h = refl
escaped_next Initial h = refl
escaped_next Escaped h = cc
escaped_next Name h = refl
escaped_next Sign h = refl
escaped_next Formula h = cc

pub formula_next : (s : Place) → has_commands s ≡ true → next s dollar ≡ Formula
formula_next Start h = refl
formula_next Word h = refl
formula_next Initial h = refl
formula_next Escaped h = cc
formula_next Name h = refl
formula_next Sign h = refl
formula_next Formula h = cc

pub group_next : (s : Place) → has_groups s ≡ true → next s opening ≡ Start
group_next Start h = refl
group_next Word h = refl
group_next Initial h = refl
group_next Escaped h = cc
group_next Name h = cc
group_next Sign h = cc
group_next Formula h = cc

pub after_group : (s : Place) → has_groups s ≡ true → next s closing ≡ Word
after_group Start h = refl
after_group Word h = refl
after_group Initial h = refl
after_group Escaped h = cc
after_group Name h = cc
after_group Sign h = cc
after_group Formula h = cc
