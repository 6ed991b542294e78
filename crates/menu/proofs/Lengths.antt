-- The lengths of texts, as far as a number goes.
use Rattle.std.proofs.Common.{◌≡◌, ℕ, ◌+◌, ◌<◌, List, [], ◌∷◌, length, take, get_or, sym, ap, ◌∙◌, arith, length-append}
use Rattle.std.specs.Prelude.{min}
use Rattle.std.specs.List.{flat_map}
use Rattle.text_model.specs.Texts.{Text}
use Rattle.menu.specs.Entries.{MenuEntry}
use Rattle.menu.specs.Links.{NamedLink, links}
use Rattle.menu.proofs.LinkLemmas.{links_more}

sum_within : (most a b : ℕ) → min (min a most + min b most) most ≡ min (a + b) most
sum_within most a b = omega arith

-- the step of a loop that adds up the lengths of what is printed for each entry
pub length_step : (most : ℕ) (f : NamedLink → Text) (menu : List MenuEntry) (i : ℕ) (d entry : MenuEntry) (before more after : ℕ) → i < length menu
    → entry ≡ get_or menu i d → before ≡ min (length (flat_map f (links (take i menu)))) most
    → more ≡ min (length (flat_map f (links (entry ∷ [])))) most → after ≡ min (before + more) most
    → after ≡ min (length (flat_map f (links (take (i + 1) menu)))) most
length_step most f menu i d entry before more after within is old new sum =
    let at : more ≡ min (length (flat_map f (links (get_or menu i d ∷ [])))) most =
    new ∙ ap (λ x. min (length (flat_map f (links (x ∷ [])))) most) is in
    sum ∙ (ap (λ x. min (x + more) most) old
    ∙ (ap (λ x. min (min (length (flat_map f (links (take i menu)))) most + x) most) at
    ∙ (sum_within most (length (flat_map f (links (take i menu)))) (length (flat_map f (links (get_or menu i d ∷ []))))
    ∙ ap (λ x. min x most) (sym (length-append (flat_map f (links (take i menu))) (flat_map f (links (get_or menu i d ∷ []))))
    ∙ ap length (sym (links_more f menu i d within))))))
