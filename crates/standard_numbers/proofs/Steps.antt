-- One byte more of a text that is compared.
use Rattle.std.proofs.Common.{◌≡◌, ℕ, ◌+◌, ◌<◌, ◌∷◌, true, false, ◌-◌, ◌&&◌, ◌||◌, length, get_or, drop, ap, ◌∙◌, subst}
use Rattle.std.specs.Prelude.{codes, nat_eq}
use Rattle.std.specs.List.{starts_with}
use Rattle.std.proofs.lemmas.List.{drop_more}
use Rattle.text_model.specs.Texts.{Text}
use Rattle.standard_numbers.specs.Spellings.{is_next, are_digits}
use Rattle.standard_numbers.specs.Issn.{says_issn}

next_not : (left b : ℕ) (t : Text) → is_next left b ≡ false → are_digits left (b ∷ t) ≡ false
next_not left b t h = ap (λ first. first && are_digits (left - 1) t) h

-- no digit may follow
pub not_next : (t : Text) (i left : ℕ) → i < length t → is_next left (get_or t i 0) ≡ false → are_digits left (drop i t) ≡ false
not_next t i left h e = ap (are_digits left) (drop_more t i 0 h) ∙ next_not left (get_or t i 0) (drop (i + 1) t) e

says_not_here : (b : ℕ) (t : Text) → starts_with nat_eq (b ∷ t) (codes "ISSN") ≡ false → says_issn (b ∷ t) ≡ says_issn t
says_not_here b t h = ap (λ first. first || says_issn t) h

-- the letters do not begin here
pub says_later : (t : Text) (i : ℕ) → i < length t → starts_with nat_eq (drop i t) (codes "ISSN") ≡ false → says_issn (drop i t) ≡ says_issn (drop (i + 1) t)
says_later t i h no_letters =
    let more = drop_more t i 0 h in
    ap says_issn more ∙ says_not_here (get_or t i 0) (drop (i + 1) t) (subst (λ s. starts_with nat_eq s (codes "ISSN") ≡ false) more no_letters)

says_here_at : (b : ℕ) (t : Text) → starts_with nat_eq (b ∷ t) (codes "ISSN") ≡ true → says_issn (b ∷ t) ≡ true
says_here_at b t h = ap (λ first. first || says_issn t) h

-- the letters begin here
pub says_here : (t : Text) (i : ℕ) → i < length t → starts_with nat_eq (drop i t) (codes "ISSN") ≡ true → says_issn (drop i t) ≡ true
says_here t i h letters =
    let more = drop_more t i 0 h in
    ap says_issn more ∙ says_here_at (get_or t i 0) (drop (i + 1) t) (subst (λ s. starts_with nat_eq s (codes "ISSN") ≡ true) more letters)
