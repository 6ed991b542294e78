-- Parts by index.
use Rattle.std.proofs.Common.{◌≡◌, ℕ, zero, suc, ◌<◌, ◌≤◌, List, [], ◌∷◌, length, get_or, refl, arith}
use Rattle.std.specs.Borrow.{Bor}
use Rattle.text_model.specs.Texts.{Text, texts_of}
use Rattle.publication_dates.specs.Dates.{nth}

pub nth_at : (parts : List (Bor Text)) (i : ℕ) (d : Bor Text) → i < length parts → (get_or parts i d).now ≡ nth (texts_of parts) i
nth_at [] i d h = absurd (omega arith)
nth_at (part ∷ parts) zero d h = refl
nth_at (part ∷ parts) (suc i) d h = nth_at parts i d (omega arith)

pub nth_past : (parts : List (Bor Text)) (i : ℕ) → length parts ≤ i → nth (texts_of parts) i ≡ []
nth_past [] i h = refl
nth_past (part ∷ parts) zero h = absurd (omega arith)
nth_past (part ∷ parts) (suc i) h = nth_past parts i (omega arith)
