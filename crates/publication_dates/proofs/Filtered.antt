-- A byte more of a text of which some bytes are left out.
use Rattle.std.proofs.Common.{◌≡◌, ℕ, ◌+◌, ◌<◌, [], ◌∷◌, ◌++◌, Bool, true, false, cond, length, get_or, drop, filter, refl, sym, ap, ◌∙◌, append_assoc}
use Rattle.std.proofs.lemmas.List.{drop_more}
use Rattle.text_model.specs.Texts.{Text}

one_kept : (b : Bool) (x : ℕ) (rest : Text) → cond b (x ∷ []) [] ++ rest ≡ cond b (x ∷ rest) rest
one_kept true x rest = refl
one_kept false x rest = refl

pub filtered : (p : ℕ → Bool) (t before after all : Text) (i : ℕ) (b : Bool) → i < length t → p (get_or t i 0) ≡ b
    → after ≡ before ++ cond b (get_or t i 0 ∷ []) [] → before ++ filter p (drop i t) ≡ all → after ++ filter p (drop (i + 1) t) ≡ all
filtered p t before after all i b h is more so_far =
    let x = get_or t i 0 in
    let rest = filter p (drop (i + 1) t) in
    ap (λ s. s ++ rest) more ∙ append_assoc before (cond b (x ∷ []) []) rest
    ∙ ap (λ s. before ++ s) (one_kept b x rest ∙ ap (λ c. cond c (x ∷ rest) rest) (sym is))
    ∙ sym (ap (λ s. before ++ filter p s) (drop_more t i 0 h)) ∙ so_far
