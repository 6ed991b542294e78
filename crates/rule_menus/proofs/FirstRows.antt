-- The choice from a range of rows: the link of the first row that passes a test and has a link.
use Rattle.std.proofs.Common.{◌≡◌, ℕ, zero, suc, ◌+◌, ◌≤◌, ◌<◌, List, ◌∷◌, Some, Bool, true, false, cond, map, filter, refl, sym, ap, ◌∙◌, arith}
use Rattle.std.specs.Prelude.{find, if◌then◌else◌}
use Rattle.std.specs.List.{range_with_len}
use Rattle.std.specs.Option.{unwrap_or}
use Rattle.std.proofs.lemmas.Grind.{common_steps}
use Rattle.std.proofs.lemmas.Bool.{false≢true}
use Rattle.text_model.specs.Texts.{Text}
use Rattle.menu.specs.Links.{is_link}
use Rattle.menu.specs.declared.entry.Resolution.{Resolution}
use Rattle.menu.specs.declared.entry.Resolution.TheVariants.{Link}
use Rattle.registry.specs.Entries.{chosen, last_resolution}

-- the resolution of each row, and which rows are tried; a link of a row has the row's number
module _ (f : ℕ → Resolution) (p : ℕ → Bool) (own : (row place : ℕ) (link : Text) → f row ≡ Link place link → place ≡ row) where
  -- among the n rows from one on, this row is the first that is tried and gives a link
  pub record IsFirstFrom (from n row : ℕ) (link : Text) : Type 0 where
    pub after : from ≤ row
    pub there : row < from + n
    pub passes : p row ≡ true
    pub links : f row ≡ Link row link
    pub first : (other : ℕ) → from ≤ other → other < from + n → p other ≡ true → is_link (f other) ≡ true → row ≤ other

  abbrev attempts : ℕ → ℕ → List Resolution
  attempts from n = map f (filter p (range_with_len from n))

  -- a row before them that is not tried, or has no link, changes nothing
  wider : (from n row : ℕ) (link : Text) → (p from ≡ true → is_link (f from) ≡ true → ⊥) → IsFirstFrom (from + 1) n row link → IsFirstFrom from (suc n) row link
  wider from n row link none h = grind (arith, common_steps)

  -- the claim for the rows after the first one
  abbrev FirstIfChosen : ℕ → ℕ → ℕ → Text → Type 0
  FirstIfChosen from n row link = (before : Resolution) → is_link before ≡ false → chosen before (attempts from n) ≡ Link row link → IsFirstFrom from n row link

  abbrev ChosenIfFirst : ℕ → ℕ → ℕ → Text → Type 0
  ChosenIfFirst from n row link = (before : Resolution) → IsFirstFrom from n row link → chosen before (attempts from n) ≡ Link row link

  pub first_if_chosen : (n from : ℕ) (before : Resolution) (row : ℕ) (link : Text) → is_link before ≡ false → chosen before (attempts from n) ≡ Link row link
      → IsFirstFrom from n row link
  first_if_chosen zero from before row link unlinked_before is = absurd (false≢true (sym unlinked_before ∙ ap is_link is))
  first_if_chosen (suc n) from before row link unlinked_before is = by_test (p from) refl is (λ last. first_if_chosen n (from + 1) last row link)
    where
      by_link : (b : Bool) → is_link (f from) ≡ b → p from ≡ true
          → unwrap_or (cond b (Some (f from)) (find is_link (attempts (from + 1) n))) (last_resolution (f from) (attempts (from + 1) n)) ≡ Link row link
          → FirstIfChosen (from + 1) n row link → IsFirstFrom from (suc n) row link
      by_link b linked passes is rest = grind (arith, common_steps)

      by_test : (b : Bool) → p from ≡ b
          → chosen before (map f (if b then (from ∷ filter p (range_with_len (from + 1) n)) else filter p (range_with_len (from + 1) n))) ≡ Link row link
          → FirstIfChosen (from + 1) n row link → IsFirstFrom from (suc n) row link
      by_test b passes is rest = grind (arith, by_link, passes, wider)

  pub chosen_if_first : (n from : ℕ) (before : Resolution) (row : ℕ) (link : Text) → IsFirstFrom from n row link
      → chosen before (attempts from n) ≡ Link row link
  chosen_if_first zero from before row link h = absurd (omega (arith, h.after, h.there))
  chosen_if_first (suc n) from before row link h = by_test (p from) refl (λ last. chosen_if_first n (from + 1) last row link)
    where
      by_test : (b : Bool) → p from ≡ b → ChosenIfFirst (from + 1) n row link
          → chosen before (map f (if b then (from ∷ filter p (range_with_len (from + 1) n)) else filter p (range_with_len (from + 1) n))) ≡ Link row link
      by_test b passes rest = grind (arith, common_steps)
