-- The states of texts and of rows, and what they leave out: a state covers another one if whatever is found of a host is found from it, too.
use Rattle.std.proofs.Common.{◌≡◌, ℕ, ◌<◌, ◌==◌, ◌||◌, zero, suc, Bool, false, List, [], ◌∷◌, ◌++◌, length, get_or, Option, Some, refl, ◌⊎◌, inl, inr, arith}
use Rattle.std.proofs.lemmas.Grind.{common_steps}
use Rattle.std.specs.List.{cons_option, filter_map}
use Rattle.text_model.specs.Texts.{Text}
use Rattle.kbart_rows.specs.Cells.{Row}
use Rattle.rule_lint.specs.declared.host_state.HostState.{HostState}
use Rattle.rule_lint.specs.declared.host_state.HostState.TheVariants.{Past, Lost}
use Rattle.rule_lint.specs.HostStates.{after_byte, after_text, after_texts, after_texts_from, at_sign, ends_host, for_both}
use Rattle.rule_lint.specs.Host.{letter}

-- ---- more text

pub after_append : (s : HostState) (t u : Text) → after_text s (t ++ u) ≡ after_text (after_text s t) u
after_append s [] u = refl
after_append s (b ∷ t) u = after_append (after_byte s b) t u

pub past_stays : (t : Text) → after_text Past t ≡ Past
past_stays [] = refl
past_stays (b ∷ t) = past_stays t

pub lost_stays : (t : Text) → after_text Lost t ≡ Lost
lost_stays [] = refl
lost_stays (b ∷ t) = lost_stays t

-- ---- texts without bytes that matter

abbrev pub is_special : ℕ → Bool
is_special b = ends_host b || b == at_sign

abbrev pub IsPlain : Text → Type 0
IsPlain [] = Unit {0}
IsPlain (b ∷ t) = (is_special b ≡ false) × IsPlain t

pub plain_append : (t u : Text) → IsPlain t → IsPlain u → IsPlain (t ++ u)
plain_append [] u h k = k
plain_append (b ∷ t) u h k = (h.0, plain_append t u h.1 k)

abbrev pub HasByte : Text → Type 0
HasByte [] = ⊥
HasByte (b ∷ t) = Unit {0}

pub plain_byte : (s : HostState) (b : ℕ) → is_special b ≡ false → after_byte s b ≡ after_byte s letter
plain_byte s b h = grind (arith, common_steps)

plain_rest : (s : HostState) (t : Text) → IsPlain t → after_text (after_byte s letter) t ≡ after_byte s letter
plain_rest s [] h = refl
plain_rest s (b ∷ t) h = grind (arith, common_steps, plain_rest s t h.1)

-- such a text is as good as a letter
pub plain_state : (s : HostState) (t : Text) → HasByte t → IsPlain t → after_text s t ≡ after_byte s letter
plain_state s t some h = grind (arith, plain_rest)

-- ---- one state covers another

-- it is the same one, or nothing more is found of a host that has ended, or everything is found
abbrev pub IsCovered : HostState → HostState → Type 0
IsCovered c a = (c ≡ Past) ⊎ ((c ≡ a) ⊎ (a ≡ Lost))

abbrev pub same : (c a : HostState) → c ≡ a → IsCovered c a
same c a e = inr (inl e)

pub covered_text : (c a : HostState) (t : Text) → IsCovered c a → IsCovered (after_text c t) (after_text a t)
covered_text c a t h = grind (arith, past_stays, lost_stays)

pub covered_by : (c a b : HostState) → IsCovered c a → IsCovered a b → IsCovered c b
covered_by c a b h k = grind (arith, common_steps)

-- ---- both rows

first_covered : (a b : HostState) → IsCovered a (for_both a b)
first_covered a b = grind (arith, common_steps)

second_covered : (a b : HostState) → IsCovered b (for_both a b)
second_covered a b = grind (arith, common_steps)

found_covered : (found s : HostState) (texts : List Text) → IsCovered found (after_texts_from found s texts)
found_covered found s [] = inr (inl refl)
found_covered found s (t ∷ texts) =
    let more = for_both found (after_text s t) in
    covered_by found more (after_texts_from more s texts) (first_covered found (after_text s t)) (found_covered more s texts)

-- the state after the cell of a row is covered by that for all rows
cell_covered_from : (cell_in_row : Row → Option Text) (found s : HostState) (rows : List Row) (row : ℕ) (cell : Text) → row < length rows
    → cell_in_row (get_or rows row []) ≡ Some cell → IsCovered (after_text s cell) (after_texts_from found s (filter_map cell_in_row rows))
cell_covered_from cell_in_row found s [] row cell within e = absurd (omega (arith, within))
cell_covered_from cell_in_row found s (cells ∷ rows) zero cell within e = grind (arith, second_covered, found_covered)
cell_covered_from cell_in_row found s (cells ∷ rows) (suc row) cell within e =
    by_first (cell_in_row cells) (λ f. cell_covered_from cell_in_row f s rows row cell (omega (arith, within)) e)
  where
    by_first : (first : Option Text)
        → ((f : HostState) → IsCovered (after_text s cell) (after_texts_from f s (filter_map cell_in_row rows)))
        → IsCovered (after_text s cell) (after_texts_from found s (cons_option first (filter_map cell_in_row rows)))
    by_first first later = grind (arith, common_steps)

pub cell_covered : (cell_in_row : Row → Option Text) (s : HostState) (rows : List Row) (row : ℕ) (cell : Text) → row < length rows
    → cell_in_row (get_or rows row []) ≡ Some cell → IsCovered (after_text s cell) (after_texts s (filter_map cell_in_row rows))
cell_covered cell_in_row s rows row cell within e = cell_covered_from cell_in_row Past s rows row cell within e
