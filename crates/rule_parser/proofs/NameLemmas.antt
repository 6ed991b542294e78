-- Texts without those that came before.
use Rattle.std.proofs.Common.{arith, ◌≡◌, ℕ, List, [], ◌∷◌, ◌++◌, Bool, true, false, not, ◌||◌, if◌then◌else◌, inl, inr, map, Bor, length, get_or, take, ◌<◌}
use Rattle.std.proofs.lemmas.Grind.{common_steps}
use Rattle.std.proofs.Common.{◌+◌, refl, ap, sym, ◌∙◌}
use Rattle.std.specs.List.{list_any, filter}
use Rattle.std.specs.Str.{bytes_eq}
use Rattle.std.specs.Cmp.Lexicographic.{same_text}
use Rattle.std.proofs.lemmas.Bool.{cases_Bool, or_left, not_from_false}
use Rattle.std.proofs.lemmas.List.{map-append, take_more}
use Rattle.std.proofs.lemmas.Map.Views.{any-filter_same}
use Rattle.text_model.specs.Texts.{Text}
use Rattle.environment_model.specs.Environment.{is_among}
use Rattle.environment_model.specs.Lists.{list_names}
use Rattle.rule_parser.specs.Names.{each_once}

abbrev others : Text → Text → Bool
others t other = not (bytes_eq t other)

-- a name among texts stays among them, each once
pub among_each_once : (x : Text) (xs : List Text) → is_among x (each_once xs) ≡ is_among x xs
among_each_once x [] = refl
among_each_once x (t ∷ ts) =
    elim (cases_Bool (bytes_eq t x)) [
      | inl e ↦ or_left (bytes_eq t x) _ e ∙ sym (or_left (bytes_eq t x) _ e)
      | inr e ↦ ap (λ b. bytes_eq t x || b) (any-filter_same (λ n. bytes_eq n x) (others t) true (kept e) (each_once ts) ∙ among_each_once x ts)
    ]
  where
    kept : bytes_eq t x ≡ false → (k : Text) → bytes_eq k x ≡ true → others t k ≡ true
    kept e k h = not_from_false (bytes_eq t k) (ap (bytes_eq t) (same_text k x (sym h)) ∙ e)

-- one more text at the end
pub each_once-push : (x : Text) (xs : List Text) → each_once (xs ++ x ∷ []) ≡ (if is_among x xs then each_once xs else each_once xs ++ x ∷ [])
each_once-push x [] = refl
each_once-push x (t ∷ ts) =
    ap (λ l. t ∷ filter (others t) l) (each_once-push x ts) ∙ by_case (is_among x ts) (bytes_eq t x) refl
  where
    by_case : (a b : Bool) → bytes_eq t x ≡ b → (t ∷ filter (others t) (if a then each_once ts else each_once ts ++ x ∷ []))
        ≡ (if b || a then (t ∷ filter (others t) (each_once ts)) else (t ∷ filter (others t) (each_once ts)) ++ x ∷ [])
    by_case a b e = grind (arith, common_steps)

any_lent : (x : Text) (items : List (Bor Text)) → is_among x (map (λ (y : Bor Text). y.now) items) ≡ list_any (λ (y : Bor Text). bytes_eq y.now x) items
any_lent x [] = refl
any_lent x (y ∷ items) = ap (λ b. bytes_eq y.now x || b) (any_lent x items)

-- one more text after borrowed ones, each once
pub once_more : (items : List (Bor Text)) (names : List Text) (x : Text) (b : Bool) → map (λ (y : Bor Text). y.now) items ≡ each_once names
    → list_any (λ (y : Bor Text). bytes_eq y.now x) items ≡ b
    → (if b then map (λ (y : Bor Text). y.now) items else map (λ (y : Bor Text). y.now) items ++ x ∷ []) ≡ each_once (names ++ x ∷ [])
once_more items names x b e h = grind (arith, among_each_once, any_lent, each_once-push)

pub lists_more : (items new : List (Bor Text)) (declared : List Text) (i : ℕ) (d : Text) (name : Bor Text) → i < length declared → d ≡ get_or declared i d
    → name.now ≡ d → map (λ (y : Bor Text). y.now) items ≡ each_once (list_names (take i declared))
    → list_any (λ (y : Bor Text). bytes_eq y.now name.now) items ≡ false → new ≡ items ++ name ∷ []
    → map (λ (y : Bor Text). y.now) new ≡ each_once (list_names (take (i + 1) declared))
lists_more items new declared i d name l g a e h p =
    ap (map (λ (y : Bor Text). y.now)) p ∙ map-append (λ (y : Bor Text). y.now) items (name ∷ [])
    ∙ once_more items (list_names (take i declared)) name.now false e h
    ∙ ap (λ t. each_once (list_names t)) (sym (take_more declared i d l ∙ ap (λ y. take i declared ++ y ∷ []) (sym g ∙ sym a)))

pub lists_same : (items new : List (Bor Text)) (declared : List Text) (i : ℕ) (d : Text) (name : Bor Text) → i < length declared → d ≡ get_or declared i d
    → name.now ≡ d → map (λ (y : Bor Text). y.now) items ≡ each_once (list_names (take i declared))
    → list_any (λ (y : Bor Text). bytes_eq y.now name.now) items ≡ true → new ≡ items
    → map (λ (y : Bor Text). y.now) new ≡ each_once (list_names (take (i + 1) declared))
lists_same items new declared i d name l g a e h p =
    ap (map (λ (y : Bor Text). y.now)) p ∙ once_more items (list_names (take i declared)) name.now true e h
    ∙ ap (λ t. each_once (list_names t)) (sym (take_more declared i d l ∙ ap (λ y. take i declared ++ y ∷ []) (sym g ∙ sym a)))
