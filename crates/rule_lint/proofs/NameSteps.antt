-- Names without those that came before, one more at a time.
use Rattle.std.proofs.Common.{arith, ◌≡◌, ℕ, ◌+◌, ◌<◌, Bool, true, false, cond, not, ◌||◌, List, [], ◌∷◌, ◌++◌, length, take, get_or, Bor}
use Rattle.std.proofs.Common.{refl, sym, ap, ◌∙◌, append-nil}
use Rattle.std.specs.Str.{bytes_eq}
use Rattle.std.proofs.lemmas.Grind.{common_steps}
use Rattle.std.proofs.lemmas.List.{map-append, take_more}
use Rattle.std.proofs.lemmas.List.Folds.{list_any-append}
use Rattle.text_model.specs.Texts.{Text, texts_of}
use Rattle.environment_model.specs.Environment.{is_among}
use Rattle.rule_parser.specs.Names.{each_once}
use Rattle.rule_parser.proofs.NameLemmas.{each_once-push}

pub texts_more : (names : List (Bor Text)) (i : ℕ) (d : Bor Text) → i < length names
    → texts_of (take (i + 1) names) ≡ texts_of (take i names) ++ (get_or names i d).now ∷ []
texts_more names i d within =
    ap texts_of (take_more names i d within) ∙ map-append (λ (name : Bor Text). name.now) (take i names) (get_or names i d ∷ [])

-- the names that were seen, and one more
pub among_more : (before : List Text) (name other : Text) (known : Bool) → known ≡ is_among other before
    → cond (bytes_eq name other) true known ≡ is_among other (before ++ name ∷ [])
among_more before name other known e =
    ap (cond (bytes_eq name other) true) e ∙ either (is_among other before) (bytes_eq name other)
    ∙ sym (list_any-append (λ (n : Text). bytes_eq n other) before (name ∷ []))
  where
    either : (known is : Bool) → cond is true known ≡ (known || (is || false))
    either known is = grind (arith, common_steps)

-- one more name, if it is new
pub once_more : (before found : List Text) (name : Text) (known : Bool) → found ≡ each_once before → known ≡ is_among name before
    → found ++ cond (not known) (name ∷ []) [] ≡ each_once (before ++ name ∷ [])
once_more before found name known once e =
    ap (λ (texts : List Text). texts ++ cond (not known) (name ∷ []) []) once ∙ by_case known (each_once before)
    ∙ sym (each_once-push name before ∙ ap (λ (b : Bool). cond b (each_once before) (each_once before ++ name ∷ [])) (sym e))
  where
    by_case : (known : Bool) (texts : List Text) → texts ++ cond (not known) (name ∷ []) [] ≡ cond known texts (texts ++ name ∷ [])
    by_case true texts = append-nil texts
    by_case false texts = refl
