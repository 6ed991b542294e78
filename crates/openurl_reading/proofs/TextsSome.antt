-- A key has some values after the steps of texts, and all others, if it had some before, and none if it had none.
use Rattle.std.proofs.Common.{◌≡◌, List, [], ◌∷◌, map, take, Bool, true, false, cond, not, refl, ap, ◌∙◌, subst}
use Rattle.std.specs.Prelude.{slice_get}
use Rattle.std.specs.List.{list_all}
use Rattle.std.specs.Option.{is_some}
use Rattle.std.specs.Str.{bytes_eq}
use Rattle.std.proofs.lemmas.List.Sums.{fold-append}
use Rattle.text_model.specs.Texts.{Text}
use Rattle.kev_read.specs.Pairs.{KeyValue, all_of}
use Rattle.written_texts.specs.declared.readings.Role.{Role}
use Rattle.written_texts.specs.declared.readings.Role.TheVariants.{Title, Other}
use Rattle.written_texts.specs.Readings.{written}
use Rattle.openurl_reading.specs.Steps.{unchanged, replacing, taken, after}
use Rattle.openurl_reading.specs.Values.{most_values}
use Rattle.openurl_reading.specs.Citations.{citing_steps}
use Rattle.openurl_reading.specs.Texts.{are_read, as_texts, texting, title_texts, other_texts, text_steps}
use Rattle.openurl_reading.proofs.CitingSteps.{before_name, citing_some}
use Rattle.openurl_reading.proofs.KeysSettle.{same_after}
use Rattle.openurl_reading.proofs.Stages.{led_steps, last_steps, last-is}
use Rattle.openurl_reading.proofs.Values.{same_key, values_after, all_of-taken, all_of-taken-own}

abbrev pub has_some : List KeyValue → Text → Bool
has_some pairs key = is_some (slice_get (all_of pairs key) 0)

values_some : (role : Role) (values : List Text)
    → is_some (slice_get (values_after (as_texts role (take most_values values)) values) 0) ≡ is_some (slice_get values 0)
values_some role [] = refl
values_some role (v ∷ vs) = by_test (are_read role (take most_values (v ∷ vs)))
  where
    by_test : (b : Bool)
        → is_some (slice_get (values_after (cond b unchanged (replacing (map (written role) (take most_values (v ∷ vs))))) (v ∷ vs)) 0) ≡ true
    by_test true = refl
    by_test false = refl

step_some : (role : Role) (own key : Text) (pairs : List KeyValue) → has_some (taken pairs (texting role own)) key ≡ has_some pairs key
step_some role own key pairs = by_key (bytes_eq own key) refl
  where
    by_key : (b : Bool) → bytes_eq own key ≡ b → has_some (taken pairs (texting role own)) key ≡ has_some pairs key
    by_key true e =
        subst (λ k. has_some (taken pairs (texting role own)) k ≡ has_some pairs k) (same_key own key e)
        (ap (λ values. is_some (slice_get values 0)) (all_of-taken-own (texting role own) pairs) ∙ values_some role (all_of pairs own))
    by_key false e = ap (λ values. is_some (slice_get values 0)) (all_of-taken (texting role own) pairs key e)

steps_some : (role : Role) (keys : List Text) (key : Text) (pairs : List KeyValue)
    → has_some (after (map (texting role) keys) pairs) key ≡ has_some pairs key
steps_some role [] key pairs = refl
steps_some role (own ∷ keys) key pairs = steps_some role keys key (taken pairs (texting role own)) ∙ step_some role own key pairs

pub texts_some : (key : Text) (pairs : List KeyValue) → has_some (after text_steps pairs) key ≡ has_some pairs key
texts_some key pairs =
    ap (λ p. has_some p key) (fold-append taken pairs (map (texting Title) title_texts) (map (texting Other) other_texts))
    ∙ steps_some Other other_texts key (after (map (texting Title) title_texts) pairs) ∙ steps_some Title title_texts key pairs

-- ---- all steps after the format

pub last_some : (key : Text) (pairs : List KeyValue) → list_all (λ step. not (bytes_eq step.key key)) led_steps ≡ true
    → list_all (λ step. not (bytes_eq step.key key)) before_name ≡ true → has_some (after last_steps pairs) key ≡ has_some pairs key
last_some key pairs h g =
    let cited = after citing_steps pairs in
    ap (λ p. has_some p key) (last-is pairs) ∙ ap (λ values. is_some (slice_get values 0)) (same_after led_steps (after text_steps cited) key h)
    ∙ texts_some key cited ∙ citing_some key pairs g

no_value : (values : List Text) → is_some (slice_get values 0) ≡ false → values ≡ []
no_value [] h = refl
no_value (v ∷ vs) h = cc

pub last_none : (key : Text) (pairs : List KeyValue) → list_all (λ step. not (bytes_eq step.key key)) led_steps ≡ true
    → list_all (λ step. not (bytes_eq step.key key)) before_name ≡ true → all_of pairs key ≡ [] → all_of (after last_steps pairs) key ≡ []
last_none key pairs h g none =
    no_value (all_of (after last_steps pairs) key) (last_some key pairs h g ∙ ap (λ values. is_some (slice_get values 0)) none)
