-- A request names its format after its step, or is empty.
use Rattle.std.proofs.Common.{◌≡◌, List, [], ◌∷◌, length, true, false, refl, sym, ap, ◌∙◌, subst, inl, inr, ◌⊎◌, arith}
use Rattle.std.specs.Prelude.{◌≢◌, codes, slice_get}
use Rattle.std.specs.Option.{is_some}
use Rattle.text_model.specs.Texts.{Text}
use Rattle.kev_read.specs.Pairs.{KeyValue, all_of}
use Rattle.openurl_reading.specs.Kinds.{has, kind_of}
use Rattle.openurl_reading.specs.Steps.{unchanged, leading, taken, after}
use Rattle.openurl_reading.specs.OldKeys.{filled}
use Rattle.openurl_reading.specs.Formats.{format_of, formatted, format_step}
use Rattle.openurl_reading.proofs.Filled.{HasSome}
use Rattle.openurl_reading.proofs.KeysSettle.{same_after}
use Rattle.openurl_reading.proofs.Stages.{last_steps}
use Rattle.openurl_reading.proofs.Values.{values_after, all_of-taken-own}

pub IsFormatted : List KeyValue → Type 0
IsFormatted pairs = (pairs ≡ []) ⊎ HasSome (all_of pairs (codes "rft_val_fmt"))

one_fills : (value : Text) (known : List Text) → HasSome (values_after (filled (value ∷ []) known) known)
one_fills value [] = (value, [], refl)
one_fills value (v ∷ vs) = (v, vs, refl)

step_formats : (pairs : List KeyValue) → IsFormatted (taken pairs format_step)
unfolding IsFormatted
step_formats [] = inl refl
step_formats (pair ∷ pairs) =
    let all = pair ∷ pairs in
    inr (subst HasSome (sym (all_of-taken-own format_step all)) (one_fills (format_of (kind_of all)) (all_of all (codes "rft_val_fmt"))))

-- the steps after it leave an empty request
last_steps-none : after last_steps [] ≡ []
last_steps-none = refl

last_format : (pairs : List KeyValue) → IsFormatted pairs → IsFormatted (after last_steps pairs)
unfolding IsFormatted
last_format pairs (inl none) = inl (ap (after last_steps) none ∙ last_steps-none)
last_format pairs (inr some) = inr (subst HasSome (sym (same_after last_steps pairs (codes "rft_val_fmt") refl)) some)

pub format-stays : (pairs : List KeyValue) → HasSome (all_of pairs (codes "rft_val_fmt")) → formatted pairs ≡ unchanged
format-stays [] some = refl
format-stays (pair ∷ pairs) some = ap (λ known. filled (format_of (kind_of (pair ∷ pairs)) ∷ []) known) some.2

formatted-stays : (pairs : List KeyValue) → IsFormatted pairs → formatted pairs ≡ unchanged
unfolding IsFormatted
formatted-stays pairs (inl none) = ap formatted none
formatted-stays pairs (inr some) = format-stays pairs some

pub format_settles : (before : List KeyValue) → formatted (after last_steps (taken before format_step)) ≡ unchanged
format_settles before =
    formatted-stays (after last_steps (taken before format_step)) (last_format (taken before format_step) (step_formats before))

-- a request that has one
pub some_value : (values : List Text) → is_some (slice_get values 0) ≡ true → HasSome values
some_value [] h = cc
some_value (v ∷ vs) h = (v, vs, refl)

-- ---- by the tests of the code

pub empty : (pairs : List KeyValue) → length pairs ≡ 0 → formatted pairs ≡ unchanged
empty [] h = refl
empty (pair ∷ pairs) h = absurd (omega (arith, h))

pub named : (pairs : List KeyValue) → has pairs (codes "rft_val_fmt") ≡ true → formatted pairs ≡ unchanged
named pairs h = format-stays pairs (some_value (all_of pairs (codes "rft_val_fmt")) h)

no_value : (values : List Text) → is_some (slice_get values 0) ≡ false → values ≡ []
no_value [] h = refl
no_value (v ∷ vs) h = cc

pub new : (pairs : List KeyValue) → length pairs ≢ 0 → has pairs (codes "rft_val_fmt") ≡ false
    → formatted pairs ≡ leading (format_of (kind_of pairs) ∷ [])
new [] some h = absurd (some refl)
new (pair ∷ pairs) some h =
    ap (filled (format_of (kind_of (pair ∷ pairs)) ∷ [])) (no_value (all_of (pair ∷ pairs) (codes "rft_val_fmt")) h)
