-- What is found elsewhere for a key that has no value.
use Rattle.std.proofs.Common.{◌≡◌, List, [], ◌∷◌, Option, Some, None, refl, sym, ap, ◌∙◌, subst}
use Rattle.std.specs.Prelude.{slice_get}
use Rattle.std.specs.List.{All}
use Rattle.text_model.specs.Texts.{Text}
use Rattle.kev_read.specs.Pairs.{KeyValue, all_of, first_of}
use Rattle.openurl_reading.specs.Steps.{Step, unchanged, taken, after}
use Rattle.openurl_reading.specs.Values.{led}
use Rattle.openurl_reading.specs.Volumes.{without_own, filling}
use Rattle.openurl_reading.proofs.Copied.{still_some}
use Rattle.openurl_reading.proofs.Each.{each_taken, each_led}
use Rattle.openurl_reading.proofs.Filled.{HasSome, KeepsKey}
use Rattle.openurl_reading.proofs.Values.{values_after, all_of-taken-own}

pub own_is : (P : Text → Type 0) (values : List Text) (found : Option Text) → ((n : Text) → found ≡ Some n → P n)
    → (n : Text) → without_own values found ≡ Some n → P n
own_is P [] found h n e = h n e
own_is P (v ∷ vs) found h n e = cc

-- what holds of all pairs and of what is found
pub each_filling : (P : KeyValue → Type 0) (key : Text) (find : List KeyValue → Option Text) (pairs : List KeyValue)
    → ((n : Text) → find pairs ≡ Some n → P (record { key = key; value = n })) → All P pairs → All P (taken pairs (filling key find))
each_filling P key find pairs h all =
    let Q : Text → Type 0 = λ v. P (record { key = key; value = v }) in
    each_taken P (filling key find) pairs
    (each_led Q (without_own (all_of pairs key) (find pairs)) (first_of pairs key) (own_is Q (all_of pairs key) (find pairs) h)) all

-- ---- nothing is filled

pub filling-none : (key : Text) (find : List KeyValue → Option Text) (pairs : List KeyValue) → find pairs ≡ None
    → (filling key find).change pairs ≡ unchanged
filling-none key find pairs e =
    ap (λ o. led (without_own (all_of pairs key) o) (first_of pairs key)) e ∙ no_part (all_of pairs key)
  where
    no_part : (values : List Text) → led (without_own values None) (slice_get values 0) ≡ unchanged
    no_part [] = refl
    no_part (v ∷ vs) = refl

pub filling-some : (key : Text) (find : List KeyValue → Option Text) (pairs : List KeyValue) → HasSome (all_of pairs key)
    → (filling key find).change pairs ≡ unchanged
filling-some key find pairs some = ap (λ values. led (without_own values (find pairs)) (slice_get values 0)) some.2

-- ---- once

fills : (values : List Text) (n : Text) → HasSome (values_after (led (without_own values (Some n)) (slice_get values 0)) values)
fills [] n = (n, [], refl)
fills (v ∷ vs) n = (v, vs, refl)

-- if nothing more is found where nothing was, and later steps keep the values of the key
pub filling_settles : (key : Text) (find : List KeyValue → Option Text) (before now : List KeyValue) (later : List Step)
    → now ≡ after later (taken before (filling key find)) → All (KeepsKey key) later → (find before ≡ None → find now ≡ None)
    → (filling key find).change now ≡ unchanged
filling_settles key find before now later is keeps none = by_found (find before) refl
  where
    next : List KeyValue
    next = taken before (filling key find)

    by_found : (found : Option Text) → find before ≡ found → (filling key find).change now ≡ unchanged
    by_found None e = filling-none key find now (none e)
    by_found (Some n) e =
        let values = all_of before key in
        let own : all_of next key ≡ values_after (led (without_own values (Some n)) (slice_get values 0)) values =
        all_of-taken-own (filling key find) before
        ∙ ap (λ o. values_after (led (without_own values o) (slice_get values 0)) values) e in
        filling-some key find now
        (subst (λ p. HasSome (all_of p key)) (sym is) (still_some key later next keeps (subst HasSome (sym own) (fills values n))))
