-- The pages that lead their keys are read again.
use Rattle.std.proofs.Common.{◌≡◌, List, [], ◌∷◌, Bool, true, false, cond, Option, Some, None, refl, sym, ap, ◌∙◌, inl, inr, ◌⊎◌}
use Rattle.std.specs.Prelude.{slice_get}
use Rattle.std.specs.Option.{option_and_then, option_map, option_or}
use Rattle.std.specs.Str.{bytes_eq}
use Rattle.text_model.specs.Texts.{Text}
use Rattle.article_places.specs.Pages.{Range, only}
use Rattle.openurl_reading.specs.ArticleNumbers.{is_article}
use Rattle.openurl_reading.specs.Steps.{unchanged, leading}
use Rattle.openurl_reading.specs.Values.{led}
use Rattle.openurl_reading.specs.Pages.{read_pages, first_in, last_in, end_in, last_among, first_among, end_among}
use Rattle.openurl_reading.proofs.Firsts.{of_first}
use Rattle.openurl_reading.proofs.Led.{IsFoundAgain, led_again, led_settles}
use Rattle.openurl_reading.proofs.Others.{bytes_eq-same}
use Rattle.openurl_reading.proofs.Values.{same_key, values_after}

-- a page alone, which may be too long to be read
abbrev pub IsPageAgain : Text → Type 0
IsPageAgain page = (read_pages page ≡ Some (only page)) ⊎ (read_pages page ≡ None)

-- what the crate of pages promises
pub record ArePagesAgain : Type 0 where
  pub first : (value page : Text) → first_in value ≡ Some page → read_pages page ≡ Some (only page)
  pub last : (value page : Text) → last_in value ≡ Some page → IsPageAgain page

-- by the values of the keys
abbrev pub first_of_values : Option Text → List Text → List Text → Option Text
first_of_values number pages values = first_among number (slice_get values 0) (of_first first_in values) (of_first first_in pages)

abbrev pub end_of_values : Option Text → List Text → Option Text
end_of_values number values = end_among number (slice_get values 0) (of_first last_in values)

-- a page alone, or the number of the article
abbrev pub IsLeading : Option Text → Text → Type 0
IsLeading number n = (read_pages n ≡ Some (only n)) ⊎ (number ≡ Some n)

abbrev pub AreLeading : Option Text → Option Text → Type 0
AreLeading number found = (n : Text) → found ≡ Some n → IsLeading number n

or_again : (number a b : Option Text) → AreLeading number a → AreLeading number b → AreLeading number (option_or a b)
or_again number None b p q = q
or_again number (Some t) b p q = p

one_again : ArePagesAgain → (number : Option Text) (values : List Text) → AreLeading number (of_first first_in values)
one_again laws number [] n e = cc
one_again laws number (v ∷ vs) n e = inl (laws.first v n e)

first_is_leading : ArePagesAgain → (number : Option Text) (pages values : List Text) → AreLeading number (first_of_values number pages values)
first_is_leading laws number pages values = by_test (is_article number (slice_get values 0))
  where
    own : Option Text
    own = of_first first_in values

    other : Option Text
    other = of_first first_in pages

    by_test : (b : Bool) → AreLeading number (cond b number (option_or own (option_or other number)))
    by_test true = λ n e. inr e
    by_test false =
        or_again number own (option_or other number) (one_again laws number values)
        (or_again number other number (one_again laws number pages) (λ n e. inr e))

is_article-same : (number : Option Text) (n : Text) (b : Bool) → is_article number (Some n) ≡ b → b ≡ true → number ≡ Some n
is_article-same None n b h t = cc
is_article-same (Some a) n b h t = ap (λ x. Some x) (sym (same_key n a (h ∙ t)))

-- what leads is found again
pub leads_again : (number : Option Text) (n : Text) (other : Option Text) → IsLeading number n → first_among number (Some n) (first_in n) other ≡ Some n
leads_again number n other (inr is) =
    ap (λ a. cond (is_article a (Some n)) a (option_or (first_in n) (option_or other a))) is
    ∙ ap (λ b. cond b (Some n) (option_or (first_in n) (option_or other (Some n)))) (bytes_eq-same n)
leads_again number n other (inl alone) = by_test (is_article number (Some n)) refl
  where
    by_test : (b : Bool) → is_article number (Some n) ≡ b → cond b number (option_or (first_in n) (option_or other number)) ≡ Some n
    by_test true h = is_article-same number n true h refl
    by_test false h = ap (λ r. option_or (option_map (λ (p : Range). p.first) r) (option_or other number)) alone

pub first_again : ArePagesAgain → (number : Option Text) (pages values : List Text) → IsFoundAgain (first_of_values number pages) values
first_again laws number pages values n e = inl (leads_again number n (of_first first_in pages) (first_is_leading laws number pages values n e))

pub same_leading : (number number' : Option Text) (pages values pages' values' : List Text) → number' ≡ number → pages' ≡ pages → values' ≡ values
    → values_after (led (first_of_values number' pages' values') (slice_get values' 0)) values'
    ≡ values_after (led (first_of_values number pages values) (slice_get values 0)) values
same_leading number number' pages values pages' values' a e g = rw (a, e, g) refl

-- ---- the last page

-- a page alone has no last page
last_of_alone : (page : Text) → IsPageAgain page → last_in page ≡ None
last_of_alone page (inl e) = ap (λ r. option_and_then (λ (p : Range). p.last) r) e
last_of_alone page (inr e) = ap (λ r. option_and_then (λ (p : Range). p.last) r) e

end_again : (page : Text) → IsPageAgain page → (end_in page ≡ Some page) ⊎ (end_in page ≡ None)
end_again page (inl e) =
    inl (ap (λ r. option_or (option_and_then (λ (p : Range). p.last) r) (option_map (λ (p : Range). p.first) r)) e)
end_again page (inr e) =
    inr (ap (λ r. option_or (option_and_then (λ (p : Range). p.last) r) (option_map (λ (p : Range). p.first) r)) e)

-- what leads ends nothing
no_end : (number : Option Text) (n : Text) → IsLeading number n → end_among number (Some n) (last_in n) ≡ None
no_end number n (inr is) =
    ap (λ a. cond (is_article a (Some n)) None (last_in n)) is ∙ ap (λ b. cond b None (last_in n)) (bytes_eq-same n)
no_end number n (inl alone) = by_test (is_article number (Some n))
  where
    by_test : (b : Bool) → cond b None (last_in n) ≡ None
    by_test true = refl
    by_test false = last_of_alone n (inl alone)

-- without a last page before, there is none after the first page leads
still_none : (number found first : Option Text) (values : List Text) → slice_get values 0 ≡ first → AreLeading number found
    → end_of_values number values ≡ None → end_of_values number (values_after (led found first) values) ≡ None
still_none number None first values g again h = h
still_none number (Some n) None values g again h = no_end number n (again n refl)
still_none number (Some n) (Some v) values g again h = by_test (bytes_eq v n)
  where
    by_test : (b : Bool) → end_of_values number (values_after (cond b unchanged (leading (n ∷ []))) values) ≡ None
    by_test true = h
    by_test false = no_end number n (again n refl)

or_end : (last first : Option Text) (P : Text → Type 0) → ((n : Text) → last ≡ Some n → P n) → ((n : Text) → first ≡ Some n → P n) → (n : Text)
    → option_or last first ≡ Some n → P n
or_end None first P l f n e = f n e
or_end (Some t) first P l f n e = l n e

end_is_again : ArePagesAgain → (value n : Text) → end_in value ≡ Some n → IsPageAgain n
end_is_again laws value n e = or_end (last_in value) (first_in value) IsPageAgain (laws.last value) (λ m g. inl (laws.first value m g)) n e

abbrev IsLastSettled : Option Text → List Text → Type 0
IsLastSettled last values = led (last_among values last) (slice_get values 0) ≡ unchanged

among_settles : ArePagesAgain → (values : List Text) (last now : Option Text) → ((n : Text) → last ≡ Some n → IsPageAgain n) → (last ≡ None → now ≡ None)
    → IsLastSettled now (values_after (led (last_among values last) (slice_get values 0)) values)
among_settles laws [] None now again none = ap (λ l. led l None) (none refl)
among_settles laws [] (Some n) now again none = led_again (end_in n) n (end_again n (again n refl))
among_settles laws (v ∷ vs) last now again none =
    led_settles (λ values. last_among values now) (v ∷ vs) (λ n e. end_again n (end_is_again laws v n e))

last_is_again : ArePagesAgain → (firsts : List Text) (n : Text) → of_first last_in firsts ≡ Some n → IsPageAgain n
last_is_again laws [] n e = cc
last_is_again laws (v ∷ vs) n e = laws.last v n e

end_is_last : ArePagesAgain → (number : Option Text) (firsts : List Text) (n : Text) → end_of_values number firsts ≡ Some n → IsPageAgain n
end_is_last laws number firsts n e = by_test (is_article number (slice_get firsts 0)) e
  where
    by_test : (b : Bool) → cond b None (of_first last_in firsts) ≡ Some n → IsPageAgain n
    by_test true h = cc
    by_test false h = last_is_again laws firsts n h

pub last_settles : ArePagesAgain → (number : Option Text) (pages firsts values : List Text)
    → IsLastSettled (end_of_values number (values_after (led (first_of_values number pages firsts) (slice_get firsts 0)) firsts))
    (values_after (led (last_among values (end_of_values number firsts)) (slice_get values 0)) values)
last_settles laws number pages firsts values =
    among_settles laws values (end_of_values number firsts) _ (end_is_last laws number firsts)
    (still_none number (first_of_values number pages firsts) (slice_get firsts 0) firsts refl (first_is_leading laws number pages firsts))
