-- The pages of a request that is OpenURL 1.0 stay as they are.
use Rattle.std.proofs.Common.{◌≡◌, List, [], ◌∷◌, Bool, true, false, cond, Option, Some, None, refl, ap, ◌∙◌, inl, inr}
use Rattle.std.specs.Prelude.{codes, slice_get}
use Rattle.std.specs.List.{All}
use Rattle.std.specs.Option.{option_and_then, option_map, option_or}
use Rattle.std.proofs.lemmas.List.Elements.{All-head}
use Rattle.text_model.specs.Texts.{Text}
use Rattle.kev_read.specs.Pairs.{KeyValue, all_of, first_of}
use Rattle.article_places.specs.Pages.{Range, only}
use Rattle.openurl_reading.specs.Steps.{unchanged}
use Rattle.openurl_reading.specs.Values.{led}
use Rattle.openurl_reading.specs.Pages.{read_pages, first_in, last_in, end_in, last_among, first_among, first_page}
use Rattle.openurl_reading.specs.ArticleNumbers.{article_in, is_article}
use Rattle.openurl_reading.specs.Canonical.{Under, IsPage, HasNoPage, HasNoArticle, ArePagesApart, first_page_apart, no_page}
use Rattle.openurl_reading.proofs.Firsts.{of_first}
use Rattle.openurl_reading.proofs.PagesLed.{end_of_values, leads_again}
use Rattle.openurl_reading.proofs.Settled.{led-same}

end_led : (v : Text) → IsPage v → led (end_in v) (Some v) ≡ unchanged
end_led v (inl e) =
    ap (λ r. led (option_or (option_and_then (λ (p : Range). p.last) r) (option_map (λ (p : Range). p.first) r)) (Some v)) e ∙ led-same (Some v)
end_led v (inr e) = ap (λ r. led (option_or (option_and_then (λ (p : Range). p.last) r) (option_map (λ (p : Range). p.first) r)) (Some v)) e

no_last : (v : Text) → IsPage v → last_in v ≡ None
no_last v (inl e) = ap (option_and_then (λ (p : Range). p.last)) e
no_last v (inr e) = ap (option_and_then (λ (p : Range). p.last)) e

last_of_pages : (firsts : List Text) → All IsPage firsts → of_first last_in firsts ≡ None
last_of_pages [] all = refl
last_of_pages (v ∷ vs) all = no_last v (All-head IsPage v vs all)

end_of_pages : (number : Option Text) (firsts : List Text) → All IsPage firsts → end_of_values number firsts ≡ None
end_of_pages number firsts all = by_test (is_article number (slice_get firsts 0))
  where
    by_test : (b : Bool) → cond b None (of_first last_in firsts) ≡ None
    by_test true = refl
    by_test false = last_of_pages firsts all

pub last_page_stays : (number : Option Text) (firsts values : List Text) → All IsPage firsts → All IsPage values
    → led (last_among values (end_of_values number firsts)) (slice_get values 0) ≡ unchanged
last_page_stays number firsts [] all own = ap (λ l. led l None) (end_of_pages number firsts all)
last_page_stays number firsts (v ∷ vs) all own = end_led v (All-head IsPage v vs own)

no_first : (pages : List Text) → All HasNoPage pages → of_first first_in pages ≡ None
no_first [] all = refl
no_first (v ∷ vs) all = ap (option_map (λ (p : Range). p.first)) (All-head HasNoPage v vs all)

no_article : (values : List Text) → All HasNoArticle values → of_first article_in values ≡ None
no_article [] all = refl
no_article (v ∷ vs) all = All-head HasNoArticle v vs all

first_led : (values : List Text) → All IsPage values
    → led (first_among None (slice_get values 0) (of_first first_in values) None) (slice_get values 0) ≡ unchanged
first_led [] all = refl
first_led (v ∷ vs) all = by_page (All-head IsPage v vs all)
  where
    by_page : IsPage v → led (option_or (first_in v) None) (Some v) ≡ unchanged
    by_page (inl e) = ap (λ r. led (option_or (option_map (λ (p : Range). p.first) r) None) (Some v)) e ∙ led-same (Some v)
    by_page (inr e) = ap (λ r. led (option_or (option_map (λ (p : Range). p.first) r) None) (Some v)) e

none_led : (number other : Option Text) (values : List Text) → number ≡ None → other ≡ None → All IsPage values
    → led (first_among number (slice_get values 0) (of_first first_in values) other) (slice_get values 0) ≡ unchanged
none_led number other values a b all =
    ap (λ n. led (first_among n (slice_get values 0) (of_first first_in values) other) (slice_get values 0)) a
    ∙ ap (λ o. led (first_among None (slice_get values 0) (of_first first_in values) o) (slice_get values 0)) b ∙ first_led values all

apart_led : (number other : Option Text) (values : List Text) (page : Text) → slice_get values 0 ≡ Some page → read_pages page ≡ Some (only page)
    → led (first_among number (slice_get values 0) (of_first first_in values) other) (slice_get values 0) ≡ unchanged
apart_led number other values page first alone =
    ap (λ o. led (first_among number o (option_and_then first_in o) other) o) first
    ∙ ap (λ f. led f (Some page)) (leads_again number page other (inl alone)) ∙ led-same (Some page)

pub first_page_stays : (pairs : List KeyValue) → Under pairs (codes "rft.spage") IsPage → ArePagesApart pairs
    → led (first_page pairs) (first_of pairs (codes "rft.spage")) ≡ unchanged
first_page_stays pairs all (first_page_apart page first alone) =
    apart_led (of_first article_in (all_of pairs (codes "rft.artnum"))) (of_first first_in (all_of pairs (codes "rft.pages")))
    (all_of pairs (codes "rft.spage")) page first alone
first_page_stays pairs all (no_page none no_number) =
    none_led (of_first article_in (all_of pairs (codes "rft.artnum"))) (of_first first_in (all_of pairs (codes "rft.pages")))
    (all_of pairs (codes "rft.spage")) (no_article (all_of pairs (codes "rft.artnum")) no_number) (no_first (all_of pairs (codes "rft.pages")) none) all
