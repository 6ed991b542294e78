-- Nothing in a reading is invented.
use Rattle.std.proofs.Common.{◌≡◌, List, [], ◌∷◌, ◌++◌, take, drop, Bool, false, true, cond, not, Option, Some, None, sym, subst, inl, inr, get_or, arith}
use Rattle.std.specs.Prelude.{codes, slice_get, Contains}
use Rattle.std.specs.List.{All, flat_map, list_all}
use Rattle.std.specs.Option.{option_or}
use Rattle.std.specs.Str.{bytes_eq}
use Rattle.std.proofs.lemmas.Bool.{not-true}
use Rattle.std.proofs.lemmas.List.Sums.{AllPass-from_list_all}
use Rattle.std.proofs.lemmas.List.Elements.{All-append, All-take, All-drop, Contains-get_or}
use Rattle.text_model.specs.Texts.{Text}
use Rattle.standard_numbers.specs.Issn.{issns_in}
use Rattle.standard_numbers.specs.Isbn.{isbns_in}
use Rattle.openurl_reading.specs.Values.{most_values, searched, led}
use Rattle.openurl_reading.specs.Numbers.{eissn_among, other_than}
use Rattle.openurl_reading.specs.Origins.{HasOrigin, issn_in, isbn_in, date_of, page_in, last_page_in, article_number_in}
use Rattle.openurl_reading.specs.ArticleNumbers.{article_in, is_article}
use Rattle.openurl_reading.specs.Pages.{first_in, last_in, last_among}
use Rattle.openurl_reading.proofs.Firsts.{of_first}
use Rattle.openurl_reading.proofs.DateLed.{date_of_first}
use Rattle.openurl_reading.proofs.Each.{none_has, one_has, each_after, each_found}
use Rattle.openurl_reading.proofs.FoundAgain.{IsIssnAgain, IsIsbnAgain, first_has, other_has, issn_among, further_among, isbn_among}
use Rattle.openurl_reading.proofs.PagesLed.{first_of_values, end_of_values}
use Rattle.openurl_reading.proofs.Values.{values_after}

-- ---- the keys of numbers

abbrev pub number_keys : List Text
number_keys = codes "rft.issn" ∷ codes "rft.eissn" ∷ codes "rft.isbn" ∷ codes "rft.eisbn" ∷ []

pub no_number : (key : Text) → list_all (λ other. not (bytes_eq key other)) number_keys ≡ true → All (λ other. bytes_eq key other ≡ false) number_keys
no_number key h k d g = not-true _ (AllPass-from_list_all (λ other. not (bytes_eq key other)) number_keys h k d g)

-- ---- values of which each number that is found in them has an origin

abbrev pub GivesIssns : List Text → Text → Type 0
GivesIssns sent value = All (HasOrigin sent) (issns_in (searched value))

abbrev pub GivesIsbns : List Text → Text → Type 0
GivesIsbns sent value = All (HasOrigin sent) (isbns_in (searched value))

pub sent_gives_issns : (sent : List Text) (value : Text) → Contains sent value → GivesIssns sent value
sent_gives_issns sent value h k d g = issn_in value (get_or (issns_in (searched value)) k d) h (Contains-get_or (issns_in (searched value)) k d g)

pub sent_gives_isbns : (sent : List Text) (value : Text) → Contains sent value → GivesIsbns sent value
sent_gives_isbns sent value h k d g = isbn_in value (get_or (isbns_in (searched value)) k d) h (Contains-get_or (isbns_in (searched value)) k d g)

again_gives_issns : (sent : List Text) (issn : Text) → HasOrigin sent issn → IsIssnAgain issn → GivesIssns sent issn
again_gives_issns sent issn has (inl one) = subst (All (HasOrigin sent)) (sym one) (one_has (HasOrigin sent) issn has)
again_gives_issns sent issn has (inr none) = subst (All (HasOrigin sent)) (sym none) (none_has (HasOrigin sent))

again_gives_isbns : (sent : List Text) (isbn : Text) → HasOrigin sent isbn → IsIsbnAgain isbn → GivesIsbns sent isbn
again_gives_isbns sent isbn has one = subst (All (HasOrigin sent)) (sym one) (one_has (HasOrigin sent) isbn has)

pub issns_have : (sent values : List Text) → All (GivesIssns sent) values
    → All (HasOrigin sent) (flat_map (λ v. issns_in (searched v)) (take most_values values))
issns_have sent values all =
    each_found (HasOrigin sent) (λ v. issns_in (searched v)) (take most_values values) (All-take (GivesIssns sent) most_values values all)

further_have : (sent values : List Text) → All (GivesIssns sent) values
    → All (HasOrigin sent) (flat_map (λ v. drop 1 (issns_in (searched v))) (take most_values values))
further_have sent values all =
    each_found (HasOrigin sent) (λ v. drop 1 (issns_in (searched v))) (take most_values values)
    (λ k d h. All-drop (HasOrigin sent) 1 _ (All-take (GivesIssns sent) most_values values all k d h))

isbns_have : (sent values : List Text) → All (GivesIsbns sent) values
    → All (HasOrigin sent) (flat_map (λ v. isbns_in (searched v)) (take most_values values))
isbns_have sent values all =
    each_found (HasOrigin sent) (λ v. isbns_in (searched v)) (take most_values values) (All-take (GivesIsbns sent) most_values values all)

-- ---- what leads

abbrev Has : List Text → Option Text → Type 0
Has sent found = (n : Text) → found ≡ Some n → HasOrigin sent n

pub issn_has : (sent values : List Text) → All (GivesIssns sent) values → Has sent (issn_among values)
issn_has sent values all n e = first_has (HasOrigin sent) _ n (issns_have sent values all) e

pub eissn_has : (sent issns values : List Text) → All (GivesIssns sent) issns → All (GivesIssns sent) values
    → Has sent (eissn_among values (further_among issns))
eissn_has sent issns [] all own n e = other_has (HasOrigin sent) (issn_among issns) _ n (further_have sent issns all) e
eissn_has sent issns (v ∷ vs) all own n e = issn_has sent (v ∷ vs) own n e

pub isbn_has : (sent others values : List Text) → All (GivesIsbns sent) others → All (GivesIsbns sent) values → Has sent (isbn_among others values)
isbn_has sent others values more all n e =
    first_has (HasOrigin sent) _ n (All-append (HasOrigin sent) _ _ (isbns_have sent values all) (isbns_have sent others more)) e

pub second_has : (sent issns eissns : List Text) (first : Option Text) → All (GivesIssns sent) issns → All (GivesIssns sent) eissns
    → Has sent (other_than first (flat_map (λ v. issns_in (searched v)) (take most_values issns)
    ++ flat_map (λ v. issns_in (searched v)) (take most_values eissns)))
second_has sent issns eissns first all more n e =
    other_has (HasOrigin sent) first _ n (All-append (HasOrigin sent) _ _ (issns_have sent issns all) (issns_have sent eissns more)) e

none_found : (sent : List Text) → Has sent None
none_found sent n e = cc

date_has : (sent values : List Text) → All (Contains sent) values → Has sent (date_of_first values)
date_has sent [] all n e = none_found sent n e
date_has sent (v ∷ vs) all n e = date_of v n (all 0 v (omega arith)) e

or_has : (sent : List Text) (a b : Option Text) → Has sent a → Has sent b → Has sent (option_or a b)
or_has sent None b p q = q
or_has sent (Some t) b p q = p

pub dates_have : (sent dates years old old_years : List Text) → All (Contains sent) dates → All (Contains sent) years → All (Contains sent) old
    → All (Contains sent) old_years
    → Has sent (option_or (date_of_first dates) (option_or (date_of_first years) (option_or (date_of_first old) (option_or (date_of_first old_years) None))))
dates_have sent dates years old old_years a b c d =
    or_has sent _ _ (date_has sent dates a)
    (or_has sent _ _ (date_has sent years b) (or_has sent _ _ (date_has sent old c) (or_has sent _ _ (date_has sent old_years d) (none_found sent))))

-- ---- pages

abbrev pub page_keys : List Text
page_keys = codes "rft.spage" ∷ codes "rft.epage" ∷ codes "rft.artnum" ∷ []

-- each page that is found in the value has an origin
abbrev pub GivesPage : List Text → Text → Type 0
GivesPage sent value = (n : Text) → first_in value ≡ Some n → HasOrigin sent n

first_of_gives : (sent values : List Text) → All (GivesPage sent) values → Has sent (of_first first_in values)
first_of_gives sent [] all n e = none_found sent n e
first_of_gives sent (v ∷ vs) all n e = all 0 v (omega arith) n e

first_of_has : (sent values : List Text) → All (Contains sent) values → Has sent (of_first first_in values)
first_of_has sent [] all n e = none_found sent n e
first_of_has sent (v ∷ vs) all n e = page_in v n (all 0 v (omega arith)) e

last_of_has : (sent values : List Text) → All (Contains sent) values → Has sent (of_first last_in values)
last_of_has sent [] all n e = none_found sent n e
last_of_has sent (v ∷ vs) all n e = last_page_in v n (all 0 v (omega arith)) e

pub article_has : (sent values : List Text) → All (Contains sent) values → Has sent (of_first article_in values)
article_has sent [] all n e = none_found sent n e
article_has sent (v ∷ vs) all n e = article_number_in v n (all 0 v (omega arith)) e

pub first_page_has : (sent firsts pages numbers : List Text) → All (Contains sent) firsts → All (GivesPage sent) pages → All (Contains sent) numbers
    → Has sent (first_of_values (of_first article_in numbers) pages firsts)
first_page_has sent firsts pages numbers a b c = by_test (is_article number (slice_get firsts 0))
  where
    number : Option Text
    number = of_first article_in numbers

    by_test : (t : Bool) → Has sent (cond t number (option_or (of_first first_in firsts) (option_or (of_first first_in pages) number)))
    by_test true = article_has sent numbers c
    by_test false = or_has sent _ _ (first_of_has sent firsts a) (or_has sent _ _ (first_of_gives sent pages b) (article_has sent numbers c))

end_has : (sent firsts : List Text) (number : Option Text) → All (Contains sent) firsts → Has sent (end_of_values number firsts)
end_has sent firsts number a = by_test (is_article number (slice_get firsts 0))
  where
    by_test : (t : Bool) → Has sent (cond t None (of_first last_in firsts))
    by_test true = none_found sent
    by_test false = last_of_has sent firsts a

pub last_page_has : (sent firsts values : List Text) (number : Option Text) → All (Contains sent) firsts → All (Contains sent) values
    → Has sent (last_among values (end_of_values number firsts))
last_page_has sent firsts [] number a b = end_has sent firsts number a
last_page_has sent firsts (v ∷ vs) number a b =
    let known = b 0 v (omega arith) in or_has sent (last_in v) (first_in v) (λ n e. last_page_in v n known e) (λ n e. page_in v n known e)

-- ---- values after a number leads them

pub led_gives_issns : (sent : List Text) (found first : Option Text) (values : List Text) → Has sent found → ((n : Text) → found ≡ Some n → IsIssnAgain n)
    → All (GivesIssns sent) values → All (GivesIssns sent) (values_after (led found first) values)
led_gives_issns sent found first values has again all =
    each_after (GivesIssns sent) found first values (λ n e. again_gives_issns sent n (has n e) (again n e)) all

pub led_gives_isbns : (sent : List Text) (found first : Option Text) (values : List Text) → Has sent found → ((n : Text) → found ≡ Some n → IsIsbnAgain n)
    → All (GivesIsbns sent) values → All (GivesIsbns sent) (values_after (led found first) values)
led_gives_isbns sent found first values has again all =
    each_after (GivesIsbns sent) found first values (λ n e. again_gives_isbns sent n (has n e) (again n e)) all
