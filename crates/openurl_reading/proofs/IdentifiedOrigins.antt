-- The ISSN and the ISBN among identifiers were found in one value of the request.
use Rattle.std.proofs.Common.{◌≡◌, List, [], ◌∷◌, not, Option, Some, refl, sym, subst, get_or}
use Rattle.std.specs.Prelude.{codes, Contains}
use Rattle.std.specs.List.{All}
use Rattle.std.proofs.lemmas.Bool.{not-true}
use Rattle.std.proofs.lemmas.List.Sums.{AllPass-from_list_all}
use Rattle.text_model.specs.Texts.{Text}
use Rattle.kev_read.specs.Pairs.{KeyValue, all_of, first_of}
use Rattle.work_identifiers.specs.declared.numbers.StandardNumber.{StandardNumber}
use Rattle.work_identifiers.specs.declared.numbers.StandardNumber.TheVariants.{Issn, Isbn}
use Rattle.openurl_reading.specs.IdentifiedNumbers.{identified, number_key, own_numbers, led_alone, identified_step, identified_steps}
use Rattle.openurl_reading.specs.Keys.{is_one_of}
use Rattle.openurl_reading.specs.Origins.{HasOrigin}
use Rattle.openurl_reading.specs.Steps.{taken, after}
use Rattle.openurl_reading.specs.Values.{searched}
use Rattle.openurl_reading.proofs.Each.{each_taken}
use Rattle.openurl_reading.proofs.FoundAgain.{AreFoundAgain, IsIssnAgain, IsIsbnAgain}
use Rattle.openurl_reading.proofs.IdentifiedNumbers.{searched_keys, AreIn, identified_is, each_led_alone}
use Rattle.openurl_reading.proofs.Origins.{GivesIssns, GivesIsbns, sent_gives_issns, sent_gives_isbns, led_gives_issns, led_gives_isbns}
use Rattle.openurl_reading.proofs.ReadValues.{HaveOrigin, give_issns, give_isbns}
use Rattle.openurl_reading.proofs.Sent.{stated_keys, constant_keys, IsSentBut, IsSent, under_but, sent_under, stated_sent}
use Rattle.openurl_reading.proofs.Values.{values_after, all_of-taken, all_of-taken-own}

-- ---- what is found

number_given : (sent : List Text) (number : StandardNumber) (value : Text) → Contains sent value → AreIn (HasOrigin sent) number value
number_given sent Issn value h = sent_gives_issns sent value h
number_given sent Isbn value h = sent_gives_isbns sent value h

found_has : (sent : List Text) (number : StandardNumber) (pairs : List KeyValue) → All (IsSent sent) pairs → (n : Text) → identified number pairs ≡ Some n
    → HasOrigin sent n
found_has sent number pairs is =
    identified_is (HasOrigin sent) number pairs (λ k d h j e g.
    let key = get_or searched_keys k d in
    let other = not-true _ (AllPass-from_list_all (λ key. not (is_one_of constant_keys key)) searched_keys refl k d h) in
    number_given sent number (get_or (all_of pairs key) j e) (sent_under sent pairs key other is j e g))

step_has : (sent : List Text) (number : StandardNumber) (pairs : List KeyValue) → All (IsSent sent) pairs → HaveOrigin sent pairs
    → HaveOrigin sent (taken pairs (identified_step number))
step_has sent number pairs is all =
    each_taken (λ pair. HasOrigin sent pair.value) (identified_step number) pairs
    (each_led_alone (HasOrigin sent) (own_numbers number pairs) (identified number pairs) (first_of pairs (number_key number))
    (found_has sent number pairs is)) all

pub identified_have : (sent : List Text) (pairs : List KeyValue) → All (IsSent sent) pairs → HaveOrigin sent pairs
    → HaveOrigin sent (after identified_steps pairs)
identified_have sent pairs is all =
    let first = taken pairs (identified_step Issn) in
    step_has sent Isbn first (each_taken (IsSent sent) (identified_step Issn) pairs (λ k d h other. cc) is) (step_has sent Issn pairs is all)

-- ---- what is found in it again

issn_again : AreFoundAgain → (pairs : List KeyValue) (n : Text) → identified Issn pairs ≡ Some n → IsIssnAgain n
issn_again laws pairs = identified_is IsIssnAgain Issn pairs (λ k d h j e g. laws.issns (searched (get_or (all_of pairs (get_or searched_keys k d)) j e)))

isbn_again : AreFoundAgain → (pairs : List KeyValue) (n : Text) → identified Isbn pairs ≡ Some n → IsIsbnAgain n
isbn_again laws pairs = identified_is IsIsbnAgain Isbn pairs (λ k d h j e g. laws.isbns (searched (get_or (all_of pairs (get_or searched_keys k d)) j e)))

alone_gives_issns : (sent own : List Text) (found first : Option Text) (values : List Text) → ((n : Text) → found ≡ Some n → HasOrigin sent n)
    → ((n : Text) → found ≡ Some n → IsIssnAgain n) → All (GivesIssns sent) values → All (GivesIssns sent) (values_after (led_alone own found first) values)
alone_gives_issns sent [] found first values has again all = led_gives_issns sent found first values has again all
alone_gives_issns sent (o ∷ os) found first values has again all = all

alone_gives_isbns : (sent own : List Text) (found first : Option Text) (values : List Text) → ((n : Text) → found ≡ Some n → HasOrigin sent n)
    → ((n : Text) → found ≡ Some n → IsIsbnAgain n) → All (GivesIsbns sent) values → All (GivesIsbns sent) (values_after (led_alone own found first) values)
alone_gives_isbns sent [] found first values has again all = led_gives_isbns sent found first values has again all
alone_gives_isbns sent (o ∷ os) found first values has again all = all

pub issns_give : AreFoundAgain → (sent : List Text) (pairs : List KeyValue) → All (IsSentBut stated_keys sent) pairs
    → All (GivesIssns sent) (all_of (taken pairs (identified_step Issn)) (codes "rft.issn"))
issns_give laws sent pairs is =
    let values = all_of pairs (codes "rft.issn") in
    subst (All (GivesIssns sent)) (sym (all_of-taken-own (identified_step Issn) pairs))
    (alone_gives_issns sent (own_numbers Issn pairs) (identified Issn pairs) (first_of pairs (codes "rft.issn")) values
    (found_has sent Issn pairs (stated_sent sent pairs is)) (issn_again laws pairs)
    (give_issns sent values (under_but stated_keys sent pairs (codes "rft.issn") refl is)))

pub isbns_give : AreFoundAgain → (sent : List Text) (pairs : List KeyValue) → All (IsSentBut stated_keys sent) pairs
    → All (GivesIsbns sent) (all_of (after identified_steps pairs) (codes "rft.isbn"))
isbns_give laws sent pairs is =
    let first = taken pairs (identified_step Issn) in
    let values = all_of first (codes "rft.isbn") in
    let sent' : All (IsSent sent) first = each_taken (IsSent sent) (identified_step Issn) pairs (λ k d h other. cc) (stated_sent sent pairs is) in
    let known : All (Contains sent) values =
    subst (All (Contains sent)) (sym (all_of-taken (identified_step Issn) pairs (codes "rft.isbn") refl))
    (under_but stated_keys sent pairs (codes "rft.isbn") refl is) in
    subst (All (GivesIsbns sent)) (sym (all_of-taken-own (identified_step Isbn) first))
    (alone_gives_isbns sent (own_numbers Isbn first) (identified Isbn first) (first_of first (codes "rft.isbn")) values
    (found_has sent Isbn first sent') (isbn_again laws first) (give_isbns sent values known))
