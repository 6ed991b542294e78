-- The values after the steps of texts are those of the request, or what is read in one of them.
use Rattle.std.proofs.Common.{◌≡◌, List, [], ◌∷◌, ◌++◌, map, take, Bool, true, false, cond, not, ◌&&◌, refl, sym, ap, ◌∙◌, subst, get_or}
use Rattle.std.specs.Prelude.{codes, Contains}
use Rattle.std.specs.List.{All, list_all}
use Rattle.std.specs.Str.{bytes_eq}
use Rattle.std.proofs.lemmas.Bool.{and_parts, not-true}
use Rattle.std.proofs.lemmas.List.Elements.{All-append, All-cons, All-head, All-map, All-tail, All-take}
use Rattle.std.proofs.lemmas.List.Sums.{AllPass-from_list_all, fold-append}
use Rattle.text_model.specs.Texts.{Text}
use Rattle.kev_read.specs.Pairs.{KeyValue, all_of}
use Rattle.written_texts.specs.declared.readings.Role.{Role}
use Rattle.written_texts.specs.declared.readings.Role.TheVariants.{Title, Other}
use Rattle.written_texts.specs.Readings.{written}
use Rattle.openurl_reading.specs.Keys.{is_one_of}
use Rattle.openurl_reading.specs.Steps.{Step, unchanged, replacing, taken, after}
use Rattle.openurl_reading.specs.Values.{most_values, values_of}
use Rattle.openurl_reading.specs.Origins.{IsTextOf, as_sent, as_title, HasOrigin, text_in, page_in, page_in_text}
use Rattle.openurl_reading.specs.Texts.{are_read, as_texts, texting, title_texts, other_texts, text_steps}
use Rattle.openurl_reading.proofs.Each.{none_has, each_taken}
use Rattle.openurl_reading.proofs.KeysSettle.{same_after}
use Rattle.openurl_reading.proofs.Origins.{GivesPage}
use Rattle.openurl_reading.proofs.ReadValues.{HaveOrigin}
use Rattle.openurl_reading.proofs.Sent.{constant_keys, IsNoConstant, IsSent, AreKept, sent_under}
use Rattle.openurl_reading.proofs.TextsRead.{are_apart}
use Rattle.openurl_reading.proofs.Values.{values_after, all_of-after, all_of-taken, all_of-taken-own}

-- other keys have what they had
pub texts_kept : (sent : List Text) (pairs : List KeyValue) → All (IsSent sent) pairs → AreKept sent (after text_steps pairs)
texts_kept sent pairs is key other =
    subst (All (Contains sent)) (sym (same_after text_steps pairs key other.1)) (sent_under sent pairs key other.0 is)

-- ---- the values of the steps have an origin

texting_has : (sent : List Text) (role : Role) (key : Text) (pairs : List KeyValue) → All (Contains sent) (all_of pairs key) → HaveOrigin sent pairs
    → HaveOrigin sent (taken pairs (texting role key))
texting_has sent role key pairs known all =
    each_taken (λ pair. HasOrigin sent pair.value) (texting role key) pairs (by_test (are_read role (values_of pairs key))) all
  where
    few : All (Contains sent) (values_of pairs key)
    few = All-take (Contains sent) most_values (all_of pairs key) known

    by_test : (b : Bool) → All (HasOrigin sent) (cond b unchanged (replacing (map (written role) (values_of pairs key)))).values
    by_test true = none_has (HasOrigin sent)
    by_test false =
        All-map (HasOrigin sent) (written role) (values_of pairs key) (λ k d h. text_in role (get_or (values_of pairs key) k d) (few k d h))

keys_have : (sent : List Text) (role : Role) (keys : List Text) (pairs : List KeyValue) → are_apart keys ≡ true
    → All (λ key. All (Contains sent) (all_of pairs key)) keys → HaveOrigin sent pairs → HaveOrigin sent (after (map (texting role) keys) pairs)
keys_have sent role [] pairs h known all = all
keys_have sent role (key ∷ keys) pairs h known all =
    let P : Text → Type 0 = λ key. All (Contains sent) (all_of pairs key) in
    let parts = and_parts (list_all (λ other. not (bytes_eq other key)) keys && list_all (λ other. not (bytes_eq key other)) keys) (are_apart keys) h in
    let apart = and_parts (list_all (λ other. not (bytes_eq other key)) keys) (list_all (λ other. not (bytes_eq key other)) keys) parts.0 in
    let next = taken pairs (texting role key) in
    let rest = All-tail P key keys known in
    keys_have sent role keys next parts.1
    (λ k d g. subst (All (Contains sent)) (sym (all_of-taken (texting role key) pairs (get_or keys k d)
    (not-true _ (AllPass-from_list_all (λ other. not (bytes_eq key other)) keys apart.1 k d g)))) (rest k d g))
    (texting_has sent role key pairs (All-head P key keys known) all)

no_constants : (keys : List Text) → list_all (λ key. not (is_one_of constant_keys key)) keys ≡ true → All IsNoConstant keys
no_constants keys a k d h = not-true _ (AllPass-from_list_all (λ key. not (is_one_of constant_keys key)) keys a k d h)

pub texts_have : (sent : List Text) (pairs : List KeyValue) → All (IsSent sent) pairs → HaveOrigin sent pairs → HaveOrigin sent (after text_steps pairs)
texts_have sent pairs is all =
    let titled = after (map (texting Title) title_texts) pairs in
    subst (HaveOrigin sent) (sym (fold-append taken pairs (map (texting Title) title_texts) (map (texting Other) other_texts)))
    (keys_have sent Other other_texts titled refl
    (λ k d h. let key = get_or other_texts k d in
    subst (All (Contains sent)) (sym (same_after (map (texting Title) title_texts) pairs key
    (AllPass-from_list_all (λ key. list_all (λ step. not (bytes_eq step.key key)) (map (texting Title) title_texts)) other_texts refl k d h)))
    (sent_under sent pairs key (no_constants other_texts refl k d h) is))
    (keys_have sent Title title_texts pairs refl
    (λ k d h. sent_under sent pairs (get_or title_texts k d) (no_constants title_texts refl k d h) is) all))

-- ---- titles

-- the values of a title after its step
title_texts_of : (sent values : List Text) → All (Contains sent) values
    → All (IsTextOf sent) (values_after (as_texts Title (take most_values values)) values)
title_texts_of sent values known = by_test (are_read Title (take most_values values))
  where
    made : List Text
    made = map (written Title) (take most_values values)

    few : All (Contains sent) (take most_values values)
    few = All-take (Contains sent) most_values values known

    by_test : (b : Bool) → All (IsTextOf sent) (values_after (cond b unchanged (replacing made)) values)
    by_test true = λ k d h. as_sent (get_or values k d) (known k d h)
    by_test false =
        All-append (IsTextOf sent) made []
        (All-map (IsTextOf sent) (written Title) (take most_values values) (λ k d h. as_title (get_or (take most_values values) k d) (few k d h)))
        (none_has (IsTextOf sent))

keys_give : (sent keys : List Text) (pairs : List KeyValue) → are_apart keys ≡ true → All (λ key. All (Contains sent) (all_of pairs key)) keys
    → All (λ key. All (IsTextOf sent) (all_of (after (map (texting Title) keys) pairs) key)) keys
keys_give sent [] pairs h known = none_has (λ key. All (IsTextOf sent) (all_of pairs key))
keys_give sent (key ∷ keys) pairs h known =
    let P : Text → Type 0 = λ key. All (Contains sent) (all_of pairs key) in
    let parts = and_parts (list_all (λ other. not (bytes_eq other key)) keys && list_all (λ other. not (bytes_eq key other)) keys) (are_apart keys) h in
    let apart = and_parts (list_all (λ other. not (bytes_eq other key)) keys) (list_all (λ other. not (bytes_eq key other)) keys) parts.0 in
    let next = taken pairs (texting Title key) in
    let rest = All-tail P key keys known in
    let others : All (λ step. bytes_eq step.key key ≡ false) (map (texting Title) keys) =
    All-map (λ (step : Step). bytes_eq step.key key ≡ false) (texting Title) keys
    (λ k d g. not-true _ (AllPass-from_list_all (λ other. not (bytes_eq other key)) keys apart.0 k d g)) in
    All-cons (λ k. All (IsTextOf sent) (all_of (after (map (texting Title) keys) next) k)) key keys
    (subst (All (IsTextOf sent)) (sym (all_of-after (map (texting Title) keys) next key others ∙ all_of-taken-own (texting Title key) pairs))
    (title_texts_of sent (all_of pairs key) (All-head P key keys known)))
    (keys_give sent keys next parts.1
    (λ k d g. subst (All (Contains sent)) (sym (all_of-taken (texting Title key) pairs (get_or keys k d)
    (not-true _ (AllPass-from_list_all (λ other. not (bytes_eq key other)) keys apart.1 k d g)))) (rest k d g)))

pub titles_give : (sent : List Text) (pairs : List KeyValue) → All (IsSent sent) pairs
    → All (λ key. All (IsTextOf sent) (all_of (after text_steps pairs) key)) title_texts
titles_give sent pairs is k d h =
    let key = get_or title_texts k d in
    let titled = after (map (texting Title) title_texts) pairs in
    subst (All (IsTextOf sent))
    (sym (ap (λ p. all_of p key) (fold-append taken pairs (map (texting Title) title_texts) (map (texting Other) other_texts))
    ∙ same_after (map (texting Other) other_texts) titled key
    (AllPass-from_list_all (λ key. list_all (λ step. not (bytes_eq step.key key)) (map (texting Other) other_texts)) title_texts refl k d h)))
    (keys_give sent title_texts pairs refl
    (λ j e g. sent_under sent pairs (get_or title_texts j e) (no_constants title_texts refl j e g) is) k d h)

-- ---- pages

-- the steps before that of pages
abbrev before_pages : List Step
before_pages =
    map (texting Title) title_texts
    ++ map (texting Other) (codes "rft.stitle" ∷ codes "rft.au" ∷ codes "rft.aulast" ∷ codes "rft.aufirst" ∷ codes "rft.aucorp" ∷ [])

values_give : (sent values : List Text) → All (Contains sent) values
    → All (GivesPage sent) (values_after (as_texts Other (take most_values values)) values)
values_give sent values known = by_test (are_read Other (take most_values values))
  where
    made : List Text
    made = map (written Other) (take most_values values)

    few : All (Contains sent) (take most_values values)
    few = All-take (Contains sent) most_values values known

    by_test : (b : Bool) → All (GivesPage sent) (values_after (cond b unchanged (replacing made)) values)
    by_test true = λ k d h n e. page_in (get_or values k d) n (known k d h) e
    by_test false =
        All-append (GivesPage sent) made []
        (All-map (GivesPage sent) (written Other) (take most_values values)
        (λ k d h n e. page_in_text (get_or (take most_values values) k d) n (few k d h) e))
        (none_has (GivesPage sent))

pub pages_give : (sent : List Text) (pairs : List KeyValue) → All (IsSent sent) pairs
    → All (GivesPage sent) (all_of (after text_steps pairs) (codes "rft.pages"))
pages_give sent pairs is =
    let key = codes "rft.pages" in
    let before = after before_pages pairs in
    let known : All (Contains sent) (all_of before key) =
    subst (All (Contains sent)) (sym (same_after before_pages pairs key refl)) (sent_under sent pairs key refl is) in
    let order : after text_steps pairs ≡ taken before (texting Other key) = fold-append taken pairs before_pages (texting Other key ∷ []) in
    subst (All (GivesPage sent)) (sym (ap (λ p. all_of p key) order ∙ all_of-taken-own (texting Other key) before))
    (values_give sent (all_of before key) known)
