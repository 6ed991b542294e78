-- What a request is for stays when numbers lead their keys.
use Rattle.std.proofs.Common.{◌≡◌, List, [], ◌∷◌, Bool, true, false, not, ◌&&◌, ◌||◌, None, refl, sym, ap, ◌∙◌, get_or, lit<}
use Rattle.std.specs.Prelude.{codes, slice_get, if◌then◌else◌}
use Rattle.std.specs.List.{All, list_all}
use Rattle.std.specs.Option.{option_and_then, unwrap_or}
use Rattle.std.specs.Str.{bytes_eq}
use Rattle.std.proofs.lemmas.List.Sums.{AllPass-from_list_all}
use Rattle.text_model.specs.Texts.{Text}
use Rattle.kev_read.specs.Pairs.{KeyValue, all_of}
use Rattle.openurl_reading.specs.declared.kinds.Kind.{Kind}
use Rattle.openurl_reading.specs.declared.kinds.Kind.TheVariants.{Book, Journal}
use Rattle.openurl_reading.specs.Kinds.{kind_named, kind_of}
use Rattle.openurl_reading.specs.Numbers.{issn_step, eissn_step, isbn_step, eissn_among}
use Rattle.openurl_reading.specs.Dates.{date_step}
use Rattle.openurl_reading.specs.Citations.{citing_steps}
use Rattle.openurl_reading.specs.Texts.{text_steps}
use Rattle.openurl_reading.specs.Referrers.{referrer_step}
use Rattle.openurl_reading.specs.Steps.{Step, taken, after}
use Rattle.openurl_reading.specs.Values.{led}
use Rattle.openurl_reading.proofs.CitingSteps.{citing_some}
use Rattle.openurl_reading.proofs.FoundAgain.{issn_among, further_among, isbn_among}
use Rattle.openurl_reading.proofs.KeysSettle.{same_after}
use Rattle.openurl_reading.proofs.Led.{are_some, led_some}
use Rattle.openurl_reading.proofs.Stages.{after_dates, led_steps, last_steps, last-is}
use Rattle.openurl_reading.proofs.TextsSome.{texts_some}
use Rattle.openurl_reading.proofs.Values.{values_after, all_of-taken, all_of-taken-own}

-- the kind, by the values of the keys that say it
abbrev pub kind_by : (genres isbns eisbns issns eissns books journals : List Text) → Kind
kind_by genres isbns eisbns issns eissns books journals =
    unwrap_or (option_and_then kind_named (slice_get genres 0))
    (if ((are_some isbns || are_some eisbns) && not (are_some issns || are_some eissns)) || (are_some books && not (are_some journals)) then Book else Journal)

or-true : (b : Bool) → b || true ≡ true
or-true true = refl
or-true false = refl

none_issn : (values : List Text) → values ≡ [] → issn_among values ≡ None
none_issn values e = ap issn_among e

abbrev led_issns : List Text → List Text
led_issns issns = values_after (led (issn_among issns) (slice_get issns 0)) issns

abbrev led_eissns : List Text → List Text → List Text
led_eissns issns eissns = values_after (led (eissn_among eissns (further_among issns)) (slice_get eissns 0)) eissns

issns_stay : (issns eissns : List Text) → are_some (led_issns issns) || are_some (led_eissns (led_issns issns) eissns) ≡ are_some issns || are_some eissns
issns_stay [] eissns = led_some (eissn_among eissns (further_among [])) eissns (λ e. ap (λ values. eissn_among values (further_among [])) e)
issns_stay (v ∷ vs) eissns =
    ap (λ b. b || are_some (led_eissns (led_issns (v ∷ vs)) eissns)) (led_some (issn_among (v ∷ vs)) (v ∷ vs) (λ e. cc))

isbns_stay : (isbns eisbns : List Text)
    → are_some (values_after (led (isbn_among eisbns isbns) (slice_get isbns 0)) isbns) || are_some eisbns ≡ are_some isbns || are_some eisbns
isbns_stay isbns [] = ap (λ b. b || false) (led_some (isbn_among [] isbns) isbns (λ e. ap (isbn_among []) e))
isbns_stay isbns (e ∷ es) =
    or-true (are_some (values_after (led (isbn_among (e ∷ es) isbns) (slice_get isbns 0)) isbns)) ∙ sym (or-true (are_some isbns))

same_kind : (g g' : List Text) (books books' journals journals' b b' s s' : Bool) → g ≡ g' → b ≡ b' → s ≡ s' → books ≡ books' → journals ≡ journals'
    → unwrap_or (option_and_then kind_named (slice_get g 0)) (if (b && not s) || (books && not journals) then Book else Journal)
    ≡ unwrap_or (option_and_then kind_named (slice_get g' 0)) (if (b' && not s') || (books' && not journals') then Book else Journal)
same_kind g g' books books' journals journals' b b' s s' eg eb es ebooks ejournals = rw (eg, eb, es, ebooks, ejournals) refl

led_kind_stays : (pairs : List KeyValue) → kind_of (after led_steps pairs) ≡ kind_of pairs
led_kind_stays pairs =
    let now = after led_steps pairs in
    let named = taken pairs referrer_step in
    let first = taken named issn_step in
    let second = taken first eissn_step in
    let third = taken second isbn_step in
    let issns = all_of pairs (codes "rft.issn") in
    let eissns = all_of pairs (codes "rft.eissn") in
    let isbns = all_of pairs (codes "rft.isbn") in
    let eisbns = all_of pairs (codes "rft.eisbn") in
    let named_issns : all_of named (codes "rft.issn") ≡ issns = all_of-taken referrer_step pairs (codes "rft.issn") refl in
    let one : all_of first (codes "rft.issn") ≡ led_issns issns = all_of-taken-own issn_step named ∙ ap led_issns named_issns in
    let two : all_of second (codes "rft.eissn") ≡ led_eissns (led_issns issns) eissns =
    all_of-taken-own eissn_step first
    ∙ ap (λ vs. led_eissns (all_of first (codes "rft.issn")) vs)
    (all_of-taken issn_step named (codes "rft.eissn") refl ∙ all_of-taken referrer_step pairs (codes "rft.eissn") refl)
    ∙ ap (λ vs. led_eissns vs eissns) one in
    let three : all_of third (codes "rft.isbn") ≡ values_after (led (isbn_among eisbns isbns) (slice_get isbns 0)) isbns =
    all_of-taken-own isbn_step second
    ∙ ap (λ vs. values_after (led (isbn_among (all_of second (codes "rft.eisbn")) vs) (slice_get vs 0)) vs)
    (same_after (referrer_step ∷ issn_step ∷ eissn_step ∷ []) pairs (codes "rft.isbn") refl)
    ∙ ap (λ vs. values_after (led (isbn_among vs isbns) (slice_get isbns 0)) isbns)
    (same_after (referrer_step ∷ issn_step ∷ eissn_step ∷ []) pairs (codes "rft.eisbn") refl) in
    let issns_now : all_of now (codes "rft.issn") ≡ led_issns issns =
    same_after (eissn_step ∷ isbn_step ∷ date_step ∷ after_dates) first (codes "rft.issn") refl ∙ one in
    let eissns_now : all_of now (codes "rft.eissn") ≡ led_eissns (led_issns issns) eissns =
    same_after (isbn_step ∷ date_step ∷ after_dates) second (codes "rft.eissn") refl ∙ two in
    let isbns_now = same_after (date_step ∷ after_dates) third (codes "rft.isbn") refl ∙ three in
    let some_issns : are_some (all_of now (codes "rft.issn")) || are_some (all_of now (codes "rft.eissn")) ≡ are_some issns || are_some eissns =
    ap (λ vs. are_some vs || are_some (all_of now (codes "rft.eissn"))) issns_now
    ∙ ap (λ vs. are_some (led_issns issns) || are_some vs) eissns_now ∙ issns_stay issns eissns in
    let some_isbns : are_some (all_of now (codes "rft.isbn")) || are_some (all_of now (codes "rft.eisbn")) ≡ are_some isbns || are_some eisbns =
    ap (λ vs. are_some vs || are_some (all_of now (codes "rft.eisbn"))) isbns_now
    ∙ ap (λ vs. are_some (values_after (led (isbn_among eisbns isbns) (slice_get isbns 0)) isbns) || are_some vs)
    (same_after led_steps pairs (codes "rft.eisbn") refl) ∙ isbns_stay isbns eisbns in
    same_kind _ _ _ _ _ _ _ _ _ _ (same_after led_steps pairs (codes "rft.genre") refl) some_isbns some_issns
    (ap are_some (same_after led_steps pairs (codes "rft.btitle") refl)) (ap are_some (same_after led_steps pairs (codes "rft.jtitle") refl))

texts_kind_stays : (pairs : List KeyValue) → kind_of (after text_steps pairs) ≡ kind_of pairs
texts_kind_stays pairs =
    let same : (key : Text) → list_all (λ step. not (bytes_eq step.key key)) text_steps ≡ true
    → are_some (all_of (after text_steps pairs) key) ≡ are_some (all_of pairs key) = λ key h. ap are_some (same_after text_steps pairs key h) in
    same_kind _ _ _ _ _ _ _ _ _ _ (same_after text_steps pairs (codes "rft.genre") refl)
    (either (same (codes "rft.isbn") refl) (same (codes "rft.eisbn") refl)) (either (same (codes "rft.issn") refl) (same (codes "rft.eissn") refl))
    (texts_some (codes "rft.btitle") pairs) (texts_some (codes "rft.jtitle") pairs)
  where
    either : {a a' b b' : Bool} → a ≡ a' → b ≡ b' → (a || b) ≡ (a' || b')
    either {a} {a'} {b} {b'} e g = rw (e, g) refl

citing_kind_stays : (pairs : List KeyValue) → kind_of (after citing_steps pairs) ≡ kind_of pairs
citing_kind_stays pairs =
    same_kind _ _ _ _ _ _ _ _ _ _ (same_after citing_steps pairs (codes "rft.genre") refl)
    (ap (λ vs. are_some vs || are_some (all_of (after citing_steps pairs) (codes "rft.eisbn"))) (same_after citing_steps pairs (codes "rft.isbn") refl)
    ∙ ap (λ vs. are_some (all_of pairs (codes "rft.isbn")) || are_some vs) (same_after citing_steps pairs (codes "rft.eisbn") refl))
    (ap (λ vs. are_some vs || are_some (all_of (after citing_steps pairs) (codes "rft.eissn"))) (same_after citing_steps pairs (codes "rft.issn") refl)
    ∙ ap (λ vs. are_some (all_of pairs (codes "rft.issn")) || are_some vs) (same_after citing_steps pairs (codes "rft.eissn") refl))
    (ap are_some (same_after citing_steps pairs (codes "rft.btitle") refl)) (citing_some (codes "rft.jtitle") pairs refl)

pub kind_stays : (pairs : List KeyValue) → kind_of (after last_steps pairs) ≡ kind_of pairs
kind_stays pairs =
    let cited = after citing_steps pairs in
    ap kind_of (last-is pairs) ∙ led_kind_stays (after text_steps cited) ∙ texts_kind_stays cited ∙ citing_kind_stays pairs

-- the keys that say it
abbrev pub kind_keys : List Text
kind_keys =
    codes "rft.genre" ∷ codes "rft.isbn" ∷ codes "rft.eisbn" ∷ codes "rft.issn" ∷ codes "rft.eissn" ∷ codes "rft.btitle" ∷ codes "rft.jtitle" ∷ []

-- they have the same values
abbrev pub AreKindsSame : List KeyValue → List KeyValue → Type 0
AreKindsSame pairs other = All (λ key. all_of pairs key ≡ all_of other key) kind_keys

kind_by_same : (g g' i i' ei ei' s s' es es' b b' j j' : List Text) → g ≡ g' → i ≡ i' → ei ≡ ei' → s ≡ s' → es ≡ es' → b ≡ b' → j ≡ j'
    → kind_by g i ei s es b j ≡ kind_by g' i' ei' s' es' b' j'
kind_by_same g g' i i' ei ei' s s' es es' b b' j j' e1 e2 e3 e4 e5 e6 e7 = rw (e1, e2, e3, e4, e5, e6, e7) refl

pub kind_same : (pairs other : List KeyValue) → AreKindsSame pairs other → kind_of pairs ≡ kind_of other
kind_same pairs other same =
    kind_by_same _ _ _ _ _ _ _ _ _ _ _ _ _ _ (same 0 [] (lit< tt)) (same 1 [] (lit< tt)) (same 2 [] (lit< tt)) (same 3 [] (lit< tt))
    (same 4 [] (lit< tt)) (same 5 [] (lit< tt)) (same 6 [] (lit< tt))

-- steps of other keys
pub kinds_after : (steps : List Step) (pairs : List KeyValue) → list_all (λ key. list_all (λ step. not (bytes_eq step.key key)) steps) kind_keys ≡ true
    → AreKindsSame (after steps pairs) pairs
kinds_after steps pairs h k d g =
    same_after steps pairs (get_or kind_keys k d)
    (AllPass-from_list_all (λ key. list_all (λ step. not (bytes_eq step.key key)) steps) kind_keys h k d g)
