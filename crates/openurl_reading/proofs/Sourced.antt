-- The journal in the sources of a request in Dublin Core.
use Rattle.std.proofs.Common.{◌≡◌, ◌⊎◌, ℕ, ◌+◌, ◌≤◌, List, [], ◌∷◌, Bool, true, false, cond, ◌&&◌, ◌||◌, Option, Some, None, refl, sym, ap, ◌∙◌, subst}
use Rattle.std.proofs.Common.{length, take, get_or, arith, inl, inr}
use Rattle.std.specs.Prelude.{codes, nat_le, Contains}
use Rattle.std.specs.List.{All, list_any, filter_map, cons_option, sum_by}
use Rattle.std.specs.Option.{option_or}
use Rattle.std.proofs.lemmas.Bool.{and_parts}
use Rattle.std.proofs.lemmas.Bool.Decides.{nat_tests}
use Rattle.std.proofs.lemmas.List.{length-take}
use Rattle.std.proofs.lemmas.List.Elements.{All-cons, All-contains, All-take, Contains-get_or, Contains-append_right}
use Rattle.std.proofs.lemmas.List.Sums.{sum_by-cons, sum_by-take-le}
use Rattle.std.proofs.lemmas.Option.{same_Some}
use Rattle.text_model.specs.Texts.{Text}
use Rattle.kev_read.specs.Pairs.{KeyValue, all_of, first_of}
use Rattle.journal_references.specs.References.{Reference}
use Rattle.openurl_reading.specs.Citations.{is_letter}
use Rattle.openurl_reading.specs.Counting.{is_blank, is_accepted}
use Rattle.openurl_reading.specs.DublinCore.{is_core, core_journal, core_source}
use Rattle.openurl_reading.specs.Sources.{most_sources, longest_source, sources, first_end, before_place, is_cut, cut}
use Rattle.openurl_reading.specs.Sources.{in_source, name_by, is_journal, journal_in}
use Rattle.openurl_reading.specs.Sources.{first_journal}
use Rattle.openurl_reading.specs.Steps.{taken}
use Rattle.openurl_reading.specs.Volumes.{without_own}
use Rattle.openurl_reading.proofs.Each.{none_has}
use Rattle.openurl_reading.proofs.Fillings.{own_is, each_filling}
use Rattle.openurl_reading.proofs.FoundAre.{IsAll}
use Rattle.openurl_reading.proofs.Identified.{first_found, found-cons, found_is}
use Rattle.openurl_reading.proofs.Passing.{AreAccepted, not_blank, under_pass}
use Rattle.openurl_reading.proofs.TextsPass.{filled_passes}
use Rattle.openurl_reading.proofs.Totals.{total, total_taken, led_weighs}

-- ---- the name in one source

-- it is the source, or a text before a place, with a letter
abbrev IsNameIn : Text → Text → Type 0
IsNameIn v n = (n ≡ v) ⊎ ((n ≡ before_place v) × (list_any is_letter n ≡ true))

cut-is : (v : Text) → IsNameIn v (cut v)
cut-is v = by_test (is_cut v) refl
  where
    by_test : (b : Bool) → is_cut v ≡ b → IsNameIn v (cond b (before_place v) v)
    by_test true h = inr (refl, (and_parts (nat_le (length v) longest_source) (list_any is_letter (before_place v)) h).1)
    by_test false h = inl refl

name-is : (o : Option Reference) (v n : Text) → name_by o v ≡ Some n → IsNameIn v n
name-is None v n e = subst (IsNameIn v) (same_Some (cut v) n e) (cut-is v)
name-is (Some r) v n e = by_test (list_any is_letter r.name) e
  where
    by_test : (b : Bool) → cond b (Some v) None ≡ Some n → IsNameIn v n
    by_test true g = inl (sym (same_Some v n g))
    by_test false g = cc

journal-is : (v n : Text) → journal_in v ≡ Some n → IsNameIn v n
journal-is v n e = by_test (is_journal v) e
  where
    by_test : (b : Bool) → cond b (name_by (in_source v) v) None ≡ Some n → IsNameIn v n
    by_test true g = name-is (in_source v) v n g
    by_test false g = cc

-- ---- it counts

letter_is_no_blank : (b : ℕ) → is_letter b ≡ true → nat_le b 0x20 ≡ false
letter_is_no_blank b h = grind (arith, nat_tests)

pub with_letter : (t : Text) → list_any is_letter t ≡ true → is_blank t ≡ false
with_letter [] h = cc
with_letter (b ∷ t) h = by_test (is_letter b) refl h (with_letter t)
  where
    and-false : (c : Bool) → c && false ≡ false
    and-false true = refl
    and-false false = refl

    by_test : (c : Bool) → is_letter b ≡ c → c || list_any is_letter t ≡ true → (list_any is_letter t ≡ true → is_blank t ≡ false)
        → nat_le b 0x20 && is_blank t ≡ false
    by_test true e g rest = ap (λ d. d && is_blank t) (letter_is_no_blank b e)
    by_test false e g rest = ap (λ d. nat_le b 0x20 && d) (rest g) ∙ and-false (nat_le b 0x20)

journal_not_blank : (v : Text) → is_blank v ≡ false → IsAll (λ n. is_blank n ≡ false) (journal_in v)
journal_not_blank v blank n e =
    elim (journal-is v n e) [
      | inl same ↦ ap is_blank same ∙ blank
      | inr part ↦ with_letter n part.1
    ]

-- what holds of the name in each source holds of the journal
journal_has : (P : Text → Type 0) (pairs : List KeyValue) → All (λ v. IsAll P (journal_in v)) (all_of pairs (codes "rft.source"))
    → IsAll P (core_journal pairs)
journal_has P pairs each n e = by_test (is_core pairs) e
  where
    by_test : (b : Bool) → cond b (first_journal pairs) None ≡ Some n → P n
    by_test true g =
        found_is P journal_in (sources pairs) (All-take (λ v. IsAll P (journal_in v)) most_sources (all_of pairs (codes "rft.source")) each) n g
    by_test false g = cc

pub source_passes : (pairs : List KeyValue) → AreAccepted pairs → AreAccepted (taken pairs core_source)
source_passes pairs all =
    let P : Text → Type 0 = λ n. is_blank n ≡ false in
    let values = all_of pairs (codes "rft.source") in
    let names : All (λ v. IsAll P (journal_in v)) values =
    λ k d h. let v = get_or values k d in
    journal_not_blank v (not_blank (codes "rft.source") v (under_pass pairs (codes "rft.source") all k d h)) in
    each_filling (λ pair. is_accepted pair ≡ true) (codes "rft.jtitle") core_journal pairs
    (λ n e. filled_passes (codes "rft.jtitle") n refl (journal_has P pairs names n e)) all

-- ---- it is one of the names in values

in_found : (n : Text) (xs : List Text) → All (λ x. journal_in x ≡ Some n → Contains (filter_map journal_in xs) n) xs
in_found n [] = none_has (λ x. journal_in x ≡ Some n → Contains (filter_map journal_in []) n)
in_found n (v ∷ vs) =
    All-cons (λ x. journal_in x ≡ Some n → Contains (filter_map journal_in (v ∷ vs)) n) v vs
    (λ e. subst (λ o. Contains (cons_option o (filter_map journal_in vs)) n) (sym e)
    (Contains-get_or (n ∷ filter_map journal_in vs) 0 n (omega arith)))
    (λ k d h e. later (journal_in v) (filter_map journal_in vs) (in_found n vs k d h e))
  where
    later : (o : Option Text) (found : List Text) → Contains found n → Contains (cons_option o found) n
    later None found c = c
    later (Some m) found c = Contains-append_right (m ∷ []) found n c

pub journal_found : (known : List Text) (pairs : List KeyValue) → All (Contains known) (all_of pairs (codes "rft.source"))
    → (n : Text) → core_journal pairs ≡ Some n → Contains (filter_map journal_in known) n
journal_found known pairs each n e =
    let P : Text → Type 0 = λ m. Contains (filter_map journal_in known) m in
    let values = all_of pairs (codes "rft.source") in
    journal_has P pairs
    (λ k d h m g. All-contains (λ x. journal_in x ≡ Some m → Contains (filter_map journal_in known) m) known (get_or values k d) (in_found m known)
    (each k d h) g) n e

-- ---- how large pairs are

-- a name weighs no more than its source
abbrev pub AreNamesLight : (Text → ℕ) → Type 0
AreNamesLight g = (v n : Text) → journal_in v ≡ Some n → g n ≤ g v

pub names_short : AreNamesLight (λ n. length n)
names_short v n e =
    elim (journal-is v n e) [
      | inl same ↦ subst (λ t. length t ≤ length v) (sym same) (omega arith)
      | inr part ↦ subst (λ t. length t ≤ length v) (sym part.0) (omega (arith, length-take (first_end v 0 (length v)) v))
    ]

first_weighs : (g : Text → ℕ) → AreNamesLight g → (values : List Text) (n : Text) → first_found journal_in values ≡ Some n → g n ≤ sum_by g values
first_weighs g light [] n e = cc
first_weighs g light (v ∷ vs) n e = by_found (journal_in v) refl (sym (found-cons journal_in v vs) ∙ e) (first_weighs g light vs n)
  where
    by_found : (o : Option Text) → journal_in v ≡ o → option_or o (first_found journal_in vs) ≡ Some n
        → (first_found journal_in vs ≡ Some n → g n ≤ sum_by g vs) → g n ≤ sum_by g (v ∷ vs)
    by_found None h f rest = omega (arith, sum_by-cons g v vs, rest f)
    by_found (Some m) h f rest =
        let one : g n ≤ g v = light v n (h ∙ f) in omega (arith, sum_by-cons g v vs, one)

pub source_step_weighs : (g : Text → ℕ) → AreNamesLight g → (pairs : List KeyValue)
    → total g (taken pairs core_source) ≤ sum_by g (all_of pairs (codes "rft.source")) + total g pairs
source_step_weighs g light pairs =
    let values = all_of pairs (codes "rft.source") in
    let P : Text → Type 0 = λ n. g n ≤ sum_by g values in
    let titles = all_of pairs (codes "rft.jtitle") in
    omega (
      arith,
      total_taken g core_source pairs,
      led_weighs g (sum_by g values) (without_own titles (core_journal pairs)) (first_of pairs (codes "rft.jtitle"))
          (own_is P titles (core_journal pairs) (weighs values (is_core pairs))),
    )
  where
    weighs : (values : List Text) (b : Bool) (n : Text) → cond b (first_found journal_in (take most_sources values)) None ≡ Some n → g n ≤ sum_by g values
    weighs values true n e = omega (arith, first_weighs g light (take most_sources values) n e, sum_by-take-le g values most_sources)
    weighs values false n e = cc
