-- The parts of a reference: short, not blank, and in one value of the request.
use Rattle.std.proofs.Common.{◌≡◌, ℕ, ◌≤◌, List, [], ◌∷◌, Bool, true, false, cond, Option, Some, None, refl, sym, subst}
use Rattle.std.proofs.Common.{length, take, drop, arith, get_or}
use Rattle.std.specs.Prelude.{codes, slice_get, Contains, IfSome}
use Rattle.std.specs.List.{All, flat_map}
use Rattle.std.specs.Option.{option_and_then}
use Rattle.std.proofs.lemmas.Bool.{and_parts}
use Rattle.std.proofs.lemmas.List.{length-take, length-drop}
use Rattle.std.proofs.lemmas.List.Elements.{All-contains, Contains-append_left, Contains-append_right}
use Rattle.std.proofs.lemmas.List.Sums.{AllPass-from_list_all}
use Rattle.text_model.specs.Texts.{Text}
use Rattle.kev_read.specs.Pairs.{KeyValue, all_of}
use Rattle.journal_references.specs.References.{Reference, EachPiece, IsPartOf, reference_in}
use Rattle.written_texts.specs.declared.readings.Role.TheVariants.{Title}
use Rattle.written_texts.specs.Readings.{written}
use Rattle.openurl_reading.specs.Citations.{is_name, in_title, after_name, cited_in, citing_steps}
use Rattle.openurl_reading.specs.Counting.{is_accepted}
use Rattle.openurl_reading.specs.Origins.{HasOrigin, from_request, sourced_values, parts_of, read_values}
use Rattle.openurl_reading.specs.Steps.{after}
use Rattle.openurl_reading.proofs.CitingSteps.{name_of}
use Rattle.openurl_reading.proofs.Cited.{IsCited, AreCitedLight, cited_keys, each_cited}
use Rattle.openurl_reading.proofs.ArticlesFound.{IsNotBlank}
use Rattle.openurl_reading.proofs.Passing.{AreAccepted}
use Rattle.openurl_reading.proofs.PartsSourced.{short, in_flat, one_in, parts_listed}
use Rattle.openurl_reading.proofs.ReadValues.{HaveOrigin}
use Rattle.openurl_reading.proofs.Sent.{IsSent, sent_under}
use Rattle.openurl_reading.proofs.Sourced.{with_letter}
use Rattle.openurl_reading.proofs.TextsPass.{filled_passes, is_open, one_of_has}

-- ---- the value in which a reference is found

-- the first value of a key has it, and its name is one
abbrev IsIn : List Text → Reference → Type 0
IsIn values found = (v : Text) × (vs : List Text) × (values ≡ v ∷ vs) × (cited_in v ≡ Some found)

is_in : (values : List Text) (found : Reference) → option_and_then cited_in (slice_get values 0) ≡ Some found → IsIn values found
is_in [] found e = cc
is_in (v ∷ vs) found e = (v, vs, refl, e)

in_text : (o : Option Reference) (found : Reference) → option_and_then after_name o ≡ Some found → o ≡ Some found
in_text None found e = cc
in_text (Some r) found e = by_test (is_name r.name) e
  where
    by_test : (b : Bool) → cond b (Some r) None ≡ Some found → Some r ≡ Some found
    by_test true g = g
    by_test false g = cc

-- ---- sizes

pub cited_short : ((text : Text) (found : Reference) → reference_in text ≡ Some found → (n : ℕ) × (found.name ≡ take n text))
    → ((text : Text) (found : Reference) → reference_in text ≡ Some found → EachPiece (IsPartOf text) found) → AreCitedLight (λ n. length n) 500
cited_short names pieces pairs found e =
    let values = all_of pairs (codes "rft.jtitle") in
    let text = in_value (is_in values found e) in
    let fits = short text.0 found text.1 in
    let name = names text.0 found text.1 in
    let parts = pieces text.0 found text.1 in
    let part : (p : Option Text) → IfSome p (IsPartOf text.0) → (n : Text) → p ≡ Some n → length n ≤ 500 =
    λ p h n g. let is : IsPartOf text.0 n = subst (λ o. IfSome o (IsPartOf text.0)) g h in
    subst (λ t. length t ≤ 500) (sym is.2) (omega (arith, length-take is.1 (drop is.0 text.0), length-drop is.0 text.0, fits)) in
    record {
      name = subst (λ t. length t ≤ 500) (sym name.1) (omega (arith, length-take name.0 text.0, fits));
      volume = λ n g b. part found.volume parts.volume n g;
      issue = λ n g b. part found.issue parts.issue n g;
      pages = λ n g b. part found.pages parts.pages n g;
      year = λ n g b. part found.year parts.year n g;
    }
  where
    in_value : IsIn (all_of pairs (codes "rft.jtitle")) found → (text : Text) × (reference_in text ≡ Some found)
    in_value is = (written Title is.0, in_text (in_title is.0) found is.3)

-- ---- values that count

not_blank_cited : (pairs : List KeyValue) → IsCited IsNotBlank pairs
not_blank_cited pairs found e =
    let is = is_in (all_of pairs (codes "rft.jtitle")) found e in
    let name = name_of (in_title is.0) found is.3 in
    record {
      name = with_letter found.name (and_parts _ _ name).0;
      volume = λ n g b. b;
      issue = λ n g b. b;
      pages = λ n g b. b;
      year = λ n g b. b;
    }

pub citing_passes : (pairs : List KeyValue) → AreAccepted pairs → AreAccepted (after citing_steps pairs)
citing_passes pairs all =
    each_cited (λ pair. is_accepted pair ≡ true) IsNotBlank
    (λ key v may blank. filled_passes key v (one_of_has (λ k. is_open k ≡ true) cited_keys key may (AllPass-from_list_all is_open cited_keys refl)) blank)
    pairs (not_blank_cited pairs) all

-- ---- origins

-- each part of the reference in a value of the request
cited_in_values : (request pairs : List KeyValue) → All (IsSent (sourced_values request)) pairs → IsCited (Contains (read_values request)) pairs
cited_in_values request pairs sent found e =
    let is = is_in (all_of pairs (codes "rft.jtitle")) found e in
    let titles = sent_under (sourced_values request) pairs (codes "rft.jtitle") refl sent in
    let title : Contains (sourced_values request) is.0 = subst (All (Contains (sourced_values request))) is.2 titles 0 is.0 (omega arith) in
    let listed = parts_listed found in
    record {
      name = within is.0 title is.3 found.name (one_in found.name _);
      volume = λ n g b. within is.0 title is.3 n (listed.volume n g b);
      issue = λ n g b. within is.0 title is.3 n (listed.issue n g b);
      pages = λ n g b. within is.0 title is.3 n (listed.pages n g b);
      year = λ n g b. within is.0 title is.3 n (listed.year n g b);
    }
  where
    within : (v : Text) → Contains (sourced_values request) v → cited_in v ≡ Some found → (n : Text) → Contains (parts_of (Some found)) n
        → Contains (read_values request) n
    within v title g n c =
        let f : Text → List Text = λ value. parts_of (cited_in value) in
        let all = sourced_values request in
        Contains-append_right all (flat_map f all) n
        (All-contains (λ x. Contains (f x) n → Contains (flat_map f all) n) all v (in_flat f n all) title (subst (λ o. Contains (parts_of o) n) (sym g) c))

pub more_values : (request : List KeyValue) (n : Text) → Contains (sourced_values request) n → Contains (read_values request) n
more_values request n c =
    Contains-append_left (sourced_values request) (flat_map (λ value. parts_of (cited_in value)) (sourced_values request)) n c

pub cited_sent : (request pairs : List KeyValue) → All (IsSent (sourced_values request)) pairs
    → All (IsSent (read_values request)) (after citing_steps pairs)
cited_sent request pairs sent =
    each_cited (IsSent (read_values request)) (Contains (read_values request)) (λ key v may contains other. contains) pairs
    (cited_in_values request pairs sent) (λ k d h other. more_values request (get_or pairs k d).value (sent k d h other))

pub cited_have : (request pairs : List KeyValue) → All (IsSent (sourced_values request)) pairs → HaveOrigin (read_values request) pairs
    → HaveOrigin (read_values request) (after citing_steps pairs)
cited_have request pairs sent all =
    each_cited (λ pair. HasOrigin (read_values request) pair.value) (Contains (read_values request)) (λ key v may contains. from_request v contains) pairs
    (cited_in_values request pairs sent) all
