-- A reading is read as it is.
use Rattle.std.proofs.Common.{◌≡◌, ◌≤◌, ◌-◌, List, [], ◌++◌, map, take, length, false, not, ◌&&◌, get_or, refl, ap, ◌∙◌, arith}
use Rattle.std.proofs.lemmas.Bool.{not-true}
use Rattle.std.proofs.lemmas.List.{take_all}
use Rattle.std.specs.List.{All}
use Rattle.std.proofs.lemmas.List.Elements.{All-append, filter-append}
use Rattle.std.proofs.lemmas.List.Sums.{AllPass-from_list_all}
use Rattle.kev_read.specs.Pairs.{KeyValue}
use Rattle.openurl_reading.specs.Counting.{is_free, is_void, accepted, is_accepted, counting, most_pairs}
use Rattle.openurl_reading.specs.Keys.{named}
use Rattle.openurl_reading.specs.Retractions.{is_retracted}
use Rattle.openurl_reading.specs.Reading.{normal_form, derived, with_derived, reading_of}
use Rattle.openurl_reading.proofs.Accepted.{normal_form_passes}
use Rattle.openurl_reading.proofs.Additions.{additions, all_derived}
use Rattle.openurl_reading.proofs.Each.{all_stay, none_stays}
use Rattle.openurl_reading.proofs.FoundAre.{AreFound}
use Rattle.openurl_reading.proofs.Free.{named-normal_form, named-counting, named-derived}
use Rattle.openurl_reading.proofs.Identified.{AreIdentified}
use Rattle.openurl_reading.proofs.IdentifierForms.{BeginsWithDigit}
use Rattle.openurl_reading.proofs.VolumeLaws.{AreFoundNumbers}
use Rattle.openurl_reading.proofs.ArticlesFound.{IsNotBlank}
use Rattle.openurl_reading.proofs.PagesFound.{AreFoundPages}
use Rattle.openurl_reading.proofs.Passing.{AreAccepted, counting_pass}
use Rattle.openurl_reading.proofs.SmallKeys.{IsNamed, named_stay}
use Rattle.openurl_reading.proofs.TextsPass.{AreFilled}

-- pairs whose keys are written as they are read stay
named_again : (pairs : List KeyValue) → All IsNamed pairs → map named (with_derived pairs) ≡ with_derived pairs
named_again pairs are = named_stay (with_derived pairs) (All-append IsNamed (derived pairs) pairs (named-derived pairs) are)

-- no pair that the resolver adds counts
derived_out : (pairs : List KeyValue) → accepted (derived pairs) ≡ []
derived_out pairs =
    none_stays is_accepted (derived pairs)
    (all_derived (λ pair. is_accepted pair ≡ false) pairs
    (λ k d h v e. ap (λ b. b && not (is_void (record { key = (get_or (additions pairs) k d).key; value = v })))
    (not-true _ (AllPass-from_list_all (λ addition. not (is_free addition.key)) (additions pairs) refl k d h))))

accepted_again : (pairs : List KeyValue) → AreAccepted pairs → accepted (with_derived pairs) ≡ pairs
accepted_again pairs pass =
    filter-append is_accepted (derived pairs) pairs ∙ ap (λ front. front ++ accepted pairs) (derived_out pairs) ∙ all_stay is_accepted pairs pass

pub reading_again : AreFilled → AreIdentified → ((pairs : List KeyValue) → normal_form (normal_form pairs) ≡ normal_form pairs) → AreFound BeginsWithDigit
    → AreFoundNumbers IsNotBlank → AreFoundPages IsNotBlank
    → (pairs : List KeyValue)
    → length (normal_form (counting pairs)) ≤ most_pairs
    → reading_of (reading_of pairs).pairs
    ≡ record { pairs = (reading_of pairs).pairs; left_out = 0; is_retracted = is_retracted (normal_form (counting pairs)) }
reading_again filled identified once found numbers pages pairs few =
    let normal = normal_form (counting pairs) in
    let keys = named_again normal (named-normal_form (counting pairs) (named-counting pairs)) in
    let same : accepted (map named (with_derived normal)) ≡ normal =
    ap accepted keys ∙ accepted_again normal (normal_form_passes filled identified found numbers pages (counting pairs) (counting_pass pairs)) in
    let counted : counting (with_derived normal) ≡ normal = ap (take most_pairs) same ∙ take_all most_pairs normal few in
    let read : with_derived (normal_form (counting (with_derived normal))) ≡ with_derived normal =
    ap (λ list. with_derived (normal_form list)) counted ∙ ap with_derived (once (counting pairs)) in
    let none : length (accepted (map named (with_derived normal))) - most_pairs ≡ 0 = ap (λ list. length list - most_pairs) same ∙ omega (arith, few) in
    let noted : is_retracted (counting (with_derived normal)) ≡ is_retracted normal = ap is_retracted counted in
    λ i. record { pairs = read i; left_out = none i; is_retracted = noted i }
