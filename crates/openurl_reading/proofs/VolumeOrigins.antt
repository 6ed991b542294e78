-- The volume and the issue of a request are read in its values.
use Rattle.std.proofs.Common.{◌≡◌, List, [], ◌∷◌, ◌++◌, Bool, true, false, cond, Option, Some, None, refl, sym, ap, subst, get_or, inl, inr}
use Rattle.std.specs.Prelude.{Contains, slice_get}
use Rattle.std.specs.List.{All}
use Rattle.std.specs.Option.{option_and_then}
use Rattle.std.proofs.lemmas.List.Elements.{All-head}
use Rattle.text_model.specs.Texts.{Text}
use Rattle.article_places.specs.Enumerations.{Numbers, short_supplement}
use Rattle.openurl_reading.specs.Volumes.{read_numbers, issue_text, issue_after, issue_after_volume, number_before, volume_before_issue}
use Rattle.openurl_reading.specs.Volumes.{is_volume, issue_by, issue_in, without_own, volume_among}
use Rattle.openurl_reading.specs.Canonical.{IsDesignation, is_number}
use Rattle.openurl_reading.specs.Origins.{HasOrigin, number_in, supplement_in, supplement_of_issue}
use Rattle.openurl_reading.proofs.Each.{each_after}
use Rattle.openurl_reading.proofs.Firsts.{of_first}
use Rattle.openurl_reading.proofs.FoundAre.{IsAll, none_is}
use Rattle.openurl_reading.proofs.VolumeLaws.{AreFoundNumbersIn, issue_is, volume_is, issue_after_is, volume_before_is}
use Rattle.openurl_reading.proofs.VolumesFound.{AreNumbersAgain, IsReadOr, IsSame, supplement_of, of_numbers, designation_of, none_before, issue_same}
use Rattle.openurl_reading.proofs.VolumesLed.{with_added}

-- what is found in a value of the request
found_in : (sent : List Text) (value : Text) → Contains sent value → AreFoundNumbersIn (HasOrigin sent) value
found_in sent value h = record {
  number = λ number n e is. number_in value number n h e is;
  supplement = λ mark n e f. supplement_in value mark n h e f;
  both = λ number mark n e is f. supplement_of_issue value number mark n h e is f;
}

-- what is found in a value under the key of issues has an origin
pub record GivesIssues (sent : List Text) (value : Text) : Type 0 where
  pub issue : (volume : Option Text) → IsAll (HasOrigin sent) (issue_in volume value)
  pub before : IsAll (HasOrigin sent) (volume_before_issue value)

sent_gives : (sent : List Text) (value : Text) → Contains sent value → GivesIssues sent value
sent_gives sent value h = record {
  issue = λ volume. issue_is (HasOrigin sent) value (found_in sent value h) volume;
  before = volume_before_is (HasOrigin sent) value (found_in sent value h);
}

same_has : (sent : List Text) (w : Text) (found : Option Text) → HasOrigin sent w → IsSame w found → IsAll (HasOrigin sent) found
same_has sent w found has (inl e) n g = let same : w ≡ n = cc in subst (HasOrigin sent) same has
same_has sent w found has (inr e) n g = cc

designation_gives : (sent : List Text) (w : Text) → IsDesignation w → HasOrigin sent w → GivesIssues sent w
designation_gives sent w is has = record {
  issue = λ volume. same_has sent w (issue_in volume w) has (issue_same volume w is);
  before = subst (IsAll (HasOrigin sent)) (sym (none_before w is)) (none_is (HasOrigin sent));
}

-- a supplement of an issue, read as the number of a volume and its supplement
both_gives : (sent : List Text) (x s : Text) → IsReadOr (x ++ 0x20 ∷ short_supplement s) (supplement_of x s) → HasOrigin sent x
    → HasOrigin sent (short_supplement s) → HasOrigin sent (x ++ 0x20 ∷ short_supplement s) → GivesIssues sent (x ++ 0x20 ∷ short_supplement s)
both_gives sent x s (inl e) number mark both = record {
  issue = λ volume.
      subst (IsAll (HasOrigin sent)) (sym (ap (option_and_then (λ (n : Numbers). issue_by volume n.first n.issue n.supplement)) e))
      (by_test (is_volume volume x));
  before = subst (IsAll (HasOrigin sent)) (sym (ap (option_and_then (λ (n : Numbers). number_before n.first (issue_text n.issue n.supplement))) e))
      (one x number);
}
  where
    one : (t : Text) → HasOrigin sent t → IsAll (HasOrigin sent) (Some t)
    one t has n g = let same : t ≡ n = cc in subst (HasOrigin sent) same has

    by_test : (b : Bool) → IsAll (HasOrigin sent) (issue_text (cond b None (Some x)) (Some s))
    by_test true = one (short_supplement s) mark
    by_test false = one (x ++ 0x20 ∷ short_supplement s) both
both_gives sent x s (inr e) number mark both = record {
  issue = λ volume.
      subst (IsAll (HasOrigin sent)) (sym (ap (option_and_then (λ (n : Numbers). issue_by volume n.first n.issue n.supplement)) e))
      (none_is (HasOrigin sent));
  before = subst (IsAll (HasOrigin sent)) (sym (ap (option_and_then (λ (n : Numbers). number_before n.first (issue_text n.issue n.supplement))) e))
      (none_is (HasOrigin sent));
}

added_gives : AreNumbersAgain → (sent : List Text) (value w : Text) → Contains sent value → issue_after_volume value ≡ Some w → GivesIssues sent w
added_gives laws sent value w h e =
    let is = of_numbers (λ n. issue_after n.first (issue_text n.issue n.supplement)) value w e in
    by_numbers is.numbers.first is.numbers.issue is.numbers.supplement is.numbers is.read refl refl is.found
  where
    found : AreFoundNumbersIn (HasOrigin sent) value
    found = found_in sent value h

    by_numbers : (first issue mark : Option Text) (n : Numbers) → read_numbers value ≡ Some n → n.issue ≡ issue → n.supplement ≡ mark
        → issue_after first (issue_text issue mark) ≡ Some w → GivesIssues sent w
    by_numbers None issue mark n read b c g = cc
    by_numbers (Some f) None None n read b c g = cc
    by_numbers (Some f) None (Some s) n read b c g =
        let same : short_supplement s ≡ w = cc in
        subst (GivesIssues sent) same
        (designation_gives sent (short_supplement s) (designation_of s (laws.supplement value s n read c)) (found.supplement s n read c))
    by_numbers (Some f) (Some x) None n read b c g =
        let same : x ≡ w = cc in
        subst (GivesIssues sent) same
        (designation_gives sent x (is_number x (laws.number value x n read (inr b))) (found.number x n read (inr b)))
    by_numbers (Some f) (Some x) (Some s) n read b c g =
        let same : x ++ 0x20 ∷ short_supplement s ≡ w = cc in
        subst (GivesIssues sent) same
        (both_gives sent x s (laws.both value s x n read c (inr b)) (found.number x n read (inr b))
        (found.supplement s n read c) (found.both x s n read (inr b) c))

-- ---- the values of keys

abbrev AreSent : List Text → List Text → Type 0
AreSent sent values = All (Contains sent) values

beside_gives : AreNumbersAgain → (sent volumes : List Text) → AreSent sent volumes → IsAll (GivesIssues sent) (of_first issue_after_volume volumes)
beside_gives laws sent [] vs n e = cc
beside_gives laws sent (v ∷ rest) vs n e = added_gives laws sent v n (All-head (Contains sent) v rest vs) e

without_is : (P : Text → Type 0) (values : List Text) (found : Option Text) → IsAll P found → IsAll P (without_own values found)
without_is P [] found h = h
without_is P (v ∷ vs) found h = none_is P

-- the issues after the first step
pub issues_give : AreNumbersAgain → (sent issues volumes : List Text) → AreSent sent issues → AreSent sent volumes
    → All (GivesIssues sent) (with_added issues volumes)
issues_give laws sent issues volumes is vs =
    each_after (GivesIssues sent) (without_own issues (of_first issue_after_volume volumes)) (slice_get issues 0) issues
    (without_is (GivesIssues sent) issues (of_first issue_after_volume volumes) (beside_gives laws sent volumes vs))
    (λ k d h. sent_gives sent (get_or issues k d) (is k d h))

beside_has : (sent volumes : List Text) → AreSent sent volumes → IsAll (HasOrigin sent) (of_first issue_after_volume volumes)
beside_has sent [] vs n e = cc
beside_has sent (v ∷ rest) vs n e = issue_after_is (HasOrigin sent) v (found_in sent v (All-head (Contains sent) v rest vs)) n e

pub added_has : (sent issues volumes : List Text) → AreSent sent volumes
    → IsAll (HasOrigin sent) (without_own issues (of_first issue_after_volume volumes))
added_has sent issues volumes vs =
    without_is (HasOrigin sent) issues (of_first issue_after_volume volumes) (beside_has sent volumes vs)

before_has : (sent issues : List Text) → All (GivesIssues sent) issues → IsAll (HasOrigin sent) (of_first volume_before_issue issues)
before_has sent [] is n e = cc
before_has sent (w ∷ ws) is n e = (All-head (GivesIssues sent) w ws is).before n e

pub volume_has : (sent issues volumes : List Text) → All (GivesIssues sent) issues → AreSent sent volumes
    → IsAll (HasOrigin sent) (volume_among volumes (of_first volume_before_issue issues))
volume_has sent issues [] is vs n e = before_has sent issues is n e
volume_has sent issues (v ∷ rest) is vs n e = volume_is (HasOrigin sent) v (found_in sent v (All-head (Contains sent) v rest vs)) n e

pub issue_has : (sent issues : List Text) (volume : Option Text) → All (GivesIssues sent) issues → IsAll (HasOrigin sent) (of_first (issue_in volume) issues)
issue_has sent [] volume is n e = cc
issue_has sent (w ∷ ws) volume is n e = (All-head (GivesIssues sent) w ws is).issue volume n e
