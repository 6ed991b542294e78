-- What is found as a volume or an issue is found again.
use Rattle.std.proofs.Common.{◌≡◌, ◌⊎◌, ◌∷◌, ◌++◌, Bool, true, false, cond, Option, Some, None}
use Rattle.std.proofs.Common.{refl, sym, ap, ◌∙◌, subst, inl, inr}
use Rattle.std.specs.Option.{option_and_then}
use Rattle.std.specs.Str.{bytes_eq}
use Rattle.text_model.specs.Texts.{Text}
use Rattle.article_places.specs.Enumerations.{Numbers, alone, short_supplement}
use Rattle.openurl_reading.specs.Volumes.{read_numbers, issue_text, volume_of, volume_in, issue_after, issue_after_volume, number_before}
use Rattle.openurl_reading.specs.Volumes.{volume_before_issue, is_volume, issue_by, issue_in}
use Rattle.openurl_reading.specs.Canonical.{IsDesignation, is_number, is_supplement, other_designation}
use Rattle.openurl_reading.proofs.Values.{same_key}

abbrev pub supplement_alone : Text → Numbers
supplement_alone mark = record { first = None; issue = None; supplement = Some mark }

abbrev pub supplement_of : Text → Text → Numbers
supplement_of number mark = record { first = Some number; issue = None; supplement = Some mark }

-- the numbers of a value, or none if it is too long
abbrev pub IsReadOr : Text → Numbers → Type 0
IsReadOr value numbers = (read_numbers value ≡ Some numbers) ⊎ (read_numbers value ≡ None)

-- a number that is in a value
abbrev pub IsIn : Numbers → Text → Type 0
IsIn numbers number = (numbers.first ≡ Some number) ⊎ (numbers.issue ≡ Some number)

-- what the crate of volumes promises
pub record AreNumbersAgain : Type 0 where
  pub number : (value number : Text) (n : Numbers) → read_numbers value ≡ Some n → IsIn n number → read_numbers number ≡ Some (alone number)
  pub supplement : (value mark : Text) (n : Numbers) → read_numbers value ≡ Some n → n.supplement ≡ Some mark
      → IsReadOr (short_supplement mark) (supplement_alone mark)
  pub both : (value mark number : Text) (n : Numbers) → read_numbers value ≡ Some n → n.supplement ≡ Some mark
      → IsIn n number → IsReadOr (number ++ 0x20 ∷ short_supplement mark) (supplement_of number mark)

-- ---- by cases on the numbers that are read

-- something that is found in the numbers of a value is found in some numbers
pub record IsOf (find : Numbers → Option Text) (value n : Text) : Type 0 where
  pub numbers : Numbers
  pub read : read_numbers value ≡ Some numbers
  pub found : find numbers ≡ Some n

pub of_numbers : (find : Numbers → Option Text) (value n : Text) → option_and_then find (read_numbers value) ≡ Some n → IsOf find value n
of_numbers find value n e = by_read (read_numbers value) refl e
  where
    by_read : (o : Option Numbers) → read_numbers value ≡ o → option_and_then find o ≡ Some n → IsOf find value n
    by_read None h g = cc
    by_read (Some numbers) h g = record { numbers = numbers; read = h; found = g }

-- ---- designations: a number or a supplement alone

pub designation_of : (mark : Text) → IsReadOr (short_supplement mark) (supplement_alone mark) → IsDesignation (short_supplement mark)
designation_of mark (inl e) = is_supplement mark e
designation_of mark (inr e) = other_designation (short_supplement mark) e

pub volume_found : AreNumbersAgain → (value n : Text) → volume_in value ≡ Some n → IsDesignation n
volume_found laws value n e =
    let is = of_numbers volume_of value n e in by_first is.numbers.first is.numbers.supplement refl refl is.numbers is.read is.found refl refl
  where
    by_first : (first mark : Option Text) → first ≡ first → mark ≡ mark → (numbers : Numbers) → read_numbers value ≡ Some numbers
        → volume_of numbers ≡ Some n → numbers.first ≡ first → numbers.supplement ≡ mark → IsDesignation n
    by_first (Some f) mark _ _ numbers read found a b =
        let same : f ≡ n = cc in subst IsDesignation same (is_number f (laws.number value f numbers read (inl a)))
    by_first None (Some s) _ _ numbers read found a b =
        let same : short_supplement s ≡ n = cc in subst IsDesignation same (designation_of s (laws.supplement value s numbers read b))
    by_first None None _ _ numbers read found a b = cc

-- the number before an issue
first_of_before : (first issue : Option Text) (n : Text) → number_before first issue ≡ Some n → first ≡ Some n
first_of_before first None n e = cc
first_of_before first (Some i) n e = e

pub before_found : AreNumbersAgain → (value n : Text) → volume_before_issue value ≡ Some n → read_numbers n ≡ Some (alone n)
before_found laws value n e =
    let is = of_numbers (λ numbers. number_before numbers.first (issue_text numbers.issue numbers.supplement)) value n e in
    laws.number value n is.numbers is.read
    (inl (first_of_before is.numbers.first (issue_text is.numbers.issue is.numbers.supplement) n is.found))

-- a designation has nothing beside it, and is found as it is

pub none_after : (v : Text) → IsDesignation v → issue_after_volume v ≡ None
none_after v (is_number _ e) = ap (option_and_then (λ (n : Numbers). issue_after n.first (issue_text n.issue n.supplement))) e
none_after _ (is_supplement mark e) = ap (option_and_then (λ (n : Numbers). issue_after n.first (issue_text n.issue n.supplement))) e
none_after v (other_designation _ e) = ap (option_and_then (λ (n : Numbers). issue_after n.first (issue_text n.issue n.supplement))) e

pub none_before : (v : Text) → IsDesignation v → volume_before_issue v ≡ None
none_before v (is_number _ e) = ap (option_and_then (λ (n : Numbers). number_before n.first (issue_text n.issue n.supplement))) e
none_before _ (is_supplement mark e) = ap (option_and_then (λ (n : Numbers). number_before n.first (issue_text n.issue n.supplement))) e
none_before v (other_designation _ e) = ap (option_and_then (λ (n : Numbers). number_before n.first (issue_text n.issue n.supplement))) e

abbrev pub IsSame : Text → Option Text → Type 0
IsSame v found = (found ≡ Some v) ⊎ (found ≡ None)

pub volume_again : (v : Text) → IsDesignation v → IsSame v (volume_in v)
volume_again v (is_number _ e) = inl (ap (option_and_then volume_of) e)
volume_again _ (is_supplement mark e) = inl (ap (option_and_then volume_of) e)
volume_again v (other_designation _ e) = inr (ap (option_and_then volume_of) e)

pub issue_same : (volume : Option Text) (v : Text) → IsDesignation v → IsSame v (issue_in volume v)
issue_same volume v (is_number _ e) = inl (ap (option_and_then (λ (n : Numbers). issue_by volume n.first n.issue n.supplement)) e)
issue_same volume _ (is_supplement mark e) = inl (ap (option_and_then (λ (n : Numbers). issue_by volume n.first n.issue n.supplement)) e)
issue_same volume v (other_designation _ e) = inr (ap (option_and_then (λ (n : Numbers). issue_by volume n.first n.issue n.supplement)) e)

-- ---- an issue

-- a supplement of another number than that of the volume
pub record IsBeside (volume : Option Text) (n : Text) : Type 0 where
  pub number : Text
  pub mark : Text
  pub whole : number ++ 0x20 ∷ short_supplement mark ≡ n
  pub read : IsReadOr n (supplement_of number mark)
  pub other : is_volume volume number ≡ false

-- what is found in a value as an issue, which is beside another number only if that value has a number before an issue
pub data IsIssueOf (volume : Option Text) (value n : Text) : Type 0 where
  one : IsDesignation n → IsIssueOf volume value n
  beside : (first : Text) → IsBeside volume n → volume_before_issue value ≡ Some first → IsIssueOf volume value n

before_is : (value : Text) (numbers : Numbers) → read_numbers value ≡ Some numbers
    → volume_before_issue value ≡ number_before numbers.first (issue_text numbers.issue numbers.supplement)
before_is value numbers e = ap (option_and_then (λ (n : Numbers). number_before n.first (issue_text n.issue n.supplement))) e

beside_of : AreNumbersAgain → (volume : Option Text) (value number mark first n : Text) (numbers : Numbers) → read_numbers value ≡ Some numbers
    → IsIn numbers number → numbers.supplement ≡ Some mark → is_volume volume number ≡ false
    → number_before numbers.first (issue_text numbers.issue numbers.supplement) ≡ Some first
    → number ++ 0x20 ∷ short_supplement mark ≡ n → IsIssueOf volume value n
beside_of laws volume value number mark first n numbers read has supplement other before whole =
    let known = laws.both value mark number numbers read supplement has in
    beside first (record {
      number = number;
      mark = mark;
      whole = whole;
      read = subst (λ t. IsReadOr t (supplement_of number mark)) whole known;
      other = other;
    }) (before_is value numbers read ∙ before)

not_volume : (volume : Option Text) (first issue : Text) → is_volume volume first ≡ true → bytes_eq first issue ≡ false
    → is_volume volume issue ≡ false
not_volume None first issue h g = cc
not_volume (Some v) first issue h g = subst (λ t. bytes_eq t issue ≡ false) (sym (same_key v first h)) g

pub issue_found : AreNumbersAgain → (volume : Option Text) (value n : Text) → issue_in volume value ≡ Some n → IsIssueOf volume value n
issue_found laws volume value n e =
    let is = of_numbers (λ numbers. issue_by volume numbers.first numbers.issue numbers.supplement) value n e in
    by_numbers is.numbers.first is.numbers.issue is.numbers.supplement is.numbers is.read refl refl refl is.found
  where
    number_of : (t : Text) (numbers : Numbers) → read_numbers value ≡ Some numbers → IsIn numbers t → Some t ≡ Some n → IsIssueOf volume value n
    number_of t numbers read has e =
        let same : t ≡ n = cc in subst (IsIssueOf volume value) same (one (is_number t (laws.number value t numbers read has)))

    mark_of : (s : Text) (numbers : Numbers) → read_numbers value ≡ Some numbers → numbers.supplement ≡ Some s → Some (short_supplement s) ≡ Some n
        → IsIssueOf volume value n
    mark_of s numbers read has e =
        let same : short_supplement s ≡ n = cc in
        subst (IsIssueOf volume value) same (one (designation_of s (laws.supplement value s numbers read has)))

    by_numbers : (first issue mark : Option Text) (numbers : Numbers) → read_numbers value ≡ Some numbers → numbers.first ≡ first
        → numbers.issue ≡ issue → numbers.supplement ≡ mark → issue_by volume first issue mark ≡ Some n → IsIssueOf volume value n
    by_numbers None issue None numbers read a b c e = cc
    by_numbers None issue (Some s) numbers read a b c e = mark_of s numbers read c e
    by_numbers (Some f) None None numbers read a b c e = number_of f numbers read (inl a) e
    by_numbers (Some f) (Some i) None numbers read a b c e = by_test (is_volume volume f) e
      where
        by_test : (t : Bool) → cond t (Some i) None ≡ Some n → IsIssueOf volume value n
        by_test true g = number_of i numbers read (inr b) g
        by_test false g = cc
    by_numbers (Some f) None (Some s) numbers read a b c e = by_test (is_volume volume f) refl e
      where
        by_test : (t : Bool) → is_volume volume f ≡ t → issue_text (cond t None (Some f)) (Some s) ≡ Some n → IsIssueOf volume value n
        by_test true h g = mark_of s numbers read c g
        by_test false h g =
            beside_of laws volume value f s f n numbers read (inl a) c h (rw (a, b, c) refl) (let same : f ++ 0x20 ∷ short_supplement s ≡ n = cc in same)
    by_numbers (Some f) (Some i) (Some s) numbers read a b c e = by_test (is_volume volume f) (bytes_eq f i) refl refl e
      where
        by_test : (t u : Bool) → is_volume volume f ≡ t → bytes_eq f i ≡ u
            → cond t (issue_text (cond u None (Some i)) (Some s)) None ≡ Some n → IsIssueOf volume value n
        by_test true true h k g = mark_of s numbers read c g
        by_test true false h k g =
            beside_of laws volume value i s f n numbers read (inr b) c (not_volume volume f i h k) (rw (a, b, c) refl)
            (let same : i ++ 0x20 ∷ short_supplement s ≡ n = cc in same)
        by_test false u h k g = cc

beside_again : (volume : Option Text) (n : Text) → IsBeside volume n → IsSame n (issue_in volume n)
beside_again volume n is =
    elim is.read [
      | inl e ↦ inl (ap (option_and_then (λ (m : Numbers). issue_by volume m.first m.issue m.supplement)) e
          ∙ ap (λ b. issue_text (cond b None (Some is.number)) (Some is.mark)) is.other ∙ ap Some is.whole)
      | inr e ↦ inr (ap (option_and_then (λ (m : Numbers). issue_by volume m.first m.issue m.supplement)) e)
    ]

pub issue_again : AreNumbersAgain → (volume : Option Text) (value n : Text) → issue_in volume value ≡ Some n → IsSame n (issue_in volume n)
issue_again laws volume value n e =
    elim (issue_found laws volume value n e) [
      | one is ↦ issue_same volume n is
      | beside first is before ↦ beside_again volume n is
    ]

-- an issue that is found where no number is before an issue has none before it
pub none_before_found : AreNumbersAgain → (volume : Option Text) (value n : Text) → volume_before_issue value ≡ None → issue_in volume value ≡ Some n
    → volume_before_issue n ≡ None
none_before_found laws volume value n none e =
    elim (issue_found laws volume value n e) [
      | one is ↦ none_before n is
      | beside first is before ↦ let no : Some first ≡ None = sym before ∙ none in cc
    ]
