-- What follows for volumes and issues from the laws of numbers: they are found again, short and not blank.
use Rattle.std.proofs.Common.{◌≡◌, ◌≤◌, ◌+◌, ◌⊎◌, List, [], ◌∷◌, ◌++◌, Bool, true, false, cond, Option, Some, None, length, refl, sym, ap, ◌∙◌, subst, inl}
use Rattle.std.proofs.Common.{inr, arith}
use Rattle.std.specs.Prelude.{◌≢◌, codes, nat_le}
use Rattle.std.specs.Option.{option_and_then}
use Rattle.std.specs.Str.{bytes_eq}
use Rattle.std.proofs.lemmas.Bool.{leb-true}
use Rattle.std.proofs.lemmas.Bool.Decides.{nat_tests}
use Rattle.std.proofs.lemmas.List.{length-append}
use Rattle.text_model.specs.Texts.{Text}
use Rattle.kev_read.specs.Pairs.{KeyValue, all_of, first_of}
use Rattle.article_places.specs.Enumerations.{Numbers, numbers_in, alone, short_supplement}
use Rattle.article_places.specs.Parts.{IsPartOf}
use Rattle.openurl_reading.specs.Values.{most_bytes, in_ascii}
use Rattle.openurl_reading.specs.Volumes.{numbers_of, read_numbers, issue_text, volume_of, volume_in, issue_after, issue_after_volume, number_before}
use Rattle.openurl_reading.specs.Volumes.{volume_before_issue, is_volume, issue_by, issue_in, added_issue, volume, issue, without_own, volume_among}
use Rattle.openurl_reading.proofs.Firsts.{of_first}
use Rattle.openurl_reading.proofs.FoundAre.{IsAll, none_is}
use Rattle.openurl_reading.proofs.PagesFound.{PartsAreShort}
use Rattle.openurl_reading.proofs.PlainNumbers.{AreWritten, IsWord, word_stays, supplement_stays, both_stays}
use Rattle.openurl_reading.proofs.VolumesFound.{AreNumbersAgain, IsReadOr, IsIn, supplement_alone, supplement_of, of_numbers}

-- ---- what the laws say

abbrev pub ArePart : (Numbers → Option Text) → Type 0
ArePart find = (text number : Text) (n : Numbers) → numbers_in text ≡ Some n → find n ≡ Some number → IsPartOf text number

abbrev pub AreAlone : (Numbers → Option Text) → Type 0
AreAlone find = (text number : Text) (n : Numbers) → numbers_in text ≡ Some n → find n ≡ Some number → numbers_in number ≡ Some (alone number)

abbrev pub SupplementsStay : Type 0
SupplementsStay = (text mark : Text) (n : Numbers) → numbers_in text ≡ Some n → n.supplement ≡ Some mark
    → numbers_in (short_supplement mark) ≡ Some (supplement_alone mark)

abbrev pub SupplementsStayAfter : Type 0
SupplementsStayAfter = (text mark number : Text) (n : Numbers) → numbers_in text ≡ Some n → n.supplement ≡ Some mark
    → numbers_in number ≡ Some (alone number) → numbers_in (number ++ 0x20 ∷ short_supplement mark) ≡ Some (supplement_of number mark)

abbrev pub AreWords : (Numbers → Option Text) → Type 0
AreWords find = (text number : Text) (n : Numbers) → numbers_in text ≡ Some n → find n ≡ Some number → IsWord number

pub record NumberLaws : Type 0 where
  pub short : PartsAreShort
  pub first_part : ArePart (λ n. n.first)
  pub issue_part : ArePart (λ n. n.issue)
  pub supplement_part : ArePart (λ n. n.supplement)
  pub first_alone : AreAlone (λ n. n.first)
  pub issue_alone : AreAlone (λ n. n.issue)
  pub supplement_alone : SupplementsStay
  pub after_number : SupplementsStayAfter
  pub first_word : AreWords (λ n. n.first)
  pub issue_word : AreWords (λ n. n.issue)
  pub supplement_word : AreWords (λ n. n.supplement)
  pub written : AreWritten

-- ---- a value that is read

record IsRead (text : Text) (n : Numbers) : Type 0 where
  short : length text ≤ most_bytes
  is : numbers_in text ≡ Some n

is_read : (text : Text) (n : Numbers) → numbers_of text ≡ Some n → IsRead text n
is_read text n e = by_test (nat_le (length text) most_bytes) refl e
  where
    by_test : (b : Bool) → nat_le (length text) most_bytes ≡ b → cond b (numbers_in text) None ≡ Some n → IsRead text n
    by_test true h g = record { short = leb-true (length text) most_bytes h; is = g }
    by_test false h g = cc

read_short : (text : Text) → length text ≤ most_bytes → numbers_of text ≡ numbers_in text
read_short text h = let test : nat_le (length text) most_bytes ≡ true = grind (arith, nat_tests, h) in ap (λ b. cond b (numbers_in text) None) test

-- of a text that is written as it is
read_or_none : (text : Text) (n : Numbers) → in_ascii text ≡ text → numbers_in text ≡ Some n → IsReadOr text n
read_or_none text n stays e = subst (λ t. (numbers_of t ≡ Some n) ⊎ (numbers_of t ≡ None)) (sym stays) (by_test (nat_le (length text) most_bytes))
  where
    by_test : (b : Bool) → (cond b (numbers_in text) None ≡ Some n) ⊎ (cond b (numbers_in text) None ≡ None)
    by_test true = inl e
    by_test false = inr refl

-- ---- lengths

pub in_short : NumberLaws → (value number : Text) (n : Numbers) → read_numbers value ≡ Some n → IsIn n number → length number ≤ 200
in_short laws value number n e (inl f) =
    let text = in_ascii value in
    let read = is_read text n e in omega (arith, read.short, laws.short text number (laws.first_part text number n read.is f))
in_short laws value number n e (inr f) =
    let text = in_ascii value in
    let read = is_read text n e in omega (arith, read.short, laws.short text number (laws.issue_part text number n read.is f))

pub mark_short : NumberLaws → (value mark : Text) (n : Numbers) → read_numbers value ≡ Some n → n.supplement ≡ Some mark → length mark ≤ 200
mark_short laws value mark n e f =
    let text = in_ascii value in
    let read = is_read text n e in omega (arith, read.short, laws.short text mark (laws.supplement_part text mark n read.is f))

pub supplement_long : (mark : Text) → length (short_supplement mark) ≤ 6 + length mark
supplement_long [] = omega arith
supplement_long (b ∷ t) = omega (arith, length-append (codes "Suppl ") (b ∷ t))

-- ---- found again

pub number_alone : NumberLaws → (value number : Text) (n : Numbers) → read_numbers value ≡ Some n → IsIn n number → numbers_in number ≡ Some (alone number)
number_alone laws value number n e (inl f) = laws.first_alone (in_ascii value) number n (is_read (in_ascii value) n e).is f
number_alone laws value number n e (inr f) = laws.issue_alone (in_ascii value) number n (is_read (in_ascii value) n e).is f

number_word : NumberLaws → (value number : Text) (n : Numbers) → read_numbers value ≡ Some n → IsIn n number → IsWord number
number_word laws value number n e (inl f) = laws.first_word (in_ascii value) number n (is_read (in_ascii value) n e).is f
number_word laws value number n e (inr f) = laws.issue_word (in_ascii value) number n (is_read (in_ascii value) n e).is f

mark_word : NumberLaws → (value mark : Text) (n : Numbers) → read_numbers value ≡ Some n → n.supplement ≡ Some mark → IsWord mark
mark_word laws value mark n e f = laws.supplement_word (in_ascii value) mark n (is_read (in_ascii value) n e).is f

alone_some : (number : Text) → numbers_in number ≡ Some (alone number) → number ≢ []
alone_some number e none =
    let first : Option Numbers → Option Text = option_and_then (λ (n : Numbers). n.first) in
    let no : None ≡ Some number = sym (ap (λ t. first (numbers_in t)) none) ∙ ap first e in cc

pub number_again : NumberLaws → (value number : Text) (n : Numbers) → read_numbers value ≡ Some n → IsIn n number → read_numbers number ≡ Some (alone number)
number_again laws value number n e is =
    ap numbers_of (word_stays laws.written number (number_word laws value number n e is))
    ∙ read_short number (in_short laws value number n e is) ∙ number_alone laws value number n e is

pub numbers_again : NumberLaws → AreNumbersAgain
numbers_again laws = record {
  number = number_again laws;
  supplement = λ value mark n e f.
      read_or_none (short_supplement mark) (supplement_alone mark) (supplement_stays laws.written mark (mark_word laws value mark n e f))
      (laws.supplement_alone (in_ascii value) mark n (is_read (in_ascii value) n e).is f);
  both = λ value mark number n e f is.
      let one = number_alone laws value number n e is in
      read_or_none (number ++ 0x20 ∷ short_supplement mark) (supplement_of number mark)
      (both_stays laws.written number mark (alone_some number one) (number_word laws value number n e is) (mark_word laws value mark n e f))
      (laws.after_number (in_ascii value) mark number n (is_read (in_ascii value) n e).is f one);
}

-- ---- what holds of all that is found

-- of each number, each supplement, and each number with a supplement
pub record AreFoundNumbersIn (P : Text → Type 0) (value : Text) : Type 0 where
  pub number : (number : Text) (n : Numbers) → read_numbers value ≡ Some n → IsIn n number → P number
  pub supplement : (mark : Text) (n : Numbers) → read_numbers value ≡ Some n → n.supplement ≡ Some mark → P (short_supplement mark)
  pub both : (number mark : Text) (n : Numbers) → read_numbers value ≡ Some n → IsIn n number → n.supplement ≡ Some mark
      → P (number ++ 0x20 ∷ short_supplement mark)

abbrev pub AreFoundNumbers : (Text → Type 0) → Type 0
AreFoundNumbers P = (value : Text) → AreFoundNumbersIn P value

-- the parts of the numbers of a value
abbrev IsInIf : Numbers → Option Text → Type 0
IsInIf n number = IsAll (IsIn n) number

abbrev IsMarkIf : Numbers → Option Text → Type 0
IsMarkIf n mark = IsAll (λ s. n.supplement ≡ Some s) mark

text_is : (P : Text → Type 0) (value : Text) → AreFoundNumbersIn P value → (n : Numbers) → read_numbers value ≡ Some n → (issue mark : Option Text)
    → IsInIf n issue → IsMarkIf n mark → IsAll P (issue_text issue mark)
text_is P value are n read None None i m t e = cc
text_is P value are n read None (Some s) i m t e =
    let same : short_supplement s ≡ t = cc in subst P same (are.supplement s n read (m s refl))
text_is P value are n read (Some x) None i m t e = let same : x ≡ t = cc in subst P same (are.number x n read (i x refl))
text_is P value are n read (Some x) (Some s) i m t e =
    let same : x ++ 0x20 ∷ short_supplement s ≡ t = cc in subst P same (are.both x s n read (i x refl) (m s refl))

-- a condition leaves what holds of both
if_is : (P : Text → Type 0) (b : Bool) (x y : Option Text) → IsAll P x → IsAll P y → IsAll P (cond b x y)
if_is P true x y h g = h
if_is P false x y h g = g

by_is : (P : Text → Type 0) (value : Text) → AreFoundNumbersIn P value → (n : Numbers) → read_numbers value ≡ Some n → (volume first issue mark : Option Text)
    → IsInIf n first → IsInIf n issue → IsMarkIf n mark → IsAll P (issue_by volume first issue mark)
by_is P value are n read volume None issue mark f i m = text_is P value are n read None mark (none_is (IsIn n)) m
by_is P value are n read volume (Some x) None None f i m = text_is P value are n read (Some x) None f m
by_is P value are n read volume (Some x) (Some y) None f i m =
    if_is P (is_volume volume x) (Some y) None (text_is P value are n read (Some y) None i m) (none_is P)
by_is P value are n read volume (Some x) None (Some s) f i m =
    text_is P value are n read (cond (is_volume volume x) None (Some x)) (Some s)
    (if_is (IsIn n) (is_volume volume x) None (Some x) (none_is (IsIn n)) f) m
by_is P value are n read volume (Some x) (Some y) (Some s) f i m =
    if_is P (is_volume volume x) (issue_text (cond (bytes_eq x y) None (Some y)) (Some s)) None
    (text_is P value are n read (cond (bytes_eq x y) None (Some y)) (Some s)
    (if_is (IsIn n) (bytes_eq x y) None (Some y) (none_is (IsIn n)) i) m) (none_is P)

pub issue_is : (P : Text → Type 0) (value : Text) → AreFoundNumbersIn P value → (volume : Option Text) → IsAll P (issue_in volume value)
issue_is P value are volume t e =
    let is = of_numbers (λ n. issue_by volume n.first n.issue n.supplement) value t e in
    by_is P value are is.numbers is.read volume is.numbers.first is.numbers.issue is.numbers.supplement (λ x h. inl h) (λ x h. inr h) (λ s h. h) t is.found

volume_of_is : (P : Text → Type 0) (value : Text) → AreFoundNumbersIn P value → (n : Numbers) → read_numbers value ≡ Some n → (first mark : Option Text)
    → IsInIf n first → IsMarkIf n mark → IsAll P (volume_of (record { first = first; issue = None; supplement = mark }))
volume_of_is P value are n read (Some x) mark f m = text_is P value are n read (Some x) None f (none_is (λ s. n.supplement ≡ Some s))
volume_of_is P value are n read None mark f m = text_is P value are n read None mark (none_is (IsIn n)) m

pub volume_is : (P : Text → Type 0) (value : Text) → AreFoundNumbersIn P value → IsAll P (volume_in value)
volume_is P value are t e =
    let is = of_numbers volume_of value t e in
    volume_of_is P value are is.numbers is.read is.numbers.first is.numbers.supplement (λ x h. inl h) (λ s h. h) t is.found

after_is : (P : Text → Type 0) (first issue : Option Text) → IsAll P issue → IsAll P (issue_after first issue)
after_is P None issue h = none_is P
after_is P (Some x) issue h = h

pub issue_after_is : (P : Text → Type 0) (value : Text) → AreFoundNumbersIn P value → IsAll P (issue_after_volume value)
issue_after_is P value are t e =
    let is = of_numbers (λ n. issue_after n.first (issue_text n.issue n.supplement)) value t e in
    let n = is.numbers in
    after_is P n.first (issue_text n.issue n.supplement) (text_is P value are n is.read n.issue n.supplement (λ x h. inr h) (λ s h. h)) t is.found

before_is : (P : Text → Type 0) (first issue : Option Text) → IsAll P first → IsAll P (number_before first issue)
before_is P first None h = none_is P
before_is P first (Some x) h = h

pub volume_before_is : (P : Text → Type 0) (value : Text) → AreFoundNumbersIn P value → IsAll P (volume_before_issue value)
volume_before_is P value are t e =
    let is = of_numbers (λ n. number_before n.first (issue_text n.issue n.supplement)) value t e in
    let n = is.numbers in
    before_is P n.first (issue_text n.issue n.supplement) (λ x h. are.number x n is.read (inl h)) t is.found

-- ---- of a request

pub first_is : (P : Text → Type 0) (read : Text → Option Text) → ((value : Text) → IsAll P (read value)) → (values : List Text) → IsAll P (of_first read values)
first_is P read each [] = none_is P
first_is P read each (v ∷ vs) = each v

without_is : (P : Text → Type 0) (values : List Text) (found : Option Text) → IsAll P found → IsAll P (without_own values found)
without_is P [] found h = h
without_is P (v ∷ vs) found h = none_is P

pub added_issue_is : (P : Text → Type 0) → AreFoundNumbers P → (pairs : List KeyValue) → IsAll P (added_issue pairs)
added_issue_is P are pairs =
    without_is P (all_of pairs (codes "rft.issue")) _
    (first_is P issue_after_volume (λ value. issue_after_is P value (are value)) (all_of pairs (codes "rft.volume")))

among_is : (P : Text → Type 0) → AreFoundNumbers P → (values : List Text) (found : Option Text) → IsAll P found → IsAll P (volume_among values found)
among_is P are [] found h = h
among_is P are (v ∷ vs) found h = volume_is P v (are v)

pub found_volume_is : (P : Text → Type 0) → AreFoundNumbers P → (pairs : List KeyValue) → IsAll P (volume pairs)
found_volume_is P are pairs =
    among_is P are (all_of pairs (codes "rft.volume")) _
    (first_is P volume_before_issue (λ value. volume_before_is P value (are value)) (all_of pairs (codes "rft.issue")))

pub found_issue_is : (P : Text → Type 0) → AreFoundNumbers P → (pairs : List KeyValue) → IsAll P (issue pairs)
found_issue_is P are pairs =
    let known = first_of pairs (codes "rft.volume") in
    first_is P (issue_in known) (λ value. issue_is P value (are value) known) (all_of pairs (codes "rft.issue"))
