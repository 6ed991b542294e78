-- Numbers, dates, volumes and pages that are found are written as they are.
use Rattle.std.proofs.Common.{◌≡◌, ◌≤◌, ℕ, ◌-◌, ◌∷◌, [], ◌++◌, true, false, length, take, drop, get_or, refl, sym, ◌∙◌}
use Rattle.std.proofs.Common.{subst, arith}
use Rattle.std.specs.Prelude.{◌==◌, ◌≢◌}
use Rattle.std.specs.Char.{is_ascii_digit}
use Rattle.std.specs.List.{All, list_all}
use Rattle.std.proofs.lemmas.Bool.{and_parts, eqb-true}
use Rattle.std.proofs.lemmas.Bool.Decides.{nat_tests}
use Rattle.std.proofs.lemmas.List.{take-append-drop}
use Rattle.std.proofs.lemmas.List.Elements.{All-append, All-cons, All-weaker}
use Rattle.std.proofs.lemmas.List.Sums.{AllPass-from_list_all, list_all-from_AllPass}
use Rattle.text_model.specs.Texts.{Text, percent}
use Rattle.article_places.specs.Enumerations.{short_supplement}
use Rattle.article_places.specs.Parts.{is_place_byte}
use Rattle.publication_dates.specs.Calendar.{hyphen}
use Rattle.publication_dates.specs.Forms.{AreDigits, IsDate, year_alone, with_month, with_day}
use Rattle.standard_numbers.specs.Issn.{IsIssn}
use Rattle.standard_numbers.specs.Isbn.{IsIsbn}
use Rattle.standard_numbers.specs.Spellings.{are_digits, is_next}
use Rattle.written_numbers.specs.Characters.{is_in, space}
use Rattle.written_numbers.specs.Numbers.{visible, is_plain_after, is_plain}
use Rattle.written_texts.specs.declared.readings.Role.{Role}
use Rattle.written_texts.specs.declared.readings.Role.TheVariants.{Number}
use Rattle.written_texts.specs.Encoded.{has, plus}
use Rattle.written_texts.specs.Readings.{IsPlainNumber, written}
use Rattle.openurl_reading.specs.Values.{in_ascii}

-- what the laws of texts say of numbers
pub record AreWritten : Type 0 where
  pub stay : (text : Text) → IsPlainNumber text → written Number text ≡ text
  pub short : (role : Role) (text : Text) → length (written role text) ≤ length text

-- ---- bytes

visible_byte : (b : ℕ) → is_place_byte b ≡ true → is_in visible b ≡ true
unfolding visible
visible_byte b h = grind (arith, nat_tests)

no_space : (b : ℕ) → is_place_byte b ≡ true → (b == space) ≡ false
no_space b h = grind (arith, nat_tests)

no_percent : (b : ℕ) → is_place_byte b ≡ true → (b == percent) ≡ false
no_percent b h = grind (arith, nat_tests)

no_plus : (b : ℕ) → is_place_byte b ≡ true → (b == plus) ≡ false
no_plus b h = grind (arith, nat_tests)

digit_byte : (b : ℕ) → is_ascii_digit b ≡ true → is_place_byte b ≡ true
digit_byte b h = grind (arith, nat_tests)

-- ---- words

-- letters, digits and some other bytes
abbrev pub IsWord : Text → Type 0
IsWord t = list_all is_place_byte t ≡ true

has_none : (mark : ℕ) → ((b : ℕ) → is_place_byte b ≡ true → (b == mark) ≡ false) → (t : Text) → IsWord t → has mark t ≡ false
has_none mark none [] h = refl
has_none mark none (b ∷ t) h =
    let parts = and_parts (is_place_byte b) (list_all is_place_byte t) h in rw (none b parts.0) (has_none mark none t parts.1)

-- a word, and then something else
has_after : (mark : ℕ) → ((b : ℕ) → is_place_byte b ≡ true → (b == mark) ≡ false) → (t rest : Text) → IsWord t → has mark (t ++ rest) ≡ has mark rest
has_after mark none [] rest h = refl
has_after mark none (b ∷ t) rest h =
    let parts = and_parts (is_place_byte b) (list_all is_place_byte t) h in rw (none b parts.0) (has_after mark none t rest parts.1)

plain_rest : (t rest : Text) → IsWord t → is_plain_after false (t ++ rest) ≡ is_plain_after false rest
plain_rest [] rest h = refl
plain_rest (b ∷ t) rest h =
    let parts = and_parts (is_place_byte b) (list_all is_place_byte t) h in
    rw (visible_byte b parts.0, no_space b parts.0) (plain_rest t rest parts.1)

plain_more : (b : ℕ) (t rest : Text) → IsWord (b ∷ t) → is_plain (b ∷ t ++ rest) ≡ is_plain_after false rest
plain_more b t rest h =
    let parts = and_parts (is_place_byte b) (list_all is_place_byte t) h in
    rw (visible_byte b parts.0, no_space b parts.0) (plain_rest t rest parts.1)

word_plain : (b : ℕ) (t : Text) → IsWord (b ∷ t) → is_plain (b ∷ t) ≡ true
word_plain b t h =
    let parts = and_parts (is_place_byte b) (list_all is_place_byte t) h in
    rw (visible_byte b parts.0, no_space b parts.0) (rest t parts.1)
  where
    rest : (t : Text) → IsWord t → is_plain_after false t ≡ true
    rest [] h = refl
    rest (b ∷ t) h =
        let parts = and_parts (is_place_byte b) (list_all is_place_byte t) h in
        rw (visible_byte b parts.0, no_space b parts.0) (rest t parts.1)

word_is : (b : ℕ) (t : Text) → IsWord (b ∷ t) → IsPlainNumber (b ∷ t)
word_is b t h = record {
  no_percent = has_none percent no_percent (b ∷ t) h;
  no_plus = has_none plus no_plus (b ∷ t) h;
  ascii = word_plain b t h;
}

empty : (t : Text) → length t ≤ 0 → t ≡ []
empty [] h = refl
empty (b ∷ t) h = absurd (omega (arith, h))

pub word_stays : AreWritten → (t : Text) → IsWord t → in_ascii t ≡ t
word_stays laws [] h = empty (in_ascii []) (laws.short Number [])
word_stays laws (b ∷ t) h = laws.stay (b ∷ t) (word_is b t h)

-- ---- supplements

supplement_is : (mark : Text) → IsWord mark → IsPlainNumber (short_supplement mark)
unfolding visible
supplement_is [] h = record { no_percent = refl; no_plus = refl; ascii = refl }
supplement_is (b ∷ mark) h = record {
  no_percent = has_none percent no_percent (b ∷ mark) h;
  no_plus = has_none plus no_plus (b ∷ mark) h;
  ascii = word_plain b mark h;
}

pub supplement_stays : AreWritten → (mark : Text) → IsWord mark → in_ascii (short_supplement mark) ≡ short_supplement mark
supplement_stays laws mark h = laws.stay (short_supplement mark) (supplement_is mark h)

-- a plain text after a space
after_gap : (t : Text) → is_plain t ≡ true → is_plain_after false (0x20 ∷ t) ≡ true
unfolding visible
after_gap t h = h

pub both_stays : AreWritten → (number mark : Text) → number ≢ [] → IsWord number → IsWord mark
    → in_ascii (number ++ 0x20 ∷ short_supplement mark) ≡ number ++ 0x20 ∷ short_supplement mark
both_stays laws [] mark some h g = absurd (some refl)
both_stays laws (b ∷ number) mark some h g =
    let rest : Text = 0x20 ∷ short_supplement mark in
    let plain = supplement_is mark g in
    laws.stay (b ∷ number ++ rest) record {
      no_percent = has_after percent no_percent (b ∷ number) rest h ∙ plain.no_percent;
      no_plus = has_after plus no_plus (b ∷ number) rest h ∙ plain.no_plus;
      ascii = plain_more b number rest h ∙ after_gap (short_supplement mark) plain.ascii;
    }

-- ---- numbers of journals and books, and dates

abbrev Passes : ℕ → Type 0
Passes b = is_place_byte b ≡ true

digits_pass : (t : Text) → AreDigits t → All Passes t
digits_pass t digits = All-weaker (λ b. is_ascii_digit b ≡ true) Passes digit_byte t digits

all_digits : (t : Text) → list_all is_ascii_digit t ≡ true → All Passes t
all_digits t h = digits_pass t (AllPass-from_list_all is_ascii_digit t h)

word_of : (t : Text) → All Passes t → IsWord t
word_of t all = list_all-from_AllPass is_place_byte t all

next_byte : (count b : ℕ) → is_next count b ≡ true → is_place_byte b ≡ true
next_byte count b h = grind (arith, nat_tests)

next_pass : (count : ℕ) (t : Text) → are_digits count t ≡ true → All Passes t
next_pass count [] h = λ k d g. absurd (omega arith)
next_pass count (b ∷ t) h =
    let parts = and_parts (is_next count b) (are_digits (count - 1) t) h in
    All-cons Passes b t (next_byte count b parts.0) (next_pass (count - 1) t parts.1)

hyphen_passes : (t : Text) → All Passes t → All Passes (hyphen ∷ t)
hyphen_passes t all = All-cons Passes hyphen t refl all

pub issn_word : (issn : Text) → IsIssn issn → IsWord issn
issn_word issn is =
    let parts = and_parts _ _ is in
    let front = and_parts _ _ parts.0 in
    word_of issn
    (subst (All Passes) (take-append-drop 4 issn)
    (All-append Passes (take 4 issn) (drop 4 issn) (all_digits (take 4 issn) front.0) (from_hyphen issn front.1 parts.1)))
  where
    from_hyphen : (t : Text) → (get_or t 4 0 == 0x2d) ≡ true → are_digits 4 (drop 5 t) ≡ true → All Passes (drop 4 t)
    from_hyphen (a ∷ b ∷ c ∷ d ∷ e ∷ t) h g =
        All-cons Passes e t (subst Passes (sym (eqb-true e 0x2d h)) refl) (next_pass 4 t g)
    from_hyphen (a ∷ b ∷ c ∷ d ∷ []) h g = λ k x l. absurd (omega arith)
    from_hyphen (a ∷ b ∷ c ∷ []) h g = λ k x l. absurd (omega arith)
    from_hyphen (a ∷ b ∷ []) h g = λ k x l. absurd (omega arith)
    from_hyphen (a ∷ []) h g = λ k x l. absurd (omega arith)
    from_hyphen [] h g = λ k x l. absurd (omega arith)

pub isbn_word : (isbn : Text) → IsIsbn isbn → IsWord isbn
isbn_word isbn is = word_of isbn (all_digits isbn (and_parts _ _ (and_parts _ _ is).0).1)

pub date_word : (date : Text) → IsDate date → IsWord date
date_word _ (year_alone y year) = word_of y (digits_pass y year.digits)
date_word _ (with_month y m year month) =
    word_of (y ++ hyphen ∷ m) (All-append Passes y (hyphen ∷ m) (digits_pass y year.digits) (hyphen_passes m (digits_pass m month.digits)))
date_word _ (with_day y m d year month day) =
    word_of (y ++ hyphen ∷ m ++ hyphen ∷ d)
    (All-append Passes (y ++ hyphen ∷ m) (hyphen ∷ d)
    (All-append Passes y (hyphen ∷ m) (digits_pass y year.digits) (hyphen_passes m (digits_pass m month.digits)))
    (hyphen_passes d (digits_pass d day.digits)))
