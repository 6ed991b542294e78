-- Dates have no other bytes than digits and hyphens.
use Rattle.std.proofs.Common.{◌≡◌, ℕ, ◌<◌, ◌∷◌, ◌++◌, Bool, true, false, ◌||◌, eqb, arith, refl}
use Rattle.std.specs.Char.{is_ascii_digit, is_ascii_whitespace}
use Rattle.std.specs.List.{All}
use Rattle.std.specs.Str.{IsAscii}
use Rattle.std.proofs.lemmas.Bool.{or_left}
use Rattle.std.proofs.lemmas.Bool.Decides.{nat_tests}
use Rattle.std.proofs.lemmas.List.Elements.{All-append, All-cons, All-weaker}
use Rattle.std.proofs.lemmas.Str.Ascii.{IsAscii-from_all}
use Rattle.text_model.specs.Texts.{Text}
use Rattle.publication_dates.specs.Calendar.{hyphen}
use Rattle.publication_dates.specs.Forms.{AreDigits, IsDate, year_alone, with_month, with_day}

-- a digit or a hyphen
abbrev pub is_date_byte : ℕ → Bool
is_date_byte b = is_ascii_digit b || eqb b hyphen

abbrev AreBytes : Text → Type 0
AreBytes t = All (λ b. is_date_byte b ≡ true) t

digits_are : (t : Text) → AreDigits t → AreBytes t
digits_are t digits = All-weaker (λ b. is_ascii_digit b ≡ true) (λ b. is_date_byte b ≡ true) (λ b h. or_left (is_ascii_digit b) (eqb b hyphen) h) t digits

after_hyphen : (t : Text) → AreDigits t → AreBytes (hyphen ∷ t)
after_hyphen t digits = All-cons (λ b. is_date_byte b ≡ true) hyphen t refl (digits_are t digits)

pub date_bytes : (date : Text) → IsDate date → AreBytes date
date_bytes date (year_alone y is) = digits_are y is.digits
date_bytes date (with_month y m is month) = All-append (λ b. is_date_byte b ≡ true) y (hyphen ∷ m) (digits_are y is.digits) (after_hyphen m month.digits)
date_bytes date (with_day y m d is month day) =
    All-append (λ b. is_date_byte b ≡ true) (y ++ hyphen ∷ m) (hyphen ∷ d)
    (All-append (λ b. is_date_byte b ≡ true) y (hyphen ∷ m) (digits_are y is.digits) (after_hyphen m month.digits)) (after_hyphen d day.digits)

byte_below : (b : ℕ) → is_date_byte b ≡ true → b < 128
byte_below b h = grind (arith, nat_tests)

pub ascii_date : (date : Text) → IsDate date → IsAscii date
ascii_date date is = IsAscii-from_all date (All-weaker (λ b. is_date_byte b ≡ true) (λ b. b < 128) byte_below date (date_bytes date is))

byte_no_space : (b : ℕ) → is_date_byte b ≡ true → is_ascii_whitespace b ≡ false
byte_no_space b h = grind (arith, nat_tests)

pub no_spaces : (date : Text) → IsDate date → All (λ b. is_ascii_whitespace b ≡ false) date
no_spaces date is =
    All-weaker (λ b. is_date_byte b ≡ true) (λ b. is_ascii_whitespace b ≡ false) byte_no_space date (date_bytes date is)
