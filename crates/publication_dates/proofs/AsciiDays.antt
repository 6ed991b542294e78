-- Days have no other bytes than ASCII.
use Rattle.std.proofs.Common.{◌≡◌, ℕ, ◌+◌, ◌*◌, ◌/◌, ◌%◌, ◌<◌, [], ◌∷◌, ◌++◌, Bool, true, false, not, cond, eqb, length, drop, take, arith, refl}
use Rattle.std.specs.List.{All, filter}
use Rattle.std.specs.Str.{IsAscii}
use Rattle.std.proofs.lemmas.List.Elements.{All-filter, All-cons, All-nil}
use Rattle.std.proofs.lemmas.Str.{IsAscii-append}
use Rattle.std.proofs.lemmas.Str.Ascii.{IsAscii-from_all, All-from_ascii}
use Rattle.text_model.specs.Texts.{Text}
use Rattle.publication_dates.specs.Calendar.{hyphen, zero_digit, year_value, value, days_of}
use Rattle.publication_dates.specs.Days as spec

abbrev Below : ℕ → Type 0
Below b = b < 128

basic_ascii : (date : Text) → IsAscii date → IsAscii (spec.basic date)
basic_ascii date ascii = IsAscii-from_all (spec.basic date) (All-filter (λ b. not (eqb b hyphen)) Below date (All-from_ascii date ascii))

two_ascii : (a b : ℕ) → a < 128 → b < 128 → IsAscii (a ∷ b ∷ [])
two_ascii a b first second = IsAscii-from_all (a ∷ b ∷ []) (All-cons Below a (b ∷ []) first (All-cons Below b [] second (All-nil Below)))

either_ascii : (b : Bool) (longer digits : Text) → IsAscii longer → IsAscii digits → IsAscii (cond b longer digits)
either_ascii true longer digits of_longer of_digits = of_longer
either_ascii false longer digits of_longer of_digits = of_digits

completed_ascii : (n : ℕ) (part digits : Text) → IsAscii part → IsAscii digits → IsAscii (spec.completed n part digits)
completed_ascii n part digits of_part of_digits =
    either_ascii (eqb (length digits) n) (digits ++ part) digits (IsAscii-append digits part of_digits of_part) of_digits

pub few_days : (year month : ℕ) → days_of year month < 100
few_days year month = grind (arith)

last_ascii : (digits : Text) → IsAscii (spec.last_of_month digits)
last_ascii digits =
    let days = days_of (year_value (take 4 digits)) (value (drop 4 digits)) in
    let few = few_days (year_value (take 4 digits)) (value (drop 4 digits)) in
    two_ascii (zero_digit + days / 10) (zero_digit + days % 10) (omega (arith, few)) (omega (arith, few))

pub first_ascii : (date : Text) → IsAscii date → IsAscii (spec.first_day date)
first_ascii date ascii =
    let one : IsAscii (0x30 ∷ 0x31 ∷ []) = two_ascii 0x30 0x31 (omega (arith)) (omega (arith)) in
    completed_ascii 6 (0x30 ∷ 0x31 ∷ []) (spec.completed 4 (0x30 ∷ 0x31 ∷ []) (spec.basic date)) one
    (completed_ascii 4 (0x30 ∷ 0x31 ∷ []) (spec.basic date) one (basic_ascii date ascii))

pub last_day_ascii : (date : Text) → IsAscii date → IsAscii (spec.last_day date)
last_day_ascii date ascii =
    let twelve : IsAscii (0x31 ∷ 0x32 ∷ []) = two_ascii 0x31 0x32 (omega (arith)) (omega (arith)) in
    let last = completed_ascii 4 (0x31 ∷ 0x32 ∷ []) (spec.basic date) twelve (basic_ascii date ascii) in
    completed_ascii 6 (spec.last_of_month (spec.in_last_month date)) (spec.in_last_month date) (last_ascii (spec.in_last_month date)) last
