-- Numbers are ASCII.
use Rattle.std.proofs.Common.{◌≡◌, ◌<◌, [], ◌∷◌, ◌++◌, true, take, drop, refl, subst, arith, lit<}
use Rattle.std.specs.Prelude.{codes}
use Rattle.std.specs.Str.{IsAscii}
use Rattle.std.proofs.lemmas.Bool.{and_parts}
use Rattle.std.proofs.lemmas.List.Elements.{All-weaker}
use Rattle.std.proofs.lemmas.Str.{IsAscii-append}
use Rattle.std.proofs.lemmas.Str.Ascii.{IsAscii-from_all, IsAscii-cons, IsAscii-nil}
use Rattle.text_model.specs.Texts.{Text}
use Rattle.standard_numbers.specs.Spellings.{hyphen, are_digits}
use Rattle.standard_numbers.specs.Issn.{is_issn}
use Rattle.standard_numbers.specs.Isbn.{is_isbn, isbn13_of, check_digit}
use Rattle.standard_numbers.proofs.Forms.{is_symbol, AreSymbols, symbol_below, digits_are_symbols, all_digits_are_symbols, front_digits}
use Rattle.standard_numbers.proofs.IssnForms.{halves, whole}

ascii_symbols : (t : Text) → AreSymbols t → IsAscii t
ascii_symbols t all = IsAscii-from_all t (All-weaker (λ b. is_symbol b ≡ true) (λ b. b < 128) symbol_below t all)

pub ascii_issn : (issn : Text) → is_issn issn ≡ true → IsAscii issn
ascii_issn issn h =
    let is = halves issn h in
    let start = ascii_symbols (take 4 issn) (all_digits_are_symbols (take 4 issn) is.start) in
    let end = ascii_symbols (drop 5 issn) (digits_are_symbols (drop 5 issn) 4 is.end) in
    subst IsAscii (whole issn is) (IsAscii-append (take 4 issn) (hyphen ∷ drop 5 issn) start (IsAscii-cons hyphen (drop 5 issn) (lit< tt) end))

pub ascii_isbn : (isbn : Text) → is_isbn isbn ≡ true → IsAscii isbn
ascii_isbn isbn h = ascii_symbols isbn (all_digits_are_symbols isbn (and_parts _ _ (and_parts _ _ h).0).1)

check_below : (body : Text) → check_digit body < 128
check_below body = omega arith

pub ascii_isbn13_of : (digits : Text) → are_digits 10 digits ≡ true → IsAscii (isbn13_of digits)
ascii_isbn13_of digits h =
    let nine = ascii_symbols (take 9 digits) (all_digits_are_symbols (take 9 digits) (front_digits digits 9 h)) in
    let prefix = ascii_symbols (codes "978") (all_digits_are_symbols (codes "978") refl) in
    let body : Text = codes "978" ++ take 9 digits in
    IsAscii-append body (check_digit body ∷ []) (IsAscii-append (codes "978") (take 9 digits) prefix nine)
    (IsAscii-cons (check_digit body) [] (check_below body) IsAscii-nil)
