-- The number of an article that is found is short and not blank.
use Rattle.std.proofs.Common.{◌≡◌, ◌≤◌, ℕ, [], ◌∷◌, Bool, true, false, cond, ◌&&◌, Some, None, length, refl, ap, arith}
use Rattle.std.specs.Prelude.{nat_le}
use Rattle.std.specs.Char.{is_ascii_digit}
use Rattle.std.specs.List.{list_all, list_any}
use Rattle.std.specs.Str.{trim}
use Rattle.std.proofs.lemmas.Bool.{and_parts, leb-true}
use Rattle.std.proofs.lemmas.Bool.Decides.{nat_tests}
use Rattle.text_model.specs.Texts.{Text}
use Rattle.openurl_reading.specs.ArticleNumbers.{article_in, is_article_number, is_number_byte}
use Rattle.openurl_reading.specs.Counting.{is_blank}
use Rattle.openurl_reading.specs.Values.{in_ascii}

abbrev pub IsNotBlank : Text → Type 0
IsNotBlank text = is_blank text ≡ false

article_is : (value n : Text) → article_in value ≡ Some n → is_article_number n ≡ true
article_is value n e = by_test (is_article_number (trim (in_ascii value))) refl e
  where
    by_test : (b : Bool) → is_article_number (trim (in_ascii value)) ≡ b → cond b (Some (trim (in_ascii value))) None ≡ Some n → is_article_number n ≡ true
    by_test true h g = cc
    by_test false h g = cc

pub article_short : (value n : Text) → article_in value ≡ Some n → length n ≤ 40
article_short value n e =
    let parts = and_parts _ (list_any is_ascii_digit n) (article_is value n e) in
    leb-true (length n) 40 (and_parts (nat_le (length n) 40) (list_all is_number_byte n) parts.0).0

number_byte_shows : (b : ℕ) → is_number_byte b ≡ true → nat_le b 0x20 ≡ false
number_byte_shows b h = grind (arith, nat_tests)

number_not_blank : (n : Text) → list_all is_number_byte n ≡ true → list_any is_ascii_digit n ≡ true → IsNotBlank n
number_not_blank [] all any = cc
number_not_blank (b ∷ n) all any =
    ap (λ t. t && is_blank n) (number_byte_shows b (and_parts (is_number_byte b) (list_all is_number_byte n) all).0)

pub article_not_blank : (value n : Text) → article_in value ≡ Some n → IsNotBlank n
article_not_blank value n e =
    let parts = and_parts _ (list_any is_ascii_digit n) (article_is value n e) in
    number_not_blank n (and_parts (nat_le (length n) 40) (list_all is_number_byte n) parts.0).1 parts.1
