-- What holds of all pages that are found in values holds of those of a request.
use Rattle.std.proofs.Common.{◌≡◌, ◌≤◌, ◌+◌, ◌⊎◌, ℕ, zero, suc, List, [], ◌∷◌, Bool, true, false, cond, Option, Some, None, length}
use Rattle.std.proofs.Common.{take, drop, refl, sym, ap, ◌∙◌, subst, inl, inr, arith}
use Rattle.std.specs.Prelude.{codes, nat_le}
use Rattle.std.specs.List.{prefix_len}
use Rattle.std.specs.Option.{option_and_then, option_map, option_or}
use Rattle.std.proofs.lemmas.Bool.{and_parts, and_from, leb-true}
use Rattle.std.proofs.lemmas.Bool.Decides.{nat_tests}
use Rattle.text_model.specs.Texts.{Text}
use Rattle.kev_read.specs.Pairs.{KeyValue, all_of, first_of}
use Rattle.article_places.specs.Pages.{Range, only, pages_in, page_words, is_between, is_no_hyphen, first_page as page_of_words, from_page}
use Rattle.article_places.specs.Parts.{IsPartOf, IsFromFirst}
use Rattle.openurl_reading.specs.ArticleNumbers.{article_in, is_article}
use Rattle.openurl_reading.specs.Counting.{is_blank}
use Rattle.openurl_reading.specs.Values.{most_bytes, in_ascii}
use Rattle.openurl_reading.specs.Pages.{pages_of, read_pages, first_in, last_in, end_among, first_page, last_page, last_among}
use Rattle.openurl_reading.proofs.ArticlesFound.{IsNotBlank, article_not_blank}
use Rattle.openurl_reading.proofs.Firsts.{of_first}
use Rattle.openurl_reading.proofs.FoundAre.{IsAll, none_is, or_is}
use Rattle.openurl_reading.proofs.PagesLed.{ArePagesAgain}
use Rattle.openurl_reading.proofs.PlainNumbers.{AreWritten, IsWord, word_stays}

-- of each page that one value gives
pub record AreFoundPages (P : Text → Type 0) : Type 0 where
  pub first : (value : Text) → IsAll P (first_in value)
  pub last : (value : Text) → IsAll P (last_in value)
  pub article : (value : Text) → IsAll P (article_in value)

first_of_pages : (P : Text → Type 0) → ((value : Text) → IsAll P (first_in value)) → (values : List Text) → IsAll P (of_first first_in values)
first_of_pages P are [] = none_is P
first_of_pages P are (v ∷ vs) = are v

last_of_values : (P : Text → Type 0) → AreFoundPages P → (values : List Text) → IsAll P (of_first last_in values)
last_of_values P are [] = none_is P
last_of_values P are (v ∷ vs) = are.last v

last_is : (P : Text → Type 0) → AreFoundPages P → (values : List Text) (last : Option Text) → IsAll P last → IsAll P (last_among values last)
last_is P are [] last h = h
last_is P are (v ∷ vs) last h = or_is P (last_in v) (first_in v) (are.last v) (are.first v)

article_of_values : (P : Text → Type 0) → ((value : Text) → IsAll P (article_in value)) → (values : List Text) → IsAll P (of_first article_in values)
article_of_values P are [] = none_is P
article_of_values P are (v ∷ vs) = are v

pub first_page_is : (P : Text → Type 0) → ((value : Text) → IsAll P (first_in value)) → ((value : Text) → IsAll P (article_in value))
    → (pairs : List KeyValue) → IsAll P (first_page pairs)
first_page_is P are articles pairs = by_test (is_article number (first_of pairs (codes "rft.spage")))
  where
    firsts : List Text
    firsts = all_of pairs (codes "rft.spage")

    pages : List Text
    pages = all_of pairs (codes "rft.pages")

    number : Option Text
    number = of_first article_in (all_of pairs (codes "rft.artnum"))

    number_is : IsAll P number
    number_is = article_of_values P articles (all_of pairs (codes "rft.artnum"))

    by_test : (b : Bool) → IsAll P (cond b number (option_or (of_first first_in firsts) (option_or (of_first first_in pages) number)))
    by_test true = number_is
    by_test false = or_is P _ _ (first_of_pages P are firsts) (or_is P _ _ (first_of_pages P are pages) number_is)

end_is : (P : Text → Type 0) → AreFoundPages P → (number first : Option Text) (firsts : List Text)
    → IsAll P (end_among number first (of_first last_in firsts))
end_is P are number first firsts = by_test (is_article number first)
  where
    by_test : (b : Bool) → IsAll P (cond b None (of_first last_in firsts))
    by_test true = none_is P
    by_test false = last_of_values P are firsts

pub last_page_is : (P : Text → Type 0) → AreFoundPages P → (pairs : List KeyValue) → IsAll P (last_page pairs)
last_page_is P are pairs =
    last_is P are (all_of pairs (codes "rft.epage")) _
    (end_is P are (of_first article_in (all_of pairs (codes "rft.artnum"))) (first_of pairs (codes "rft.spage")) (all_of pairs (codes "rft.spage")))

-- ---- what the laws say

abbrev pub FirstPagesAre : Type 0
FirstPagesAre = (text : Text) (pages : Range) → pages_in text ≡ Some pages → IsPartOf text pages.first

abbrev pub LastPagesAre : Type 0
LastPagesAre = (text last : Text) (pages : Range) → pages_in text ≡ Some pages → pages.last ≡ Some last → IsFromFirst text pages.first last

abbrev pub FirstPagesStay : Type 0
FirstPagesStay = (text : Text) (pages : Range) → pages_in text ≡ Some pages → pages_in pages.first ≡ Some (only pages.first)

abbrev pub LastPagesStay : Type 0
LastPagesStay = (text last : Text) (pages : Range) → pages_in text ≡ Some pages → pages.last ≡ Some last → pages_in last ≡ Some (only last)

abbrev pub FirstPagesAreWords : Type 0
FirstPagesAreWords = (text : Text) (pages : Range) → pages_in text ≡ Some pages → IsWord pages.first

abbrev pub LastPagesAreWords : Type 0
LastPagesAreWords = (text last : Text) (pages : Range) → pages_in text ≡ Some pages → pages.last ≡ Some last → IsWord last

abbrev pub PartsAreShort : Type 0
PartsAreShort = (text part : Text) → IsPartOf text part → length part ≤ length text

abbrev pub LastPagesAreShort : Type 0
LastPagesAreShort = (text first last : Text) → IsFromFirst text first last → length last ≤ length first + length text

-- ---- a value that is read

-- its text is short, and has the pages
record IsRead (text : Text) (pages : Range) : Type 0 where
  short : length text ≤ most_bytes
  is : pages_in text ≡ Some pages

is_read : (text : Text) (pages : Range) → pages_of text ≡ Some pages → IsRead text pages
is_read text pages e = by_test (nat_le (length text) most_bytes) refl e
  where
    by_test : (b : Bool) → nat_le (length text) most_bytes ≡ b → cond b (pages_in text) None ≡ Some pages → IsRead text pages
    by_test true h g = record { short = leb-true (length text) most_bytes h; is = g }
    by_test false h g = cc

-- the pages of which a part was found
record HasFirst (value page : Text) : Type 0 where
  pages : Range
  read : IsRead (in_ascii value) pages
  first : pages.first ≡ page

has_first : (value page : Text) → first_in value ≡ Some page → HasFirst value page
has_first value page e = by_found (read_pages value) refl e
  where
    by_found : (found : Option Range) → read_pages value ≡ found → option_map (λ (p : Range). p.first) found ≡ Some page → HasFirst value page
    by_found None h g = cc
    by_found (Some pages) h g = record { pages = pages; read = is_read (in_ascii value) pages h; first = cc }

record HasLast (value page : Text) : Type 0 where
  pages : Range
  read : IsRead (in_ascii value) pages
  last : pages.last ≡ Some page

has_last : (value page : Text) → last_in value ≡ Some page → HasLast value page
has_last value page e = by_found (read_pages value) refl e
  where
    by_found : (found : Option Range) → read_pages value ≡ found → option_and_then (λ (p : Range). p.last) found ≡ Some page → HasLast value page
    by_found None h g = cc
    by_found (Some pages) h g = record { pages = pages; read = is_read (in_ascii value) pages h; last = g }

-- ---- lengths

first_short : FirstPagesAre → PartsAreShort → (value page : Text) → first_in value ≡ Some page → length page ≤ 200
first_short are short value page e =
    let has = has_first value page e in
    omega (arith, has.read.short, ap length has.first, short (in_ascii value) has.pages.first (are (in_ascii value) has.pages has.read.is))

last_short : FirstPagesAre → LastPagesAre → PartsAreShort → LastPagesAreShort → (value page : Text) → last_in value ≡ Some page → length page ≤ 400
last_short firsts lasts short both value page e =
    let has = has_last value page e in
    omega (
      arith,
      has.read.short,
      short (in_ascii value) has.pages.first (firsts (in_ascii value) has.pages has.read.is),
      both (in_ascii value) has.pages.first page (lasts (in_ascii value) page has.pages has.read.is has.last),
    )

pub record ArePagesShort : Type 0 where
  pub first : (value page : Text) → first_in value ≡ Some page → length page ≤ 200
  pub last : (value page : Text) → last_in value ≡ Some page → length page ≤ 400

pub pages_short : FirstPagesAre → LastPagesAre → PartsAreShort → LastPagesAreShort → ArePagesShort
pages_short firsts lasts short last = record { first = first_short firsts short; last = last_short firsts lasts short last }

-- ---- they are read again

read_short : (text : Text) → length text ≤ most_bytes → pages_of text ≡ pages_in text
read_short text h = let test : nat_le (length text) most_bytes ≡ true = grind (arith, nat_tests, h) in ap (λ b. cond b (pages_in text) None) test

-- of a text that is written as it is
read_or_none : (text : Text) (pages : Range) → in_ascii text ≡ text → pages_in text ≡ Some pages
    → (read_pages text ≡ Some pages) ⊎ (read_pages text ≡ None)
read_or_none text pages stays e =
    subst (λ t. (pages_of t ≡ Some pages) ⊎ (pages_of t ≡ None)) (sym stays) (by_test (nat_le (length text) most_bytes))
  where
    by_test : (b : Bool) → (cond b (pages_in text) None ≡ Some pages) ⊎ (cond b (pages_in text) None ≡ None)
    by_test true = inl e
    by_test false = inr refl

-- what the laws say of pages that are found
pub record PageLaws : Type 0 where
  pub are : FirstPagesAre
  pub short : PartsAreShort
  pub firsts : FirstPagesStay
  pub lasts : LastPagesStay
  pub first_words : FirstPagesAreWords
  pub last_words : LastPagesAreWords
  pub written : AreWritten

pub pages_again : PageLaws → ArePagesAgain
pages_again laws = record {
  first = λ value page e.
      let has = has_first value page e in
      let word = subst IsWord has.first (laws.first_words (in_ascii value) has.pages has.read.is) in
      ap pages_of (word_stays laws.written page word) ∙ read_short page (first_short laws.are laws.short value page e)
      ∙ subst (λ t. pages_in t ≡ Some (only t)) has.first (laws.firsts (in_ascii value) has.pages has.read.is);
  last = λ value page e.
      let has = has_last value page e in
      let word = laws.last_words (in_ascii value) page has.pages has.read.is has.last in
      read_or_none page (only page) (word_stays laws.written page word) (laws.lasts (in_ascii value) page has.pages has.read.is has.last);
}

-- ---- they are not blank

blank_between : (b : ℕ) → nat_le b 0x20 ≡ true → is_between b ≡ true
blank_between b h = grind (arith, nat_tests)

no_words : (text : Text) → is_blank text ≡ true → page_words text ≡ []
no_words [] h = refl
no_words (b ∷ text) h =
    let parts = and_parts (nat_le b 0x20) (is_blank text) h in
    rw (blank_between b parts.0) (no_words text parts.1)

blank_front : (n : ℕ) (text : Text) → is_blank text ≡ true → is_blank (take n text) ≡ true
blank_front zero text h = refl
blank_front (suc n) [] h = refl
blank_front (suc n) (b ∷ text) h =
    let parts = and_parts (nat_le b 0x20) (is_blank text) h in and_from (nat_le b 0x20) (is_blank (take n text)) parts.0 (blank_front n text parts.1)

no_pages : (text : Text) → is_blank text ≡ true → pages_in text ≡ None
no_pages text h =
    let n = prefix_len is_no_hyphen text in
    ap (λ words. from_page (page_of_words words) words (page_words (drop n text))) (no_words (take n text) (blank_front n text h))

page_not_blank : (page : Text) → pages_in page ≡ Some (only page) → IsNotBlank page
page_not_blank page e = by_test (is_blank page) refl
  where
    by_test : (b : Bool) → is_blank page ≡ b → b ≡ false
    by_test true h = let none = no_pages page h in cc
    by_test false h = refl

pub pages_not_blank : FirstPagesStay → LastPagesStay → AreFoundPages IsNotBlank
pages_not_blank firsts lasts = record {
  first = λ value page e.
      let has = has_first value page e in
      subst IsNotBlank has.first (page_not_blank has.pages.first (firsts (in_ascii value) has.pages has.read.is));
  last = λ value page e. let has = has_last value page e in page_not_blank page (lasts (in_ascii value) page has.pages has.read.is has.last);
  article = article_not_blank;
}
