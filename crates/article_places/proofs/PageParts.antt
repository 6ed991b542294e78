-- The pages in a text are parts of it, or share their beginning with the first one.
use Rattle.std.proofs.Common.{◌≡◌, ◌+◌, List, [], ◌∷◌, ◌++◌, ◌&&◌, cond, eqb, Option, Some, None, length, take, drop, refl, subst}
use Rattle.std.specs.Prelude.{is_some, slice_get}
use Rattle.std.specs.List.{All, prefix_len, slice_split}
use Rattle.std.specs.Option.{option_and_then}
use Rattle.std.proofs.lemmas.Bool.{cond_both}
use Rattle.std.proofs.lemmas.List.Elements.{All-nil, All-cons, All-head, All-tail}
use Rattle.text_model.specs.Texts.{Text}
use Rattle.article_places.specs.Labels.{is_range_word}
use Rattle.article_places.specs.Words.{letters}
use Rattle.article_places.specs.PageForms.{digits, is_suffix, is_numbered, numbered, is_roman_page, roman, page, is_stop}
use Rattle.article_places.specs.LastPages.{is_apart, is_later, missing, last_page}
use Rattle.article_places.specs.Pages as spec
use Rattle.article_places.specs.Pages.{Range}
use Rattle.article_places.specs.Parts.{IsPartOf, IsFromFirst}
use Rattle.article_places.proofs.PartLaws.{IsIn, in_in, front_in, rest_in, part_is, parts_in, flat_are, within}
use Rattle.article_places.proofs.Found.{Holds, holds}

-- ---- words

bare_in : (text word : Text) → IsIn text word → IsIn text (spec.bare word)
bare_in text word is =
    let rest = drop (spec.label_length word) word in
    in_in text rest (drop (prefix_len is_stop rest) rest) (in_in text word rest is (rest_in (spec.label_length word) word))
    (rest_in (prefix_len is_stop rest) rest)

bare_word_in : (text word : Text) → IsIn text word → All (IsIn text) (spec.bare_word word)
bare_word_in text word is =
    cond_both (eqb (length (spec.bare word)) 0) [] (spec.bare word ∷ []) (All (IsIn text)) (λ _. All-nil (IsIn text))
    (λ _. All-cons (IsIn text) (spec.bare word) [] (bare_in text word is) (All-nil (IsIn text)))

page_words_in : (text : Text) → All (IsIn text) (spec.page_words text)
page_words_in text = flat_are (IsIn text) (IsIn text) spec.bare_word (bare_word_in text) (slice_split spec.is_between text) (parts_in spec.is_between text)

firsts : Text → List Text
firsts text = spec.page_words (take (prefix_len spec.is_no_hyphen text) text)

lasts : Text → List Text
lasts text = spec.page_words (drop (prefix_len spec.is_no_hyphen text) text)

-- ---- pages

pub numbered_in : (text word : Text) → IsIn text word → IsIn text (numbered word)
numbered_in text word is =
    let n = letters word + digits word in
    cond_both (is_suffix (drop n word)) word (take n word) (IsIn text) (λ _. is) (λ _. in_in text word (take n word) is (front_in n word))

pub page_in : (text word : Text) → IsIn text word → Holds (IsIn text) (page word)
unfolding Holds
page_in text word is =
    cond_both (is_numbered word) (Some (numbered word)) (cond (is_roman_page word) (Some (roman word)) None) (Holds (IsIn text))
    (λ _. numbered_in text word is)
    (λ _. cond_both (is_roman_page word) (Some (roman word)) None (Holds (IsIn text))
    (λ _. in_in text word (roman word) is (front_in (letters word) word)) (λ _. tt))

first_number_in : (text : Text) (ws : List Text) → All (IsIn text) ws → Holds (IsIn text) (spec.first_number ws)
unfolding Holds
first_number_in text [] all = tt
first_number_in text (word ∷ ws) all =
    cond_both (is_numbered word) (Some (numbered word)) (spec.first_number ws) (Holds (IsIn text))
    (λ _. numbered_in text word (All-head (IsIn text) word ws all)) (λ _. first_number_in text ws (All-tail (IsIn text) word ws all))

pub either : (P : Text → Type 0) (o other : Option Text) → Holds P o → Holds P other → Holds P (spec.or_else o other)
either P None other h k = k
either P (Some t) other h k = h

first_page_in : (text : Text) (ws : List Text) → All (IsIn text) ws → Holds (IsIn text) (spec.first_page ws)
unfolding Holds
first_page_in text [] all = tt
first_page_in text (word ∷ ws) all =
    either (IsIn text) (page word) (spec.first_number ws) (page_in text word (All-head (IsIn text) word ws all))
    (first_number_in text ws (All-tail (IsIn text) word ws all))

-- ---- the last page

last_page_from : (text first last : Text) → IsIn text last → Holds (IsFromFirst text first) (last_page first last)
unfolding Holds
last_page_from text first last is =
    let count = letters first + missing first last in
    let rest : Text = drop (letters last) last in
    cond_both (is_apart first last) (Some last) (cond (is_later first last) (Some (take count first ++ rest)) None) (Holds (IsFromFirst text first))
    (λ _. record { count = 0; rest = last; is = part_is text last is; whole = refl })
    (λ _. cond_both (is_later first last) (Some (take count first ++ rest)) None (Holds (IsFromFirst text first))
    (λ _. record { count = count; rest = rest; is = part_is text rest (in_in text last rest is (rest_in (letters last) last)); whole = refl })
    (λ _. tt))

after_page : (text first : Text) (o : Option Text) → Holds (IsIn text) o → Holds (IsFromFirst text first) (option_and_then (last_page first) o)
unfolding Holds
after_page text first None h = tt
after_page text first (Some last) h = last_page_from text first last h

head_is : (P : Text → Type 0) (ws : List Text) → All P ws → Holds P (slice_get ws 0)
unfolding Holds
head_is P [] all = tt
head_is P (word ∷ words) all = All-head P word words all

-- the word at which a range ends is one of the words
last_word_is : (P : Text → Type 0) (firsts lasts : List Text) → All P firsts → All P lasts → Holds P (spec.last_word firsts lasts)
unfolding Holds
last_word_is P [] lasts all others = tt
last_word_is P (word ∷ []) lasts all others = head_is P lasts others
last_word_is P (word ∷ between ∷ words) lasts all others =
    cond_both (is_some (page word) && is_range_word between) (slice_get words 0) None (Holds P)
    (λ _. head_is P words (All-tail P between words (All-tail P word (between ∷ words) all))) (λ _. tt)

-- what holds of the page with which each such word begins holds of the page at which the range ends
pub last_is : (P Q : Text → Type 0) → ((w : Text) → P w → Holds Q (page w)) → (firsts lasts : List Text) → All P firsts → All P lasts
    → Holds Q (option_and_then page (spec.last_word firsts lasts))
unfolding Holds
last_is P Q each firsts lasts all others = of_word (spec.last_word firsts lasts) (last_word_is P firsts lasts all others)
  where
    of_word : (o : Option Text) → Holds P o → Holds Q (option_and_then page o)
    of_word None h = tt
    of_word (Some w) h = each w h

last_in_from : (text first : Text) (firsts lasts : List Text) → All (IsIn text) firsts → All (IsIn text) lasts
    → Holds (IsFromFirst text first) (spec.last_in first firsts lasts)
last_in_from text first firsts lasts all others =
    after_page text first (option_and_then page (spec.last_word firsts lasts)) (last_is (IsIn text) (IsIn text) (page_in text) firsts lasts all others)

-- ---- both pages

record AreFrom (text : Text) (r : Range) : Type 0 where
  first : IsPartOf text r.first
  last : Holds (IsFromFirst text r.first) r.last

AreIf : Text → Option Range → Type 0
AreIf text None = Unit {0}
AreIf text (Some r) = AreFrom text r

from_page_are : (text : Text) (o : Option Text) (firsts lasts : List Text) → Holds (IsIn text) o → All (IsIn text) firsts → All (IsIn text) lasts
    → AreIf text (spec.from_page o firsts lasts)
unfolding Holds AreIf
from_page_are text None firsts lasts h all others = tt
from_page_are text (Some first) firsts lasts h all others =
    cond_both (spec.is_sectioned first lasts) None (Some (record { first = first; last = spec.last_in first firsts lasts })) (AreIf text) (λ _. tt)
    (λ _. record { first = part_is text first h; last = last_in_from text first firsts lasts all others })

are_from : (text : Text) (r : Range) → spec.pages_in text ≡ Some r → AreFrom text r
unfolding AreIf firsts lasts
are_from text r e =
    let n = prefix_len spec.is_no_hyphen text in
    let all : All (IsIn text) (firsts text) = within text (take n text) (firsts text) (front_in n text) (page_words_in (take n text)) in
    let others : All (IsIn text) (lasts text) = within text (drop n text) (lasts text) (rest_in n text) (page_words_in (drop n text)) in
    subst (AreIf text) e
    (from_page_are text (spec.first_page (firsts text)) (firsts text) (lasts text) (first_page_in text (firsts text) all) all others)

pub first_part : (text : Text) (r : Range) → spec.pages_in text ≡ Some r → IsPartOf text r.first
first_part text r e = (are_from text r e).first

pub last_from : (text last : Text) (r : Range) → spec.pages_in text ≡ Some r → r.last ≡ Some last → IsFromFirst text r.first last
last_from text last r e l = holds (IsFromFirst text r.first) r.last last (are_from text r e).last l
