-- A page is read in at most one way.
use Rattle.std.proofs.Common.{◌≡◌, ◌≢◌, ℕ, Bool, true, false, not, List, [], ◌∷◌, ◌++◌, refl, sym, ap, ◌∙◌, subst, arith, codes}
use Rattle.std.specs.Prelude.{◌==◌, if◌then◌else◌, All}
use Rattle.std.proofs.lemmas.Bool.{eqb-true}
use Rattle.std.proofs.lemmas.Bool.Decides.{nat_tests}
use Rattle.std.proofs.lemmas.List.Elements.{All-head, All-tail}
use Rattle.text_model.specs.Texts.{Text}
use Rattle.menu.specs.Escaping.{IsReadAs}
use Rattle.menu.specs.PageReading.{less_than, quotation_mark, is_in_text, is_in_value, ends_text, Tag, doctype, list_start, list_end, item_start, item_end}
use Rattle.menu.specs.PageReading.{paragraph_start, paragraph_end, link_end, written_tag, Token, tag, title, link, text, BeginsWithToken, with_tag, with_title}
use Rattle.menu.specs.PageReading.{with_link, with_text, IsReadAsTokens, read_end, read_token}
use Rattle.menu.proofs.ReadingLemmas.{head_of, rest_of, one_reading}

-- ---- the end of a text or a value

-- the rest is empty, or begins with a byte that does not pass the test
abbrev stops : (ℕ → Bool) → Text → Bool
stops inside [] = true
stops inside (b ∷ t) = not (inside b)

not_both : (x : Bool) → x ≡ true → not x ≡ true → ⊥
not_both true e f = absurd (cc)
not_both false e f = absurd (cc)

-- bytes that pass the test, up to the first that does not
one_stop : (inside : ℕ → Bool) (a b r s : Text) → All (λ x. inside x ≡ true) a → All (λ x. inside x ≡ true) b
    → stops inside r ≡ true → stops inside s ≡ true → a ++ r ≡ b ++ s → (a ≡ b) × (r ≡ s)
unfolding head_of rest_of
one_stop inside [] [] r s h k m n e = (refl, e)
one_stop inside [] (y ∷ b) r s h k m n e =
    absurd (not_both (inside y) (All-head (λ z. inside z ≡ true) y b k) (subst (λ t. stops inside t ≡ true) e m))
one_stop inside (x ∷ a) [] r s h k m n e =
    absurd (not_both (inside x) (All-head (λ z. inside z ≡ true) x a h) (subst (λ t. stops inside t ≡ true) (sym e) n))
one_stop inside (x ∷ a) (y ∷ b) r s h k m n e =
    let rest = one_stop inside a b r s (All-tail (λ z. inside z ≡ true) x a h) (All-tail (λ z. inside z ≡ true) y b k) m n (ap rest_of e) in
    (ap (λ z. z ∷ a) (ap head_of e) ∙ ap (λ t. y ∷ t) rest.0, rest.1)

same_rest : (front r s : Text) → front ++ r ≡ front ++ s → r ≡ s
unfolding rest_of
same_rest [] r s e = e
same_rest (b ∷ front) r s e = same_rest front r s (ap rest_of e)

-- ---- the kind of a token

pub data Front : Type 0 where
  at_end at_title at_link at_text at_none : Front
  at_tag : Tag → Front

-- the kind of a token, from the third byte after `</`, and from the second and third bytes after `<`
abbrev pub end_tag_front : ℕ → Front
end_tag_front c =
    if c == 0x75 then at_tag list_end
    else (if c == 0x6C then at_tag item_end else (if c == 0x70 then at_tag paragraph_end else (if c == 0x61 then at_tag link_end else at_none)))

abbrev pub tag_front : ℕ → ℕ → Front
tag_front b c =
    if b == 0x2F then end_tag_front c
    else (if b == 0x21 then at_tag doctype else (if b == 0x75 then at_tag list_start else (if b == 0x6C then at_tag item_start
    else (if b == 0x70 then at_tag paragraph_start else (if b == 0x74 then at_title else (if b == 0x61 then at_link else at_none))))))

unfoldable pub front : Text → Front
front [] = at_end
front (b ∷ t) = if b == less_than then tag_front (head_of t) (head_of (rest_of t)) else at_text

tag_has_front : (t : Tag) (rest : Text) → front (written_tag t ++ rest) ≡ at_tag t
unfolding front head_of rest_of
tag_has_front doctype rest = refl
tag_has_front list_start rest = refl
tag_has_front list_end rest = refl
tag_has_front item_start rest = refl
tag_has_front item_end rest = refl
tag_has_front paragraph_start rest = refl
tag_has_front paragraph_end rest = refl
tag_has_front link_end rest = refl

title_has_front : (rest : Text) → front (codes "<title>" ++ rest) ≡ at_title
unfolding front head_of rest_of
title_has_front rest = refl

link_has_front : (rest : Text) → front (codes "<a href=\"" ++ rest) ≡ at_link
unfolding front head_of rest_of
link_has_front rest = refl

begins_no_tag : (b : ℕ) → is_in_text b ≡ true → (b == less_than) ≡ false
begins_no_tag b e = grind (arith, nat_tests)

text_has_front : (t rest : Text) → t ≢ [] → All (λ b. is_in_text b ≡ true) t → front (t ++ rest) ≡ at_text
unfolding front
text_has_front [] rest some inside = absurd (some refl)
text_has_front (b ∷ t) rest some inside = rw (begins_no_tag b (All-head (λ x. is_in_text x ≡ true) b t inside))

token_front : Token → Front
token_front (tag t) = at_tag t
token_front (title read) = at_title
token_front (link value) = at_link
token_front (text read) = at_text

has_front : (page rest : Text) (t : Token) → BeginsWithToken page t rest → front page ≡ token_front t
unfolding token_front
has_front _ _ _ (with_tag t rest) = tag_has_front t rest
has_front _ _ _ (with_title written read rest inside reads) = title_has_front (written ++ (codes "</title>" ++ rest))
has_front _ _ _ (with_link written read rest inside reads) = link_has_front (written ++ (codes "\">" ++ rest))
has_front _ _ _ (with_text written read rest some inside stop reads) = text_has_front written rest some inside

same_front : (page other r s : Text) (t u : Token) → page ≡ other → BeginsWithToken page t r → BeginsWithToken other u s → token_front t ≡ token_front u
same_front page other r s t u e h k = sym (has_front page r t h) ∙ (ap front e ∙ has_front other s u k)

-- ---- one token

text_stops : (rest : Text) → ends_text rest ≡ true → stops is_in_text rest ≡ true
text_stops [] e = refl
text_stops (b ∷ rest) e = rw (eqb-true b less_than e)

-- the same text, and the same rest
same_text : (a b r s t u : Text) → All (λ x. is_in_text x ≡ true) a → All (λ x. is_in_text x ≡ true) b → stops is_in_text r ≡ true → stops is_in_text s ≡ true
    → IsReadAs a t → IsReadAs b u → a ++ r ≡ b ++ s → (t ≡ u) × (r ≡ s)
same_text a b r s t u h k m n f g e = let stop = one_stop is_in_text a b r s h k m n e in (one_reading a b t u stop.0 f g, stop.1)

same_value : (a b r s t u : Text) → All (λ x. is_in_value x ≡ true) a → All (λ x. is_in_value x ≡ true) b
    → IsReadAs a t → IsReadAs b u → a ++ (codes "\">" ++ r) ≡ b ++ (codes "\">" ++ s) → (t ≡ u) × (r ≡ s)
same_value a b r s t u h k f g e =
    let stop = one_stop is_in_value a b (codes "\">" ++ r) (codes "\">" ++ s) h k refl refl e in
    (one_reading a b t u stop.0 f g, same_rest (codes "\">") r s stop.1)

one_token : (page other r s : Text) (t u : Token) → page ≡ other → token_front t ≡ token_front u → BeginsWithToken page t r → BeginsWithToken other u s
    → (t ≡ u) × (r ≡ s)
unfolding token_front
one_token _ _ _ _ _ _ e f (with_tag t r) (with_tag u s) =
    let same : t ≡ u = cc in (ap tag same, same_rest (written_tag u) r s (subst (λ x. written_tag x ++ r ≡ written_tag u ++ s) same e))
one_token _ _ _ _ _ _ e f (with_title a t r h i) (with_title b u s k j) =
    let same = same_text a b (codes "</title>" ++ r) (codes "</title>" ++ s) t u h k refl refl i j (same_rest (codes "<title>") _ _ e) in
    (ap title same.0, same_rest (codes "</title>") r s same.1)
one_token _ _ _ _ _ _ e f (with_link a t r h i) (with_link b u s k j) =
    let same = same_value a b r s t u h k i j (same_rest (codes "<a href=\"") _ _ e) in (ap link same.0, same.1)
one_token _ _ _ _ _ _ e f (with_text a t r some h m i) (with_text b u s other k n j) =
    let same = same_text a b r s t u h k (text_stops r m) (text_stops s n) i j e in (ap text same.0, same.1)
one_token _ _ _ _ _ _ e f (with_tag t r) _ = absurd (cc)
one_token _ _ _ _ _ _ e f (with_title a t r h i) _ = absurd (cc)
one_token _ _ _ _ _ _ e f (with_link a t r h i) _ = absurd (cc)
one_token _ _ _ _ _ _ e f (with_text a t r some h m i) _ = absurd (cc)

-- ---- the whole page

some_token : (t : Token) → at_end ≡ token_front t → ⊥
unfolding token_front
some_token (tag t) e = absurd (cc)
some_token (title read) e = absurd (cc)
some_token (link value) e = absurd (cc)
some_token (text read) e = absurd (cc)

unknown_token : (t : Token) → at_none ≡ token_front t → ⊥
unfolding token_front
unknown_token (tag t) e = absurd (cc)
unknown_token (title read) e = absurd (cc)
unknown_token (link value) e = absurd (cc)
unknown_token (text read) e = absurd (cc)

none_at_end : (page rest : Text) (t : Token) → page ≡ [] → BeginsWithToken page t rest → ⊥
unfolding front
none_at_end page rest t e h = some_token t (ap front (sym e) ∙ has_front page rest t h)

one_page : (page other : Text) (tokens others : List Token) → page ≡ other → IsReadAsTokens page tokens → IsReadAsTokens other others → tokens ≡ others
one_page _ _ _ _ e read_end read_end = refl
one_page _ _ _ _ e read_end (read_token page rest t others h k) = absurd (none_at_end page rest t (sym e) h)
one_page _ _ _ _ e (read_token page rest t others h k) read_end = absurd (none_at_end page rest t e h)
one_page _ _ _ _ e (read_token page r t tokens h k) (read_token other s u others i j) =
    let same = one_token page other r s t u e (same_front page other r s t u e h i) h i in
    ap (λ x. x ∷ tokens) same.0 ∙ ap (λ x. u ∷ x) (one_page r s tokens others same.1 k j)

pub one_reading_of_page : (page : Text) (tokens others : List Token) → IsReadAsTokens page tokens → IsReadAsTokens page others → tokens ≡ others
one_reading_of_page page tokens others h k = one_page page page tokens others refl h k

-- ---- what is not read

-- no token begins with this `<`
pub none_at_unknown : (page : Text) (tokens : List Token) → front page ≡ at_none → IsReadAsTokens page tokens → ⊥
unfolding front
none_at_unknown _ _ e read_end = absurd (cc)
none_at_unknown _ _ e (read_token page rest t others h k) = unknown_token t (sym e ∙ has_front page rest t h)

-- what follows the value of a link
after_link : (page written after rest : Text) (t : Token) → All (λ b. is_in_value b ≡ true) written
    → page ≡ codes "<a href=\"" ++ (written ++ quotation_mark ∷ after) → token_front t ≡ at_link → BeginsWithToken page t rest → after ≡ codes ">" ++ rest
unfolding token_front
after_link _ written after _ _ all e f (with_tag t rest) = absurd (cc)
after_link _ written after _ _ all e f (with_title a read rest h i) = absurd (cc)
after_link _ written after _ _ all e f (with_text a read rest some h m i) = absurd (cc)
after_link _ written after _ _ all e f (with_link a read rest h i) =
    let stop = one_stop is_in_value a written (codes "\">" ++ rest) (quotation_mark ∷ after) h all refl refl (same_rest (codes "<a href=\"") _ _ e) in
    sym (same_rest (codes "\"") (codes ">" ++ rest) after stop.1)

-- the value of a link ends at the first quotation mark, and `>` follows
pub after_value : (written after : Text) (tokens : List Token) → All (λ b. is_in_value b ≡ true) written
    → IsReadAsTokens (codes "<a href=\"" ++ (written ++ quotation_mark ∷ after)) tokens → (rest : Text) × (after ≡ codes ">" ++ rest)
after_value written after tokens all h = of_page _ tokens refl h
  where
    of_page : (page : Text) (tokens : List Token) → page ≡ codes "<a href=\"" ++ (written ++ quotation_mark ∷ after) → IsReadAsTokens page tokens
        → (rest : Text) × (after ≡ codes ">" ++ rest)
    of_page _ _ e read_end = absurd (cc)
    of_page _ _ e (read_token page rest t others h k) =
        (rest, after_link page written after rest t all e (sym (has_front page rest t h) ∙ (ap front e ∙ link_has_front (written ++ quotation_mark ∷ after))) h)
