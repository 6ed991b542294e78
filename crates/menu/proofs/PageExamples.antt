-- Pages that have a reading, and pages that have none.
use Rattle.std.proofs.Common.{◌≡◌, not, List, [], ◌∷◌, ◌++◌, refl, ap, codes, arith, lit≤}
use Rattle.std.specs.List.{filter, range_with_len}
use Rattle.std.proofs.lemmas.List.Elements.{All-nil, All-cons}
use Rattle.text_model.specs.Texts.{is_unreserved, is_reserved}
use Rattle.text_model.specs.Writing.{written_ur}
use Rattle.text_model.proofs.UriTexts.{written_ur-uri}
use Rattle.text_model.proofs.Lists.{All-from_list_all}
use Rattle.menu.specs.Printed.{html}
use Rattle.menu.specs.Escaping.{read_nothing, read_ampersand, read_character}
use Rattle.menu.specs.Contained.{is_target_name_character}
use Rattle.menu.specs.PageReading.{is_in_text, is_in_value, doctype, list_start, list_end, item_start, item_end, paragraph_start, paragraph_end, link_end}
use Rattle.menu.specs.PageReading.{Token, tag, title, link, text, with_tag, with_link, with_text, IsReadAsTokens, read_end, read_token, links_in, IsSoundLink}
use Rattle.menu.specs.PageReading.{HasSoundLinks, page_tokens}
use Rattle.menu.proofs.Examples.{one_link, no_link}
use Rattle.menu.proofs.OneReading.{front, none_at_unknown, after_value, one_reading_of_page}
use Rattle.menu.proofs.PageLemmas.{page-tokens}
use Rattle.menu.proofs.ReadingLemmas.{head_of, rest_of}

text_bytes : filter (λ b. not (is_in_text b)) (range_with_len 0 128) ≡ 0 ∷ 0x0D ∷ codes "<"
text_bytes = refl

value_bytes : filter (λ b. not (is_in_value b)) (range_with_len 0 128) ≡ 0 ∷ 0x0D ∷ codes "\""
value_bytes = refl

bytes_past_ascii : filter is_in_text (range_with_len 128 128) ++ filter is_in_value (range_with_len 128 128) ≡ []
bytes_past_ascii = refl

-- ---- pages of menus

alpha_is_sound : HasSoundLinks one_link
unfolding written_ur is_unreserved is_reserved
alpha_is_sound =
    All-cons IsSoundLink (record { name = codes "alpha"; link = codes "http://e.org/b" }) [] (record {
      name = record { some = lit≤ tt; few = lit≤ tt; characters = All-from_list_all is_target_name_character (codes "alpha") refl };
      uri = written_ur-uri (codes "http://e.org/b");
    }) (All-nil IsSoundLink)

page_of_one : IsReadAsTokens (html one_link) (
    tag doctype ∷ text (codes "\n") ∷ title (codes "Links") ∷ text (codes "\n")
    ∷ tag list_start ∷ text (codes "\n")
    ∷ tag item_start ∷ link (codes "http://e.org/b") ∷ text (codes "alpha") ∷ tag link_end ∷ tag item_end ∷ text (codes "\n")
    ∷ tag list_end ∷ text (codes "\n") ∷ [])
page_of_one = (page-tokens one_link (page_tokens one_link) alpha_is_sound).1 refl

page_of_none : IsReadAsTokens (html no_link) (
    tag doctype ∷ text (codes "\n") ∷ title (codes "Links") ∷ text (codes "\n")
    ∷ tag paragraph_start ∷ text (codes "No links") ∷ tag paragraph_end ∷ text (codes "\n") ∷ [])
page_of_none = (page-tokens no_link (page_tokens no_link) (All-nil IsSoundLink)).1 refl

-- ---- links among tokens

-- the name of a link is the text up to its end, whatever tags are in it
link_through_tags : links_in (text (codes "a") ∷ link (codes "u") ∷ text (codes "b") ∷ tag item_end ∷ text (codes "c") ∷ tag link_end ∷ text (codes "d") ∷ [])
    ≡ record { name = codes "bc"; link = codes "u" } ∷ []
link_through_tags = refl

-- a link ends where the next begins
link_in_link : links_in (link (codes "u") ∷ text (codes "a") ∷ link (codes "v") ∷ text (codes "b") ∷ tag link_end ∷ [])
    ≡ record { name = codes "a"; link = codes "u" } ∷ record { name = codes "b"; link = codes "v" } ∷ []
link_in_link = refl

-- ---- character references

reference_in_text : IsReadAsTokens (codes "R&amp;D") (text (codes "R&D") ∷ [])
reference_in_text =
    read_token _ _ _ _ (with_text (codes "R&amp;D") (codes "R&D") [] (λ e. absurd (cc)) (All-from_list_all is_in_text (codes "R&amp;D") refl) refl
    (read_character _ _ _ (λ e. omega (arith, e)) (read_ampersand _ _ (read_character _ _ _ (λ e. omega (arith, e)) read_nothing)))) read_end

reference_in_link : IsReadAsTokens (codes "<a href=\"a&amp;b\">") (link (codes "a&b") ∷ [])
reference_in_link =
    read_token _ _ _ _ (with_link (codes "a&amp;b") (codes "a&b") [] (All-from_list_all is_in_value (codes "a&amp;b") refl)
    (read_character _ _ _ (λ e. omega (arith, e)) (read_ampersand _ _ (read_character _ _ _ (λ e. omega (arith, e)) read_nothing)))) read_end

-- ---- pages that are not read

script : (tokens : List Token) → IsReadAsTokens (codes "<script>alert(1)</script>") tokens → ⊥
unfolding front head_of rest_of
script tokens h = none_at_unknown _ tokens refl h

second_attribute : (tokens : List Token) → IsReadAsTokens (codes "<a href=\"x\" onclick=\"y\">z</a>") tokens → ⊥
unfolding head_of
second_attribute tokens h =
    let after = after_value (codes "x") (codes " onclick=\"y\">z</a>") tokens (All-from_list_all is_in_value (codes "x") refl) h in
    omega (arith, ap head_of after.1)

-- a link that is written with its quotation mark, `x"><p>`, is read as the link `x`, a tag and a text
quotation_mark_in_link : (tokens : List Token) → IsReadAsTokens (codes "<a href=\"x\"><p>\">") tokens
    → tokens ≡ link (codes "x") ∷ tag paragraph_start ∷ text (codes "\">") ∷ []
quotation_mark_in_link tokens h = one_reading_of_page _ tokens _ h (
    read_token _ _ _ _
    (with_link (codes "x") (codes "x") _ (All-from_list_all is_in_value (codes "x") refl) (read_character _ _ _ (λ e. omega (arith, e)) read_nothing))
    (read_token _ _ _ _ (with_tag paragraph_start _)
    (read_token _ _ _ _ (with_text (codes "\">") (codes "\">") [] (λ e. absurd (cc)) (All-from_list_all is_in_text (codes "\">") refl) refl
    (read_character _ _ _ (λ e. omega (arith, e)) (read_character _ _ _ (λ e. omega (arith, e)) read_nothing))) read_end)))
