-- The page of a menu is read as its links.
use Rattle.std.proofs.Common.{◌≡◌, ◌≢◌, ◌↔◌, ℕ, Bool, true, false, not, ◌&&◌, List, [], ◌∷◌, ◌++◌, length, refl, sym, ap, ◌∙◌, subst, arith, codes}
use Rattle.std.proofs.Common.{append_assoc}
use Rattle.std.specs.Prelude.{◌==◌, if◌then◌else◌, All}
use Rattle.std.specs.List.{flat_map}
use Rattle.std.proofs.lemmas.Bool.{eqb-true}
use Rattle.std.proofs.lemmas.List.{append-nil, nil_from_length}
use Rattle.std.proofs.lemmas.Bool.Decides.{nat_tests}
use Rattle.std.proofs.lemmas.List.Elements.{All-head, All-tail, All-weaker}
use Rattle.text_model.specs.Texts.{Text, is_unreserved, is_reserved}
use Rattle.text_model.proofs.Lists.{All-from_list_all}
use Rattle.menu.specs.Entries.{MenuEntry}
use Rattle.menu.specs.Contained.{is_target_name_character, IsTargetName}
use Rattle.menu.specs.Escaping.{ampersand, apostrophe, ampersand_reference, apostrophe_reference, escaped, IsReadAs, read_nothing, read_character}
use Rattle.menu.specs.Links.{NamedLink, links, is_empty}
use Rattle.menu.specs.Printed.{html_item, html_list, html}
use Rattle.menu.specs.PageReading.{is_in_text, is_in_value, ends_text, Tag, doctype, list_start, list_end, item_start, item_end, paragraph_start, paragraph_end}
use Rattle.menu.specs.PageReading.{link_end, written_tag, Token, tag, title, link, text, with_tag, with_title, with_link, with_text, IsReadAsTokens, read_end}
use Rattle.menu.specs.PageReading.{read_token, links_in, IsSoundLink, HasSoundLinks, item_tokens, page_tokens}
use Rattle.menu.proofs.ContainedLemmas.{is_uri_byte, All-escaped}
use Rattle.menu.proofs.ReadingLemmas.{escaped-read_back}
use Rattle.menu.proofs.OneReading.{one_reading_of_page}

-- ---- tokens

-- a byte of a text that is read as itself
abbrev is_simple : ℕ → Bool
is_simple b = is_in_text b && not (b == ampersand)

abbrev simple : ℕ → Type 0
simple b = is_simple b ≡ true

simple_in_text : (b : ℕ) → is_simple b ≡ true → is_in_text b ≡ true
simple_in_text b e = grind (arith, nat_tests)

simple_no_reference : (b : ℕ) → is_simple b ≡ true → b ≢ ampersand
simple_no_reference b e = grind (arith, nat_tests)

reads_as_itself : (t : Text) → All simple t → IsReadAs t t
reads_as_itself [] all = read_nothing
reads_as_itself (b ∷ t) all =
    read_character b t t (simple_no_reference b (All-head simple b t all)) (reads_as_itself t (All-tail simple b t all))

all_in_text : (t : Text) → All simple t → All (λ b. is_in_text b ≡ true) t
all_in_text t all = All-weaker simple (λ b. is_in_text b ≡ true) simple_in_text t all

pub tag_first : (t : Tag) (rest : Text) (tokens : List Token) → IsReadAsTokens rest tokens → IsReadAsTokens (written_tag t ++ rest) (tag t ∷ tokens)
tag_first t rest tokens h = read_token _ rest (tag t) tokens (with_tag t rest) h

text_first : (t rest : Text) (tokens : List Token) → t ≢ [] → All simple t → ends_text rest ≡ true → IsReadAsTokens rest tokens
    → IsReadAsTokens (t ++ rest) (text t ∷ tokens)
text_first t rest tokens some all stop h =
    read_token _ rest (text t) tokens (with_text t t rest some (all_in_text t all) stop (reads_as_itself t all)) h

pub line_end_first : (rest : Text) (tokens : List Token) → ends_text rest ≡ true → IsReadAsTokens rest tokens
    → IsReadAsTokens (codes "\n" ++ rest) (text (codes "\n") ∷ tokens)
line_end_first rest tokens stop h = text_first (codes "\n") rest tokens (λ e. absurd (cc)) (All-from_list_all is_simple (codes "\n") refl) stop h

-- ---- items

value_byte : (b : ℕ) → is_uri_byte b ≡ true → b ≢ apostrophe → is_in_value b ≡ true
unfolding is_unreserved is_reserved
value_byte b e n = grind (arith, nat_tests)

all_in_value : (l : NamedLink) → IsSoundLink l → All (λ b. is_in_value b ≡ true) (escaped l.link)
all_in_value l h =
    All-escaped (λ b. is_in_value b ≡ true) (All-from_list_all is_in_value ampersand_reference refl)
    (All-from_list_all is_in_value apostrophe_reference refl) value_byte l.link h.uri

name_byte : (b : ℕ) → is_target_name_character b ≡ true → is_simple b ≡ true
name_byte b e = grind (arith, nat_tests)

all_simple : (name : Text) → IsTargetName name → All simple name
all_simple name h = All-weaker (λ b. is_target_name_character b ≡ true) simple name_byte name h.characters

some_name : (name : Text) → IsTargetName name → name ≢ []
some_name name h e = omega (arith, ap length e, h.some)

regroup : (a b c d rest : Text) → (a ++ (b ++ (c ++ d))) ++ rest ≡ a ++ (b ++ (c ++ (d ++ rest)))
regroup a b c d rest = simp append_assoc

item_read : (l : NamedLink) (rest : Text) (tokens : List Token) → IsSoundLink l → ends_text rest ≡ true → IsReadAsTokens rest tokens
    → IsReadAsTokens (html_item l ++ rest) (item_tokens l ++ tokens)
item_read l rest tokens sound stop h =
    subst (λ x. IsReadAsTokens (codes "<li><a href=\"" ++ x) (item_tokens l ++ tokens))
    (sym (regroup (escaped l.link) (codes "\">") l.name (codes "</a></li>\n") rest))
    (tag_first item_start _ _ (read_token _ _ (link l.link) _
    (with_link (escaped l.link) l.link _ (all_in_value l sound) ((escaped-read_back l.link l.link).1 refl))
    (text_first l.name _ _ (some_name l.name sound.name) (all_simple l.name sound.name) refl
    (tag_first link_end _ _ (tag_first item_end _ _ (line_end_first rest tokens stop h))))))

items_end : (ls : List NamedLink) → ends_text (flat_map html_item ls ++ codes "</ul>\n") ≡ true
items_end [] = refl
items_end (l ∷ ls) = refl

items_read : (ls : List NamedLink) → All IsSoundLink ls
    → IsReadAsTokens (flat_map html_item ls ++ codes "</ul>\n") (flat_map item_tokens ls ++ tag list_end ∷ text (codes "\n") ∷ [])
items_read [] sound = tag_first list_end _ _ (line_end_first [] [] refl read_end)
items_read (l ∷ ls) sound =
    subst (λ x. IsReadAsTokens x (flat_map item_tokens (l ∷ ls) ++ tag list_end ∷ text (codes "\n") ∷ []))
    (sym (append_assoc (html_item l) (flat_map html_item ls) (codes "</ul>\n")))
    (item_read l _ _ (All-head IsSoundLink l ls sound) (items_end ls) (items_read ls (All-tail IsSoundLink l ls sound)))

-- ---- the page

page_read : (menu : List MenuEntry) → HasSoundLinks menu → IsReadAsTokens (html menu) (page_tokens menu)
page_read menu sound =
    tag_first doctype _ _ (line_end_first _ _ refl
    (read_token _ _ (title (codes "Links")) _
    (with_title (codes "Links") (codes "Links") _ (all_in_text (codes "Links") simple_title) (reads_as_itself (codes "Links") simple_title))
    (line_end_first _ _ (list_first (is_empty menu)) (list_read (is_empty menu)))))
  where
    simple_title : All simple (codes "Links")
    simple_title = All-from_list_all is_simple (codes "Links") refl

    list_first : (x : Bool) → ends_text (if x then codes "<p>No links</p>\n" else html_list menu) ≡ true
    list_first true = refl
    list_first false = refl

    list_read : (x : Bool) → IsReadAsTokens (if x then codes "<p>No links</p>\n" else html_list menu)
        (if x then (tag paragraph_start ∷ text (codes "No links") ∷ tag paragraph_end ∷ text (codes "\n") ∷ [])
        else (tag list_start ∷ text (codes "\n") ∷ (flat_map item_tokens (links menu) ++ tag list_end ∷ text (codes "\n") ∷ [])))
    list_read true =
        tag_first paragraph_start _ _ (text_first (codes "No links") _ _ (λ e. absurd (cc)) (All-from_list_all is_simple (codes "No links") refl) refl
        (tag_first paragraph_end _ _ (line_end_first [] [] refl read_end)))
    list_read false = tag_first list_start _ _ (line_end_first _ _ (items_end (links menu)) (items_read (links menu) sound))

links_of_items : (ls : List NamedLink) → links_in (flat_map item_tokens ls ++ tag list_end ∷ text (codes "\n") ∷ []) ≡ ls
links_of_items [] = refl
links_of_items (l ∷ ls) =
    ap (λ name. record { name = name; link = l.link } ∷ links_in (flat_map item_tokens ls ++ tag list_end ∷ text (codes "\n") ∷ [])) (append-nil l.name)
    ∙ ap (λ rest. l ∷ rest) (links_of_items ls)

pub page-tokens : (menu : List MenuEntry) (tokens : List Token) → HasSoundLinks menu → IsReadAsTokens (html menu) tokens ↔ (tokens ≡ page_tokens menu)
page-tokens menu tokens sound =
    let reading = page_read menu sound in
    (λ h. one_reading_of_page (html menu) tokens (page_tokens menu) h reading, λ e. subst (IsReadAsTokens (html menu)) (sym e) reading)

page_links : (menu : List MenuEntry) → links_in (page_tokens menu) ≡ links menu
page_links menu = by_test (is_empty menu) refl
  where
    by_test : (x : Bool) → is_empty menu ≡ x
        → links_in (if x then (tag paragraph_start ∷ text (codes "No links") ∷ tag paragraph_end ∷ text (codes "\n") ∷ [])
        else (tag list_start ∷ text (codes "\n") ∷ (flat_map item_tokens (links menu) ++ tag list_end ∷ text (codes "\n") ∷ []))) ≡ links menu
    by_test true e = sym (nil_from_length (links menu) (eqb-true (length (links menu)) 0 e))
    by_test false e = links_of_items (links menu)

pub page-links : (menu : List MenuEntry) (tokens : List Token) → HasSoundLinks menu → IsReadAsTokens (html menu) tokens → links_in tokens ≡ links menu
page-links menu tokens sound h = ap links_in ((page-tokens menu tokens sound).0 h) ∙ page_links menu
