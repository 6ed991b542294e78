-- How a reader of HTML parses a page: token by token, from its beginning (HTML Living Standard, section 13.2.5). Only some pages have a reading here: a few
-- tags, links whose one attribute is `href`, texts, and two character references. A page with anything else, such as `<script>` or a second attribute, has
-- none.
use Rattle.std.specs.Prelude.{◌≡◌, ◌≢◌, ℕ, ◌==◌, Bool, true, not, ◌&&◌, ◌||◌, nat_lt, List, [], ◌∷◌, ◌++◌, codes, All, if◌then◌else◌}
use Rattle.std.specs.List.{flat_map}
use Rattle.text_model.specs.Texts.{Text}
use Rattle.text_model.specs.UriText.{IsUriText}
use Rattle.menu.specs.Entries.{MenuEntry}
use Rattle.menu.specs.Links.{NamedLink, links, is_empty}
use Rattle.menu.specs.Escaping.{IsReadAs}
use Rattle.menu.specs.Contained.{IsTargetName}

-- ---- characters

-- `<`, which ends a text (section 13.2.5.1)
abbrev pub less_than : ℕ
less_than = 0x3C

-- `"`, which ends the value of an attribute that begins with it (section 13.2.5.36)
abbrev pub quotation_mark : ℕ
quotation_mark = 0x22

-- ASCII without NUL and CR, which a reader replaces or drops (sections 13.2.3.5 and 13.2.5.1)
abbrev pub is_plain : ℕ → Bool
is_plain b = nat_lt b 128 && not (b == 0 || b == 0x0D)

abbrev pub is_in_text : ℕ → Bool
is_in_text b = is_plain b && not (b == less_than)

abbrev pub is_in_value : ℕ → Bool
is_in_value b = is_plain b && not (b == quotation_mark)

-- what may follow a text: nothing, or the `<` of a tag
abbrev pub ends_text : Text → Bool
ends_text [] = true
ends_text (b ∷ rest) = b == less_than

-- ---- tokens

-- the document type, and some tags without attributes. After each of them a reader continues by the same rules;
-- after `<script>` or `<textarea>` it would not.
pub data Tag : Type 0 where
  doctype list_start list_end item_start item_end paragraph_start paragraph_end link_end : Tag

abbrev pub written_tag : Tag → Text
written_tag doctype = codes "<!DOCTYPE html>"
written_tag list_start = codes "<ul>"
written_tag list_end = codes "</ul>"
written_tag item_start = codes "<li>"
written_tag item_end = codes "</li>"
written_tag paragraph_start = codes "<p>"
written_tag paragraph_end = codes "</p>"
written_tag link_end = codes "</a>"

-- a tag, the whole title of a page, the start tag of a link with the value of its `href`, or a text
pub data Token : Type 0 where
  tag : Tag → Token
  title : Text → Token
  link : Text → Token
  text : Text → Token

-- the page begins with the token, and the rest follows it. The value of a link ends at the first quotation mark, and
-- `>` comes next. A text is not empty, and ends at the first `<` or with the page. There are no tags within a title
-- (section 13.2.5.2), so the first `<` in it has to begin `</title>`.
pub data BeginsWithToken : Text → Token → Text → Type 0 where
  with_tag : (t : Tag) (rest : Text) → BeginsWithToken (written_tag t ++ rest) (tag t) rest
  with_title : (written read rest : Text) → All (λ b. is_in_text b ≡ true) written → IsReadAs written read
      → BeginsWithToken (codes "<title>" ++ (written ++ (codes "</title>" ++ rest))) (title read) rest
  with_link : (written read rest : Text) → All (λ b. is_in_value b ≡ true) written → IsReadAs written read
      → BeginsWithToken (codes "<a href=\"" ++ (written ++ (codes "\">" ++ rest))) (link read) rest
  with_text : (written read rest : Text) → written ≢ [] → All (λ b. is_in_text b ≡ true) written → ends_text rest ≡ true
      → IsReadAs written read → BeginsWithToken (written ++ rest) (text read) rest

-- the whole page consists of these tokens, in this order
pub data IsReadAsTokens : Text → List Token → Type 0 where
  read_end : IsReadAsTokens [] []
  read_token : (page rest : Text) (t : Token) (others : List Token) → BeginsWithToken page t rest → IsReadAsTokens rest others
      → IsReadAsTokens page (t ∷ others)

-- ---- links

-- the text up to the end of a link: its end tag, the next link, or the end of the page
abbrev pub link_text : List Token → Text
link_text [] = []
link_text (text read ∷ others) = read ++ link_text others
link_text (link value ∷ others) = []
link_text (tag link_end ∷ others) = []
link_text (_ ∷ others) = link_text others

-- the links among the tokens, in their order, each with its text as the name
abbrev pub links_in : List Token → List NamedLink
links_in [] = []
links_in (link value ∷ others) = record { name = link_text others; link = value } ∷ links_in others
links_in (_ ∷ others) = links_in others

-- ---- the page of a menu

-- a link that is URI text, under the name of a target
pub record IsSoundLink (l : NamedLink) : Type 0 where
  pub name : IsTargetName l.name
  pub uri : IsUriText l.link

abbrev pub HasSoundLinks : List MenuEntry → Type 0
HasSoundLinks menu = All IsSoundLink (links menu)

-- a list item that is the link, and the end of the line
abbrev pub item_tokens : NamedLink → List Token
item_tokens l = tag item_start ∷ link l.link ∷ text l.name ∷ tag link_end ∷ tag item_end ∷ text (codes "\n") ∷ []

-- the list of the links, or a paragraph if there are none
abbrev pub list_tokens : List MenuEntry → List Token
list_tokens menu =
    if is_empty menu then (tag paragraph_start ∷ text (codes "No links") ∷ tag paragraph_end ∷ text (codes "\n") ∷ [])
    else (tag list_start ∷ text (codes "\n") ∷ (flat_map item_tokens (links menu) ++ tag list_end ∷ text (codes "\n") ∷ []))

abbrev pub page_tokens : List MenuEntry → List Token
page_tokens menu = tag doctype ∷ text (codes "\n") ∷ title (codes "Links") ∷ text (codes "\n") ∷ list_tokens menu
