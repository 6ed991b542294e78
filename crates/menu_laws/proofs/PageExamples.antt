-- The pages of the two small registries, read token by token: what `targets_are_independent` says of their links, computed.
use Rattle.std.proofs.Common.{◌≡◌, ◌≢◌, ℕ, ◌==◌, Bool, true, not, List, [], ◌∷◌, ◌++◌, refl, sym, ap, ◌∙◌, codes, length, arith}
use Rattle.std.specs.List.{list_all}
use Rattle.std.proofs.lemmas.Bool.{and_parts, eq-eqb, false≢true}
use Rattle.text_model.specs.Texts.{Text}
use Rattle.text_model.proofs.Lists.{All-from_list_all}
use Rattle.kbart_rows.proofs.OnLiterals.{kbart_rows_on_literals}
use Rattle.menu.specs.Escaping.{IsReadAs, ampersand, read_character, read_nothing}
use Rattle.menu.specs.PageReading.{IsReadAsTokens, Token, doctype, ends_text, is_in_text, is_in_value, item_end, item_start, link, link_end, links_in}
use Rattle.menu.specs.PageReading.{list_end, list_start, read_end, read_token, tag, text, title, with_link, with_text, with_title}
use Rattle.menu.proofs.PageLemmas.{line_end_first, tag_first}
use Rattle.verified_runs.specs.Fates.{fate_in}
use Rattle.registry.specs.Entries.{menu_of}
use Rattle.http_request.specs.declared.route.Page.TheVariants as page
use Rattle.http_exchange.specs.RouteReplies.{menu_reply}
use Rattle.menu_laws.specs.Shares.{other_links}
use Rattle.menu_laws.proofs.SmallRegistries.{registry, request, run_on_literals, spoilt_registry}

-- ---- tokens of texts without character references

is_other : ℕ → Bool
is_other b = not (b == ampersand)

as_it_is : (t : Text) → list_all is_other t ≡ true → IsReadAs t t
unfolding is_other
as_it_is [] h = read_nothing
as_it_is (b ∷ t) h =
    let tests = and_parts (is_other b) (list_all is_other t) h in
    read_character b t t (λ same. false≢true (sym (ap not (eq-eqb b ampersand same)) ∙ tests.0)) (as_it_is t tests.1)

a_title : (t rest : Text) (others : List Token) → list_all is_in_text t ≡ true → list_all is_other t ≡ true → IsReadAsTokens rest others
    → IsReadAsTokens (codes "<title>" ++ (t ++ (codes "</title>" ++ rest))) (title t ∷ others)
a_title t rest others within plain h = read_token _ rest (title t) others (with_title t t rest (All-from_list_all is_in_text t within) (as_it_is t plain)) h

a_link : (t rest : Text) (others : List Token) → list_all is_in_value t ≡ true → list_all is_other t ≡ true → IsReadAsTokens rest others
    → IsReadAsTokens (codes "<a href=\"" ++ (t ++ (codes "\">" ++ rest))) (link t ∷ others)
a_link t rest others within plain h = read_token _ rest (link t) others (with_link t t rest (All-from_list_all is_in_value t within) (as_it_is t plain)) h

a_text : (b : ℕ) (t rest : Text) (others : List Token) → list_all is_in_text (b ∷ t) ≡ true → list_all is_other (b ∷ t) ≡ true → ends_text rest ≡ true
    → IsReadAsTokens rest others
    → IsReadAsTokens ((b ∷ t) ++ rest) (text (b ∷ t) ∷ others)
a_text b t rest others within plain ends h =
    let some : (b ∷ t) ≢ [] = λ none. absurd (omega (arith, ap length none)) in
    read_token _ rest (text (b ∷ t)) others (with_text (b ∷ t) (b ∷ t) rest some (All-from_list_all is_in_text (b ∷ t) within) ends (as_it_is (b ∷ t) plain)) h

-- ---- pages

-- the item of a link
abbrev item : Text → Text → List Token → List Token
item name address others =
    tag item_start ∷ link address ∷ text name ∷ tag link_end ∷ tag item_end ∷ text (codes "\n") ∷ others

abbrev page_end : List Token
page_end = tag list_end ∷ text (codes "\n") ∷ []

abbrev page_with : List Token → List Token
page_with items = tag doctype ∷ text (codes "\n") ∷ title (codes "Links") ∷ text (codes "\n") ∷ tag list_start ∷ text (codes "\n") ∷ items

abbrev beta_item : List Token
beta_item = item (codes "beta") (codes "http://e.org/b") page_end

end_is_read : IsReadAsTokens (codes "</ul>\n") page_end
end_is_read = tag_first list_end _ _ (line_end_first [] [] refl read_end)

beta_is_read : IsReadAsTokens (codes "<li><a href=\"http://e.org/b\">beta</a></li>\n</ul>\n") beta_item
unfolding is_other
beta_is_read =
    tag_first item_start _ _
    (a_link (codes "http://e.org/b") _ _ refl refl
    (a_text 0x62 (codes "eta") _ _ refl refl refl (tag_first link_end _ _ (tag_first item_end _ _ (line_end_first _ _ refl end_is_read)))))

alpha_is_read : IsReadAsTokens
    (codes "<li><a href=\"http://e.org/a\">alpha</a></li>\n<li><a href=\"http://e.org/b\">beta</a></li>\n</ul>\n")
    (item (codes "alpha") (codes "http://e.org/a") beta_item)
unfolding is_other
alpha_is_read =
    tag_first item_start _ _
    (a_link (codes "http://e.org/a") _ _ refl refl
    (a_text 0x61 (codes "lpha") _ _ refl refl refl (tag_first link_end _ _ (tag_first item_end _ _ (line_end_first _ _ refl beta_is_read)))))

abbrev begun : Text → Text
begun items = codes "<!DOCTYPE html>\n<title>Links</title>\n<ul>\n" ++ items

begin_is_read : (items : Text) (tokens : List Token) → ends_text items ≡ true → IsReadAsTokens items tokens
    → IsReadAsTokens (begun items) (page_with tokens)
unfolding is_other
begin_is_read items tokens ends h =
    let list = tag_first list_start _ _ (line_end_first items tokens ends h) in
    tag_first doctype _ _ (line_end_first _ _ refl (a_title (codes "Links") _ _ refl refl (line_end_first _ _ refl list)))

page_with_alpha : IsReadAsTokens (menu_reply (menu_of registry) page.Html request).body (page_with (item (codes "alpha") (codes "http://e.org/a") beta_item))
unfolding kbart_rows_on_literals run_on_literals fate_in
page_with_alpha = begin_is_read _ _ refl alpha_is_read

page_with_spoilt_alpha : IsReadAsTokens (menu_reply (menu_of spoilt_registry) page.Html request).body (page_with beta_item)
unfolding kbart_rows_on_literals run_on_literals fate_in
page_with_spoilt_alpha = begin_is_read _ _ refl beta_is_read

links_with_alpha : other_links (codes "alpha") (links_in (page_with (item (codes "alpha") (codes "http://e.org/a") beta_item)))
    ≡ record { name = codes "beta"; link = codes "http://e.org/b" } ∷ []
links_with_alpha = refl

links_with_spoilt_alpha : other_links (codes "alpha") (links_in (page_with beta_item)) ≡ record { name = codes "beta"; link = codes "http://e.org/b" } ∷ []
links_with_spoilt_alpha = refl
