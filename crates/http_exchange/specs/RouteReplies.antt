-- The reply to a request, by its route.
use Rattle.std.specs.Prelude.{◌≡◌, ℕ, ◌==◌, List, [], Option, Some, None, codes, length, if◌then◌else◌}
use Rattle.text_model.specs.Texts.{Text}
use Rattle.kev_read.specs.Pairs.{KeyValue, pairs_of}
use Rattle.kev_read.specs.Refusal.{refusal}
use Rattle.kev_read.specs.declared.error.KevError.{KevError}
use Rattle.kev_read.specs.declared.error.KevError.TheVariants.{TooLong, TooManyPairs, WrongVersion, NoMemory}
use Rattle.menu.specs.Printed as menu
use Rattle.menu.specs.Entries.{MenuEntry}
use Rattle.menu_source.specs.Menus.{Menus}
use Rattle.http_request.specs.declared.route.Page.{Page}
use Rattle.http_request.specs.declared.route.Page.TheVariants as page
use Rattle.http_request.specs.Routes.{RouteValue}
use Rattle.http_request.specs.Routes as route
use Rattle.http_request.specs.Numbers.{numbers_of}
use Rattle.source_queries.specs.Utf8.{source_query}
use Rattle.source_requests.specs.Requests.{fits, reading_of_source}
use Rattle.source_menus.specs.Found.{FoundLink, links_for}
use Rattle.source_json.specs.Values.{found_text, reading_text}
use Rattle.http_exchange.specs.declared.reply.BodyType.{BodyType}
use Rattle.http_exchange.specs.declared.reply.BodyType.TheVariants.{Html, Json, Plain}
use Rattle.http_exchange.specs.Replies.{ReplyValue, plain}

-- ---- pages

abbrev pub page_type : Page → BodyType
page_type page.Html = Html
page_type page.Text = Plain
page_type page.Report = Plain

abbrev pub page_text : Page → List MenuEntry → Text
page_text page.Html entries = menu.html entries
page_text page.Text entries = menu.text entries
page_text page.Report entries = menu.report entries

-- the page of the menu for a request
abbrev pub menu_reply : Menus → Page → List KeyValue → ReplyValue
menu_reply menus page pairs = record { status = 200; body_type = page_type page; body = page_text page (menus pairs) }

-- ---- a query of any source

-- the JSON for a query, which is rejected if it is too long once it is repaired and in UTF-8; in a head it is never too long as it is sent
abbrev pub json_reply : List ℕ → Text → ReplyValue
json_reply query body =
    if fits (source_query query) then record { status = 200; body_type = Json; body = body } else plain 400 (codes "query: too long\n")

-- the reading of the query
unfoldable pub reading_reply : List ℕ → ReplyValue
reading_reply query = json_reply query (reading_text (reading_of_source query))

-- the JSON of the reading with these links
abbrev pub found_with : List ℕ → List FoundLink → Text
found_with query links = found_text (record { reading = reading_of_source query; links = links })

-- the numbers between the commas, none in an empty text
abbrev pub further_numbers : List ℕ → List (List ℕ)
further_numbers text = if length text == 0 then [] else numbers_of text

-- the reading of the query, and its links and those for further numbers
unfoldable pub links_reply : Menus → List ℕ → List ℕ → ReplyValue
links_reply menus numbers query = json_reply query (found_with query (links_for menus (further_numbers numbers) (reading_of_source query).pairs))

-- ---- replies

-- the reply to a query, which is rejected for this reason or not at all; a query in a head is never too long
abbrev pub IsQueryReply : Menus → Page → List ℕ → Option KevError → ReplyValue → Type 0
IsQueryReply menus page query None reply = reply ≡ menu_reply menus page (pairs_of query)
IsQueryReply menus page query (Some TooManyPairs) reply = reply ≡ plain 400 (codes "query: too many pairs\n")
IsQueryReply menus page query (Some WrongVersion) reply = reply ≡ plain 400 (codes "query: wrong version\n")
IsQueryReply menus page query (Some TooLong) reply = ⊥
IsQueryReply menus page query (Some NoMemory) reply = ⊥

-- the reply for a route
abbrev pub IsReplyTo : Menus → RouteValue → ReplyValue → Type 0
IsReplyTo menus (route.Menu page query) reply = IsQueryReply menus page query (refusal query) reply
IsReplyTo menus (route.Reading query) reply = reply ≡ reading_reply query
IsReplyTo menus (route.Links numbers query) reply = reply ≡ links_reply menus numbers query
IsReplyTo menus route.NotFound reply = reply ≡ plain 404 (codes "not found\n")
IsReplyTo menus route.MethodNotAllowed reply = reply ≡ plain 405 (codes "method not allowed\n")
IsReplyTo menus route.BadRequest reply = reply ≡ plain 400 (codes "bad request\n")
IsReplyTo menus route.HeadTooLarge reply = reply ≡ plain 431 (codes "head too large\n")
