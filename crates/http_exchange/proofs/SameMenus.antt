-- The same menus give the same replies.
use Rattle.std.proofs.Common.{◌≡◌, ◌++◌, ℕ, List, [], ◌∷◌, Option, Some, None, refl, ap, ◌∙◌}
use Rattle.std.specs.List.{flat_map}
use Rattle.text_model.specs.Texts.{Text}
use Rattle.kev_read.specs.Pairs.{KeyValue, pairs_of}
use Rattle.kev_read.specs.Refusal.{refusal}
use Rattle.kev_read.specs.declared.error.KevError.{KevError}
use Rattle.kev_read.specs.declared.error.KevError.TheVariants as kev
use Rattle.menu.specs.Entries.{MenuEntry}
use Rattle.menu_source.specs.Menus.{Menus}
use Rattle.source_requests.specs.Requests.{fitting, reading_of_source}
use Rattle.source_menus.specs.Found.{Any, Further, Own, RequestValue, all_links, first_of_each, links_by, links_in, pairs_for}
use Rattle.http_request.specs.declared.route.Page.{Page}
use Rattle.http_request.specs.Routes.{RouteValue}
use Rattle.http_request.specs.Routes as route
use Rattle.http_exchange.specs.Replies.{ReplyValue}
use Rattle.http_exchange.specs.RouteReplies.{IsQueryReply, IsReplyTo, found_with, further_numbers, json_reply, links_reply, page_text, page_type}

module _ (menus others : Menus) (same : (pairs : List KeyValue) → menus pairs ≡ others pairs) where
  -- ---- links

  same_by : (pairs : List KeyValue) (request : RequestValue) → links_by menus pairs request ≡ links_by others pairs request
  same_by pairs request = ap (links_in request) (same (fitting (pairs_for request pairs)))

  same_further : (pairs : List KeyValue) (numbers : List Text)
      → flat_map (λ number. links_by menus pairs (Further number)) numbers ≡ flat_map (λ number. links_by others pairs (Further number)) numbers
  same_further pairs [] = refl
  same_further pairs (number ∷ numbers) =
      ap (λ links. links ++ flat_map (λ n. links_by menus pairs (Further n)) numbers) (same_by pairs (Further number))
      ∙ ap (λ links. links_by others pairs (Further number) ++ links) (same_further pairs numbers)

  same_all : (pairs : List KeyValue) (numbers : List Text) → all_links menus numbers pairs ≡ all_links others numbers pairs
  same_all pairs numbers =
      ap (λ links. links ++ (flat_map (λ n. links_by menus pairs (Further n)) numbers ++ links_by menus pairs Any)) (same_by pairs Own)
      ∙ ap (λ links. links_by others pairs Own ++ (links ++ links_by menus pairs Any)) (same_further pairs numbers)
      ∙ ap (λ links. links_by others pairs Own ++ (flat_map (λ n. links_by others pairs (Further n)) numbers ++ links)) (same_by pairs Any)

  same_links : (numbers query : List ℕ) → links_reply menus numbers query ≡ links_reply others numbers query
  unfolding links_reply
  same_links numbers query =
      ap (λ links. json_reply query (found_with query (first_of_each links))) (same_all (reading_of_source query).pairs (further_numbers numbers))

  -- ---- replies

  by_refusal : (page : Page) (query : List ℕ) (reply : ReplyValue) (f : Option KevError) → IsQueryReply menus page query f reply
      → IsQueryReply others page query f reply
  by_refusal page query reply None h =
      h ∙ ap (λ (entries : List MenuEntry). record { status = 200; body_type = page_type page; body = page_text page entries }) (same (pairs_of query))
  by_refusal page query reply (Some kev.TooManyPairs) h = h
  by_refusal page query reply (Some kev.WrongVersion) h = h
  by_refusal page query reply (Some kev.TooLong) h = h
  by_refusal page query reply (Some kev.NoMemory) h = h

  replied : (at : RouteValue) (reply : ReplyValue) → IsReplyTo menus at reply → IsReplyTo others at reply
  replied (route.Menu page query) reply h = by_refusal page query reply (refusal query) h
  replied (route.Reading query) reply h = h
  replied (route.Links numbers query) reply h = h ∙ same_links numbers query
  replied route.NotFound reply h = h
  replied route.MethodNotAllowed reply h = h
  replied route.BadRequest reply h = h
  replied route.HeadTooLarge reply h = h

pub follow : (menus others : Menus) (at : RouteValue) (reply : ReplyValue) → ((pairs : List KeyValue) → menus pairs ≡ others pairs)
    → IsReplyTo menus at reply → IsReplyTo others at reply
follow menus others at reply same h = replied menus others same at reply h
