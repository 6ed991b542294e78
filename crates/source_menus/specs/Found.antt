-- The links for a query of any source: each target has one.
use Rattle.std.specs.Prelude.{ℕ, Bool, true, false, not, List, [], ◌∷◌, ◌++◌, filter, Option, Some, None}
use Rattle.std.specs.List.{filter_map, flat_map}
use Rattle.std.specs.Str.{bytes_eq}
use Rattle.text_model.specs.Texts.{Text}
use Rattle.kev_read.specs.Pairs.{KeyValue}
use Rattle.menu.specs.Entries.{MenuEntry}
use Rattle.menu.specs.declared.entry.Resolution.{Resolution}
use Rattle.menu.specs.declared.entry.Resolution.TheVariants as resolution
use Rattle.menu_source.specs.Menus.{Menus}
use Rattle.openurl_reading.specs.Reading.{ReadRequest}
use Rattle.source_requests.specs.Requests.{any_pairs, fitting, further_pairs, reading_of_source}
use Rattle.source_menus.specs.declared.link.LinkRequest.{LinkRequest}
use Rattle.source_menus.specs.declared.link.LinkRequest.TheVariants as link_request
use Rattle.source_menus.specs.Parts.{target_of}

-- ---- the requests of a query

-- the query's own, the one with a further number of the title, or the one for targets that answer every request
pub data RequestValue : Type 0 where
  Own : RequestValue
  Further : (number : Text) → RequestValue
  Any : RequestValue

-- the value of a request of the program
abbrev pub request_value : LinkRequest → RequestValue
request_value link_request.Own = Own
request_value (link_request.Further number) = Further number.now
request_value link_request.Any = Any

abbrev pub is_own : RequestValue → Bool
is_own Own = true
is_own (Further number) = false
is_own Any = false

-- the pairs of a reading as the request has them
abbrev pub pairs_for : RequestValue → List KeyValue → List KeyValue
pairs_for Own pairs = pairs
pairs_for (Further number) pairs = further_pairs number pairs
pairs_for Any pairs = any_pairs pairs

-- ---- links

-- the name of the part that gave the link, the row of its table, the link, and the request that gave it
pub record FoundLink : Type 0 where
  pub name : Text
  pub row : ℕ
  pub link : Text
  pub request : RequestValue

abbrev pub target : FoundLink → Text
target link = target_of link.name

-- ---- the links of a menu

abbrev pub link_by : RequestValue → Text → Resolution → Option FoundLink
link_by request name (resolution.Link row link) = Some (record { name = name; row = row; link = link; request = request })
link_by request name resolution.NoRow = None
link_by request name resolution.NoLink = None
link_by request name resolution.NotAWebLink = None
link_by request name (resolution.OverBudget bytes) = None

abbrev pub links_in : RequestValue → List MenuEntry → List FoundLink
links_in request menu = filter_map (λ entry. link_by request entry.name entry.resolution) menu

-- ---- each target once

abbrev pub is_of : Text → FoundLink → Bool
is_of name link = bytes_eq (target link) name

-- the first link of each target
abbrev pub first_of_each : List FoundLink → List FoundLink
first_of_each [] = []
first_of_each (link ∷ links) = link ∷ filter (λ later. not (is_of (target link) later)) (first_of_each links)

-- ---- a query

-- the links that a request gives
abbrev pub links_by : Menus → List KeyValue → RequestValue → List FoundLink
links_by menus pairs request = links_in request (menus (fitting (pairs_for request pairs)))

-- those of all requests, in their order: the query's own, those with further numbers, and the one for targets that answer every request
abbrev pub all_links : Menus → List Text → List KeyValue → List FoundLink
all_links menus numbers pairs =
    links_by menus pairs Own ++ (flat_map (λ number. links_by menus pairs (Further number)) numbers ++ links_by menus pairs Any)

abbrev pub links_for : Menus → List Text → List KeyValue → List FoundLink
links_for menus numbers pairs = first_of_each (all_links menus numbers pairs)

-- the reading of a query, and its links
pub record FoundForQuery : Type 0 where
  pub reading : ReadRequest
  pub links : List FoundLink

abbrev pub found_for : Menus → List Text → Text → FoundForQuery
found_for menus numbers query =
    let reading = reading_of_source query in
    record { reading = reading; links = links_for menus numbers reading.pairs }
