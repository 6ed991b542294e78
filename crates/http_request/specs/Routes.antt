-- The route of a request: the page that it is for, or why there is none.
use Rattle.std.specs.Prelude.{ℕ, ◌≤◌, ◌==◌, Bool, false, ◌&&◌, ◌||◌, not, List, [], Option, Some, None, codes, length, if◌then◌else◌}
use Rattle.std.specs.Str.{bytes_eq}
use Rattle.httparse.specs.Grammar.{RequestHead, ReadsRequest}
use Rattle.http_streams.specs.Closing.{is_closed}
use Rattle.http_streams.specs.declared.read.TheConstants.{MAX_HEAD_BYTES}
use Rattle.http_request.specs.Host.{host_count}
use Rattle.http_request.specs.Numbers.{numbers_in}
use Rattle.http_request.specs.Target.{resource_of, path_of, query_of, page_of}
use Rattle.http_request.specs.declared.request.TheConstants.{MAX_FIELDS}
use Rattle.http_request.specs.declared.route.Page.{Page}
use Rattle.http_request.specs.declared.route.Route.{Route}
use Rattle.http_request.specs.declared.route.Route.TheVariants as route

-- a page of the menu for a query, the reading of a query of any source, that with its links and those for further numbers, or why there is no page
pub data RouteValue : Type 0 where
  Menu : (page : Page) (query : List ℕ) → RouteValue
  Reading : (query : List ℕ) → RouteValue
  Links : (numbers query : List ℕ) → RouteValue
  NotFound MethodNotAllowed BadRequest HeadTooLarge : RouteValue

-- the value of a route of the program
abbrev pub route_value : Route → RouteValue
route_value (route.Menu page query) = Menu page query.now
route_value (route.Reading query) = Reading query.now
route_value (route.Links numbers query) = Links numbers.now query.now
route_value route.NotFound = NotFound
route_value route.MethodNotAllowed = MethodNotAllowed
route_value route.BadRequest = BadRequest
route_value route.HeadTooLarge = HeadTooLarge

abbrev pub query_length : RouteValue → ℕ
query_length (Menu page query) = length query
query_length (Reading query) = length query
query_length (Links numbers query) = length query
query_length NotFound = 0
query_length MethodNotAllowed = 0
query_length BadRequest = 0
query_length HeadTooLarge = 0

-- ---- a head

-- a request has one Host field, and in HTTP/1.0 it may have none (RFC 9112, section 3.2)
abbrev pub is_right_host_count : ℕ → ℕ → Bool
is_right_host_count minor hosts = (hosts == 1) || ((hosts == 0) && (minor == 0))

abbrev pub is_head_method : List ℕ → Bool
is_head_method method = bytes_eq method (codes "HEAD")

-- GET and HEAD, in upper case (RFC 9110, section 9.1)
abbrev pub is_answered : List ℕ → Bool
is_answered method = bytes_eq method (codes "GET") || is_head_method method

abbrev pub numbers_route : Option (List ℕ) → List ℕ → RouteValue
numbers_route None query = NotFound
numbers_route (Some numbers) query = Links numbers query

-- the pages for a query of any source
unfoldable pub source_route : List ℕ → List ℕ → RouteValue
source_route path query =
    if bytes_eq path (codes "/read") then Reading query
    else (if bytes_eq path (codes "/menu.json") then Links [] query else numbers_route (numbers_in path) query)

abbrev pub page_route : Option Page → List ℕ → List ℕ → RouteValue
page_route None path query = source_route path query
page_route (Some page) path query = Menu page query

abbrev pub resource_route : Option (List ℕ) → RouteValue
resource_route None = BadRequest
resource_route (Some resource) = page_route (page_of (path_of resource)) (path_of resource) (query_of resource)

abbrev pub route_at : List ℕ → RouteValue
route_at target = resource_route (resource_of target)

-- the tests in their order: the Host fields, the method, the form of the target, the path
abbrev pub route_of : List ℕ → List ℕ → ℕ → ℕ → RouteValue
route_of method target minor hosts =
    if not (is_right_host_count minor hosts) then BadRequest
    else (if not (is_answered method) then MethodNotAllowed else route_at target)

abbrev pub head_route : RequestHead → RouteValue
head_route head = route_of head.method head.target head.minor (host_count head.fields)

-- ---- the bytes

-- if there are as many bytes as are read, and their head has not ended, it is too large; any other bytes are a bad request
abbrev pub route_without_head : List ℕ → RouteValue
route_without_head bytes = if (length bytes == MAX_HEAD_BYTES) && not (is_closed bytes) then HeadTooLarge else BadRequest

-- the bytes begin with a head with few enough fields; what follows it does not matter
pub record IsHeadOf (bytes : List ℕ) (head : RequestHead) : Type 0 where
  pub rest : List ℕ
  pub reads : ReadsRequest bytes head rest
  pub fields : length head.fields ≤ MAX_FIELDS

-- the route of the bytes, and whether the reply is sent without its body; they may begin with a head or not
pub data IsRouted (bytes : List ℕ) : RouteValue → Bool → Type 0 where
  by_head : (head : RequestHead) → IsHeadOf bytes head → IsRouted bytes (head_route head) (is_head_method head.method)
  without_head : ((head : RequestHead) → ¬ (IsHeadOf bytes head)) → IsRouted bytes (route_without_head bytes) false
