-- Routes computed: the routes of requests' heads are written out here, and the checker compares.
use Rattle.std.proofs.Common.{◌≡◌, ℕ, true, false, List, [], ◌∷◌, ◌++◌, refl, codes, map}
use Rattle.std.specs.List.{repeat}
use Rattle.httparse.specs.Grammar.{Field, RequestHead, crlf}
use Rattle.http_request.specs.Host.{is_host_name}
use Rattle.http_request.specs.Routes.{BadRequest, HeadTooLarge, Links, Menu, MethodNotAllowed, NotFound, Reading, RouteValue, head_route, is_answered}
use Rattle.http_request.specs.Routes.{is_head_method, route_without_head, source_route}
use Rattle.http_request.specs.declared.route.Page.TheVariants.{Html, Text, Report}

-- ---- Host fields (RFC 9112, section 3.2)

abbrev field : List ℕ → Field
field name = record { name = name; raw = codes " a"; end = crlf }

-- a head with this number of Host fields and one other field
abbrev head : List ℕ → List ℕ → ℕ → ℕ → RequestHead
head method target minor hosts =
    record {
      blank = [];
      method = method;
      target = target;
      minor = minor;
      line_end = crlf;
      fields = field (codes "Hosts") ∷ repeat hosts (field (codes "hOST") ∷ []);
      last = crlf;
    }

-- the routes with 0 to 3 Host fields
abbrev by_hosts : List ℕ → List ℕ → ℕ → List RouteValue
by_hosts method target minor = map (λ n. head_route (head method target minor n)) (0 ∷ 1 ∷ 2 ∷ 3 ∷ [])

abbrev page : RouteValue
page = Menu Html []

http_1_0_has_at_most_one_host : by_hosts (codes "GET") (codes "/openurl") 0 ≡ page ∷ page ∷ BadRequest ∷ BadRequest ∷ []
http_1_0_has_at_most_one_host = refl

http_1_1_has_one_host : by_hosts (codes "GET") (codes "/openurl") 1 ≡ BadRequest ∷ page ∷ BadRequest ∷ BadRequest ∷ []
http_1_1_has_one_host = refl

authority_is_no_host : by_hosts (codes "GET") (codes "http://a/openurl") 1 ≡ BadRequest ∷ page ∷ BadRequest ∷ BadRequest ∷ []
authority_is_no_host = refl

host_is_named_in_either_case : map is_host_name (codes "Host" ∷ codes "host" ∷ codes "HOST" ∷ codes "hOsT" ∷ []) ≡ true ∷ true ∷ true ∷ true ∷ []
host_is_named_in_either_case = refl

other_names_are_no_host : map is_host_name (codes "Hosts" ∷ codes "Hos" ∷ codes "X-Host" ∷ codes "Forwarded" ∷ [] ∷ [])
    ≡ false ∷ false ∷ false ∷ false ∷ false ∷ []
other_names_are_no_host = refl

-- ---- methods (RFC 9110, section 9.1)

abbrev methods : List (List ℕ)
methods =
    codes "GET" ∷ codes "HEAD" ∷ codes "get" ∷ codes "Head" ∷ codes "GETS" ∷ codes "GE" ∷ codes "POST" ∷ codes "PUT" ∷ codes "DELETE" ∷ codes "CONNECT"
    ∷ codes "OPTIONS" ∷ codes "TRACE" ∷ []

two_methods_are_answered : map is_answered methods ≡ true ∷ true ∷ repeat 10 (false ∷ [])
two_methods_are_answered = refl

one_method_is_without_body : map is_head_method methods ≡ false ∷ true ∷ repeat 10 (false ∷ [])
one_method_is_without_body = refl

-- ---- the order of the tests

hosts_come_before_the_method : by_hosts (codes "POST") (codes "*") 1 ≡ BadRequest ∷ MethodNotAllowed ∷ BadRequest ∷ BadRequest ∷ []
hosts_come_before_the_method = refl

form_comes_before_the_path : map (λ target. head_route (head (codes "HEAD") target 1 1))
    (codes "*" ∷ codes "/x" ∷ codes "http://a" ∷ codes "ftp://a/report" ∷ [])
    ≡ BadRequest ∷ NotFound ∷ NotFound ∷ BadRequest ∷ []
unfolding source_route
form_comes_before_the_path = refl

page_and_query : map (λ target. head_route (head (codes "GET") target 1 1))
    (codes "/openurl.txt?a#b" ∷ codes "https://a/report?" ∷ codes "/openurl?url_ver=1" ∷ [])
    ≡ Menu Text (codes "a#b") ∷ Menu Report [] ∷ Menu Html (codes "url_ver=1") ∷ []
page_and_query = refl

-- the pages for a query of any source
source_and_query : map (λ target. head_route (head (codes "HEAD") target 1 1))
    (codes "/read?issn=1" ∷ codes "http://a/menu.json" ∷ codes "/menu.json?a?b" ∷ codes "/read/" ∷ codes "/READ" ∷ codes "/menu" ∷ codes "/menu.json/" ∷ [])
    ≡ Reading (codes "issn=1") ∷ Links [] [] ∷ Links [] (codes "a?b") ∷ NotFound ∷ NotFound ∷ NotFound ∷ NotFound ∷ []
unfolding source_route
source_and_query = refl

further_numbers : map (λ target. head_route (head (codes "GET") target 1 1))
    (codes "/menu.json/2049-3630?a" ∷ codes "/menu.json/2049363X,978-3-16-148410-0,3161484100?a" ∷ codes "/menu.json/2049-3630,2049-3630,2049-3630,2049-3630"
    ∷ codes "/menu.json/2049-363" ∷ codes "/menu.json/2049-3630," ∷ codes "/menu.json/,2049-3630" ∷ codes "/menu.json/2049-363x"
    ∷ codes "/menu.json/2049%2D3630" ∷ codes "/menu.json/2049-3630/" ∷ codes "/read/2049-3630" ∷ [])
    ≡ Links (codes "2049-3630") (codes "a") ∷ Links (codes "2049363X,978-3-16-148410-0,3161484100") (codes "a") ∷ repeat 8 (NotFound ∷ [])
unfolding source_route
further_numbers = refl

-- ---- bytes that are not a head

few_bytes_are_a_bad_request : map route_without_head ([] ∷ codes "GET /openurl HTTP/1.1\r\n" ∷ codes "\r\n\r\n" ∷ [])
    ≡ BadRequest ∷ BadRequest ∷ BadRequest ∷ []
few_bytes_are_a_bad_request = refl

abbrev bytes : ℕ → List ℕ
bytes count = repeat count (codes "x")

open_bytes_up_to_the_limit_are_too_large : map route_without_head (bytes 16383 ∷ bytes 16384 ∷ (bytes 16381 ++ codes "\n\r\n") ∷ [])
    ≡ BadRequest ∷ HeadTooLarge ∷ BadRequest ∷ []
open_bytes_up_to_the_limit_are_too_large = refl
