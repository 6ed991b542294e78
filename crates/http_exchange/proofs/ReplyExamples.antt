-- Replies computed: their bytes are written out here, and the checker compares.
use Rattle.std.proofs.Common.{◌≡◌, ◌++◌, List, true, false, [], ◌∷◌, refl, codes, map}
use Rattle.std.specs.Fmt.{digits}
use Rattle.http_exchange.specs.declared.reply.BodyType.TheVariants as BodyType
use Rattle.http_exchange.specs.Replies.{ReplyValue, plain, printed, unavailable}
use Rattle.menu.specs.Entries.{MenuEntry}
use Rattle.menu.specs.declared.entry.Resolution.TheVariants.{Link}
use Rattle.http_exchange.specs.RouteReplies.{further_numbers, page_text, page_type}
use Rattle.http_request.specs.declared.route.Page.TheVariants.{Html, Text, Report}

-- ---- an allocation failed

out_of_memory : printed unavailable false
    ≡ codes "HTTP/1.1 503 Service Unavailable\r\nContent-Type: text/plain; charset=utf-8\r\nContent-Length: 14\r\nConnection: close\r\n\r\nout of memory\n"
unfolding digits
out_of_memory = refl

out_of_memory_to_head : printed unavailable true
    ≡ codes "HTTP/1.1 503 Service Unavailable\r\nContent-Type: text/plain; charset=utf-8\r\nContent-Length: 14\r\nConnection: close\r\n\r\n"
unfolding digits
out_of_memory_to_head = refl

-- ---- other replies

not_found : printed (plain 404 (codes "not found\n")) false
    ≡ codes "HTTP/1.1 404 Not Found\r\nContent-Type: text/plain; charset=utf-8\r\nContent-Length: 10\r\nConnection: close\r\n\r\nnot found\n"
unfolding digits
not_found = refl

method_not_allowed_names_methods : printed (plain 405 (codes "method not allowed\n")) true
    ≡ codes "HTTP/1.1 405 Method Not Allowed\r\nContent-Type: text/plain; charset=utf-8\r\nContent-Length: 19\r\nConnection: close\r\nAllow: GET, HEAD\r\n\r\n"
unfolding digits
method_not_allowed_names_methods = refl

head_too_large : printed (plain 431 (codes "head too large\n")) false
    ≡ codes "HTTP/1.1 431 Request Header Fields Too Large\r\nContent-Type: text/plain; charset=utf-8\r\nContent-Length: 15\r\n"
    ++ codes "Connection: close\r\n\r\nhead too large\n"
unfolding digits
head_too_large = refl

abbrev page : ReplyValue
page = record { status = 200; body_type = BodyType.Html; body = codes "<p>No links</p>\n" }

page_of_html : printed page false
    ≡ codes "HTTP/1.1 200 OK\r\nContent-Type: text/html; charset=utf-8\r\nContent-Length: 16\r\nConnection: close\r\n\r\n<p>No links</p>\n"
unfolding digits
page_of_html = refl

one_page_is_html : map page_type (Html ∷ Text ∷ Report ∷ []) ≡ BodyType.Html ∷ BodyType.Plain ∷ BodyType.Plain ∷ []
one_page_is_html = refl

json : printed (record { status = 200; body_type = BodyType.Json; body = codes "[]" }) false
    ≡ codes "HTTP/1.1 200 OK\r\nContent-Type: application/json; charset=utf-8\r\nContent-Length: 2\r\nConnection: close\r\n\r\n[]"
unfolding digits
json = refl

no_numbers : further_numbers [] ≡ []
no_numbers = refl

two_numbers : further_numbers (codes "2049-3630,9783161484100") ≡ codes "2049-3630" ∷ codes "9783161484100" ∷ []
two_numbers = refl

-- a target with a link
abbrev entries : List MenuEntry
entries = record { name = codes "alpha"; resolution = Link 1 (codes "http://e.org/b") } ∷ []

texts_of_pages : map (λ page. page_text page entries) (Html ∷ Text ∷ Report ∷ [])
    ≡ codes "<!DOCTYPE html>\n<title>Links</title>\n<ul>\n<li><a href=\"http://e.org/b\">alpha</a></li>\n</ul>\n" ∷ codes "alpha\thttp://e.org/b\n"
    ∷ codes "alpha\tlink 1\n" ∷ []
unfolding digits
texts_of_pages = refl
