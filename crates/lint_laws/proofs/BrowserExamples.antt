-- The hosts that browsers have of links, and those that `lint` has, computed. The first two links meet the premises of `browsers_have_plain_hosts`.
use Rattle.std.proofs.Common.{◌≡◌, true, false, List, [], ◌∷◌, ◌++◌, map, refl, ap, codes, length, arith}
use Rattle.text_model.specs.Texts.{Text, is_reserved, is_unreserved}
use Rattle.text_model.specs.UriText.{IsUriText}
use Rattle.text_model.specs.Writing.{written_ur}
use Rattle.text_model.proofs.UriTexts.{written_ur-uri}
use Rattle.menu.specs.WebLink.{is_web_link}
use Rattle.rule_lint.specs.Host.{host_of}
use Rattle.lint_laws.specs.Browsers.{backslash, browsers_host}
use Rattle.lint_laws.specs.RowLinks.{IsPlainHost}

abbrev with_port : Text
with_port = codes "https://e.org:8080/a?b#c"

abbrev without_path : Text
without_path = codes "HTTP://E.org?x"

-- with an empty host, and with a user
abbrev links : List Text
links = with_port ∷ without_path ∷ codes "http:////evil" ∷ codes "http://me@evil:80/x" ∷ []

hosts_of_browsers : map browsers_host links ≡ codes "e.org:8080" ∷ codes "E.org" ∷ codes "evil" ∷ codes "evil:80" ∷ []
hosts_of_browsers = refl

hosts_of_links : map host_of links ≡ codes "e.org:8080" ∷ codes "E.org" ∷ [] ∷ codes "me@evil:80" ∷ []
hosts_of_links = refl

web_links : map is_web_link links ≡ true ∷ true ∷ true ∷ true ∷ []
web_links = refl

uri_texts : IsUriText with_port × IsUriText without_path
unfolding written_ur is_unreserved is_reserved
uri_texts = (written_ur-uri with_port, written_ur-uri without_path)

plain_hosts : IsPlainHost (host_of with_port) × IsPlainHost (host_of without_path)
plain_hosts = (
  record { some = λ none. absurd (omega (arith, ap length none)); no_user = refl },
  record { some = λ none. absurd (omega (arith, ap length none)); no_user = refl },
)

-- ---- links of which each lacks one premise: their hosts are plain, and browsers have others

-- no URI text
abbrev with_backslash : Text
with_backslash = codes "http://e.org" ++ backslash ∷ codes "f.org/"

-- no web link
abbrev without_scheme : Text
without_scheme = codes "//e.org:80/"

abbrev others : List Text
others = with_backslash ∷ without_scheme ∷ []

other_hosts_of_browsers : map browsers_host others ≡ codes "e.org" ∷ codes "80" ∷ []
other_hosts_of_browsers = refl

other_hosts_of_links : map host_of others ≡ (codes "e.org" ++ backslash ∷ codes "f.org") ∷ codes "e.org:80" ∷ []
other_hosts_of_links = refl

other_web_links : map is_web_link others ≡ true ∷ false ∷ []
other_web_links = refl

other_uri_text : IsUriText without_scheme
unfolding written_ur is_unreserved is_reserved
other_uri_text = written_ur-uri without_scheme

other_plain_hosts : IsPlainHost (host_of with_backslash) × IsPlainHost (host_of without_scheme)
other_plain_hosts = (
  record { some = λ none. absurd (omega (arith, ap length none)); no_user = refl },
  record { some = λ none. absurd (omega (arith, ap length none)); no_user = refl },
)
