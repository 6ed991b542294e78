-- The definitions computed: the texts of small menus are written out here, and the checker compares.
use Rattle.std.proofs.Common.{◌≡◌, ℕ, true, false, not, List, [], ◌∷◌, ◌++◌, length, refl, codes, arith, lit<, lit≤}
use Rattle.std.specs.Prelude.{map, replicate}
use Rattle.std.specs.List.{filter, range_with_len}
use Rattle.std.specs.Str.{bytes_eq}
use Rattle.std.specs.Fmt.{digits}
use Rattle.text_model.specs.Texts.{Text}
use Rattle.text_model.proofs.Lists.{All-from_list_all}
use Rattle.menu.specs.Entries.{MenuEntry}
use Rattle.menu.specs.declared.entry.Resolution.{Resolution}
use Rattle.menu.specs.declared.entry.Resolution.TheVariants as resolution
use Rattle.menu.specs.Links.{links, is_link, is_empty}
use Rattle.menu.specs.Escaping.{escaped}
use Rattle.menu.specs.Printed.{text, report, html}
use Rattle.menu.specs.WebLink.{is_web_link}
use Rattle.menu.specs.Contained.{is_target_name_character, is_markup, IsTargetName}

-- ---- menus

abbrev pub all_bytes : List ℕ
all_bytes = range_with_len 0 256

abbrev pub entry : Text → Resolution → MenuEntry
entry name resolution = record { name = name; resolution = resolution }

abbrev pub alpha : MenuEntry
alpha = entry (codes "alpha") (resolution.Link 1 (codes "http://e.org/b"))

-- one link, and a target without one
abbrev pub one_link : List MenuEntry
one_link = alpha ∷ entry (codes "beta") resolution.NotAWebLink ∷ []

abbrev pub no_link : List MenuEntry
no_link = entry (codes "alpha") resolution.NoRow ∷ entry (codes "beta") resolution.NoRow ∷ []

-- rows count from 0, and the order is that of the targets
abbrev two_links : List MenuEntry
two_links =
    entry (codes "b") (resolution.Link 0 (codes "http://e.org/2")) ∷ entry (codes "c") resolution.NoLink
    ∷ entry (codes "a") (resolution.Link 7 (codes "https://e.org/?x=1&y='2'")) ∷ []

links_of_two : links two_links
    ≡ record { name = codes "b"; link = codes "http://e.org/2" } ∷ record { name = codes "a"; link = codes "https://e.org/?x=1&y='2'" } ∷ []
links_of_two = refl

html_of_two : html two_links
    ≡ codes "<!DOCTYPE html>\n<title>Links</title>\n<ul>\n<li><a href=\"http://e.org/2\">b</a></li>\n"
    ++ codes "<li><a href=\"https://e.org/?x=1&amp;y=&#39;2&#39;\">a</a></li>\n</ul>\n"
html_of_two = refl

text_of_two : text two_links ≡ codes "b\thttp://e.org/2\na\thttps://e.org/?x=1&y='2'\n"
text_of_two = refl

report_of_two : report two_links ≡ codes "b\tlink 0\nc\tno link\na\tlink 7\n"
unfolding digits
report_of_two = refl

text_of_one : text one_link ≡ codes "alpha\thttp://e.org/b\n"
text_of_one = refl

report_of_one : report one_link ≡ codes "alpha\tlink 1\nbeta\tnot a web link\n"
unfolding digits
report_of_one = refl

html_of_one : html one_link ≡ codes "<!DOCTYPE html>\n<title>Links</title>\n<ul>\n<li><a href=\"http://e.org/b\">alpha</a></li>\n</ul>\n"
html_of_one = refl

bytes_of_one : length (html one_link) ≡ 92
bytes_of_one = refl

text_of_none : text no_link ≡ []
text_of_none = refl

report_of_none : report no_link ≡ codes "alpha\tno row\nbeta\tno row\n"
report_of_none = refl

html_of_none : html no_link ≡ codes "<!DOCTYPE html>\n<title>Links</title>\n<p>No links</p>\n"
html_of_none = refl

bytes_of_none : length (html no_link) ≡ 53
bytes_of_none = refl

-- a registry without targets
texts_without_targets : map (λ print. print []) (text ∷ report ∷ html ∷ []) ≡ [] ∷ [] ∷ codes "<!DOCTYPE html>\n<title>Links</title>\n<p>No links</p>\n" ∷ []
texts_without_targets = refl

other_resolutions : report (entry (codes "delta") (resolution.OverBudget 1202100) ∷ entry (codes "gamma") resolution.NoLink ∷ [])
    ≡ codes "delta\tover budget 1202100\ngamma\tno link\n"
unfolding digits
other_resolutions = refl

empty_menus : map is_empty (one_link ∷ no_link ∷ (entry (codes "delta") (resolution.OverBudget 1202100) ∷ []) ∷ [] ∷ []) ≡ false ∷ true ∷ true ∷ true ∷ []
empty_menus = refl

-- a resolution of each kind
abbrev each_resolution : List Resolution
each_resolution = resolution.Link 0 (codes "http://e.org") ∷ resolution.NoRow ∷ resolution.NoLink ∷ resolution.NotAWebLink ∷ resolution.OverBudget 1202100 ∷ []

resolutions_with_links : map is_link each_resolution ≡ true ∷ false ∷ false ∷ false ∷ false ∷ []
resolutions_with_links = refl

menus_without_links : map (λ resolution. is_empty (entry (codes "a") resolution ∷ [])) each_resolution ≡ false ∷ true ∷ true ∷ true ∷ true ∷ []
menus_without_links = refl

-- ---- links

written_links : map escaped (codes "http://e.org/?a=1&b='c'" ∷ codes "&amp;" ∷ [] ∷ []) ≡ codes "http://e.org/?a=1&amp;b=&#39;c&#39;" ∷ codes
    "&amp;amp;" ∷ [] ∷ []
written_links = refl

-- the bytes that are escaped
escaped_bytes : filter (λ b. not (bytes_eq (escaped (b ∷ [])) (b ∷ []))) all_bytes ≡ codes "&'"
escaped_bytes = refl

web_links : map is_web_link (codes "http://e.org/b" ∷ codes "HTTPS://x" ∷ codes "http://" ∷ codes "hTTp://x" ∷ codes "HTTP://" ∷ codes "hTTps://x" ∷ [])
    ≡ true ∷ true ∷ true ∷ true ∷ true ∷ true ∷ []
web_links = refl

other_links : map is_web_link (codes "" ∷ codes "httpx://" ∷ codes "javascript:x" ∷ codes "http:/e" ∷ codes " http://e" ∷ [])
    ≡ false ∷ false ∷ false ∷ false ∷ false ∷ []
other_links = refl

-- a reference without a scheme, and a scheme without `//`
relative_links : map is_web_link (codes "//e.org" ∷ codes "/" ∷ codes "e.org" ∷ []) ≡ false ∷ false ∷ false ∷ []
relative_links = refl

schemes_alone : map is_web_link (codes "http:" ∷ codes "https:" ∷ codes "http:e" ∷ codes "https:e" ∷ codes "https:/" ∷ [])
    ≡ false ∷ false ∷ false ∷ false ∷ false ∷ []
schemes_alone = refl

-- ---- names of targets

name_characters : filter is_target_name_character all_bytes ≡ codes "-.0123456789ABCDEFGHIJKLMNOPQRSTUVWXYZ_abcdefghijklmnopqrstuvwxyz"
name_characters = refl

markup : filter is_markup all_bytes ≡ codes "\"&'<>"
markup = refl

one_character : IsTargetName (codes "a")
one_character = record { some = lit≤ tt; few = lit≤ tt; characters = All-from_list_all is_target_name_character (codes "a") refl }

longest_name : IsTargetName (replicate 64 0x61)
longest_name = record { some = lit≤ tt; few = lit≤ tt; characters = All-from_list_all is_target_name_character (replicate 64 0x61) refl }

too_long_name : IsTargetName (replicate 65 0x61) → ⊥
too_long_name h = omega (arith, h.few)

no_name : IsTargetName [] → ⊥
no_name h = omega (arith, h.some)

name_with_colon : IsTargetName (codes "a:b") → ⊥
name_with_colon h = absurd (cc (h.characters 1 0 (lit< tt)))
