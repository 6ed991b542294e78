-- Targets computed: the path, the query and the page of each are written out here, and the checker compares.
use Rattle.std.proofs.Common.{◌≡◌, ℕ, List, [], ◌∷◌, Some, None, refl, codes, map}
use Rattle.http_request.specs.Target.{page_of, path_of, query_of, resource_of}
use Rattle.http_request.specs.declared.route.Page.TheVariants.{Html, Text, Report}

-- ---- path and query

abbrev path_and_query : List ℕ → List ℕ × List ℕ
path_and_query resource = (path_of resource, query_of resource)

first_question_mark_ends_the_path : map path_and_query (codes "/openurl.txt?a#b" ∷ codes "/openurl??a=b?c" ∷ codes "/openurl?" ∷ codes "/openurl#?a" ∷ [])
    ≡ (codes "/openurl.txt", codes "a#b") ∷ (codes "/openurl", codes "?a=b?c") ∷ (codes "/openurl", []) ∷ (codes "/openurl#", codes "a") ∷ []
first_question_mark_ends_the_path = refl

without_question_mark_there_is_no_query : map path_and_query (codes "/openurl&a=b" ∷ [] ∷ []) ≡ (codes "/openurl&a=b", []) ∷ ([], []) ∷ []
without_question_mark_there_is_no_query = refl

nothing_is_decoded : map path_and_query (codes "/openurl%3Fa" ∷ codes "/openurl?a%3F+b" ∷ [])
    ≡ (codes "/openurl%3Fa", []) ∷ (codes "/openurl", codes "a%3F+b") ∷ []
nothing_is_decoded = refl

-- ---- pages

three_paths_are_pages : map page_of (codes "/openurl" ∷ codes "/openurl.txt" ∷ codes "/report" ∷ []) ≡ Some Html ∷ Some Text ∷ Some Report ∷ []
three_paths_are_pages = refl

abbrev other_paths : List (List ℕ)
other_paths =
    codes "/openurl.html" ∷ codes "/openurl.txt/" ∷ codes "/report.txt" ∷ codes "/openurl/" ∷ codes "//openurl" ∷ codes "/report/" ∷ codes "/OpenURL"
    ∷ codes "/openurl.TXT" ∷ codes "/%6fpenurl" ∷ codes "/openur" ∷ codes "/openurls" ∷ codes "openurl" ∷ codes "/openurl#" ∷ codes "/" ∷ [] ∷ []

other_paths_are_none : map page_of other_paths ≡ None ∷ None ∷ None ∷ None ∷ None ∷ None ∷ None ∷ None ∷ None ∷ None ∷ None ∷ None ∷ None ∷ None ∷ None ∷ []
other_paths_are_none = refl

-- ---- forms of a target

origin_form_begins_with_a_slash : map resource_of (codes "/openurl?a" ∷ codes "//a/openurl" ∷ codes "/" ∷ [])
    ≡ Some (codes "/openurl?a") ∷ Some (codes "//a/openurl") ∷ Some (codes "/") ∷ []
origin_form_begins_with_a_slash = refl

-- the scheme is in either case, and the authority may have a port
absolute_form_has_an_authority : map resource_of (codes "http://a/openurl?b" ∷ codes "hTTpS://a:80/report" ∷ codes "HTTP://[::1]?b/c" ∷ codes "http://a" ∷ [])
    ≡ Some (codes "/openurl?b") ∷ Some (codes "/report") ∷ Some (codes "?b/c") ∷ Some [] ∷ []
absolute_form_has_an_authority = refl

abbrev other_forms : List (List ℕ)
other_forms =
    codes "http:///openurl" ∷ codes "https://?a" ∷ codes "http://" ∷ codes "http:/a/openurl" ∷ codes "http" ∷ codes "ftp://a/openurl" ∷ codes "*"
    ∷ codes "a:80" ∷ codes "?a" ∷ [] ∷ []

other_forms_have_no_resource : map resource_of other_forms ≡ None ∷ None ∷ None ∷ None ∷ None ∷ None ∷ None ∷ None ∷ None ∷ None ∷ []
other_forms_have_no_resource = refl
