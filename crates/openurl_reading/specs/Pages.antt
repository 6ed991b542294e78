-- The pages of a request: the first one leads `rft.spage`, the last one `rft.epage`.
use Rattle.std.specs.Prelude.{List, [], ◌∷◌, codes, nat_le, length, Option, None, if◌then◌else◌}
use Rattle.std.specs.Option.{option_and_then, option_map, option_or}
use Rattle.text_model.specs.Texts.{Text}
use Rattle.kev_read.specs.Pairs.{KeyValue, all_of, first_of}
use Rattle.article_places.specs.Pages.{Range, pages_in}
use Rattle.openurl_reading.specs.ArticleNumbers.{article_in, is_article}
use Rattle.openurl_reading.specs.Steps.{Step}
use Rattle.openurl_reading.specs.Values.{most_bytes, in_ascii, led}

-- the pages in a text; a longer one is not read, since a part of it might end within a page
abbrev pub pages_of : Text → Option Range
pages_of text = if nat_le (length text) most_bytes then pages_in text else None

-- the pages in a value
abbrev pub read_pages : Text → Option Range
read_pages value = pages_of (in_ascii value)

-- the first page, the last page of a range, and where the pages end
abbrev pub first_in : Text → Option Text
first_in value = option_map (λ pages. pages.first) (read_pages value)

abbrev pub last_in : Text → Option Text
last_in value = option_and_then (λ pages. pages.last) (read_pages value)

abbrev pub end_in : Text → Option Text
end_in value = option_or (last_in value) (first_in value)

-- what is read in the first value of a key
abbrev pub page_under : (Text → Option Text) → List KeyValue → Text → Option Text
page_under read pairs key = option_and_then read (first_of pairs key)

-- the number of an article
abbrev pub article : List KeyValue → Option Text
article pairs = page_under article_in pairs (codes "rft.artnum")

-- the number of the article under `rft.spage` is no range, but the page
abbrev pub first_among : Option Text → Option Text → Option Text → Option Text → Option Text
first_among number value own other = if is_article number value then number else option_or own (option_or other number)

abbrev pub end_among : Option Text → Option Text → Option Text → Option Text
end_among number value own = if is_article number value then None else own

-- the first page is that of `rft.spage`, or else that of `rft.pages`, or else the number of the article
abbrev pub first_page : List KeyValue → Option Text
first_page pairs =
    first_among (article pairs) (first_of pairs (codes "rft.spage")) (page_under first_in pairs (codes "rft.spage"))
    (page_under first_in pairs (codes "rft.pages"))

-- without a value of its own, the last page is that of a range under `rft.spage`
abbrev pub last_among : List Text → Option Text → Option Text
last_among [] last = last
last_among (value ∷ values) last = end_in value

abbrev pub last_page : List KeyValue → Option Text
last_page pairs =
    last_among (all_of pairs (codes "rft.epage"))
    (end_among (article pairs) (first_of pairs (codes "rft.spage")) (page_under last_in pairs (codes "rft.spage")))

abbrev pub last_page_step : Step
last_page_step = record { key = codes "rft.epage"; change = λ pairs. led (last_page pairs) (first_of pairs (codes "rft.epage")) }

abbrev pub first_page_step : Step
first_page_step = record { key = codes "rft.spage"; change = λ pairs. led (first_page pairs) (first_of pairs (codes "rft.spage")) }

-- the last page is read before the first one takes the place of its range
abbrev pub page_steps : List Step
page_steps = last_page_step ∷ first_page_step ∷ []
