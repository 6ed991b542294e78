use Rattle.http_exchange.proofs.menu_page.page_text.Goals as goal

-- the text is that of the page's own call
pub returns-in-Html : goal.returns-in-Html
returns-in-Html c = rw c.in-Html.is assumption

pub returns-in-Text : goal.returns-in-Text
returns-in-Text c = rw c.in-Text.is assumption

pub returns-in-Report : goal.returns-in-Report
returns-in-Report c = rw c.in-Report.is assumption
