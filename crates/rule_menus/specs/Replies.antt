-- The reply of the HTTP front with a page of the menu that rules give.
use Rattle.std.specs.Prelude.{◌≢◌, ℕ, List}
use Rattle.kev_read.specs.Pairs.{KeyValue}
use Rattle.registry.specs.Targets.{TargetValue}
use Rattle.registry.specs.Entries.{menu_of}
use Rattle.http_request.specs.declared.route.Page.{Page}
use Rattle.http_exchange.specs.Exchange.{IsReply}
use Rattle.http_exchange.specs.Replies.{ReplyValue, unavailable}
use Rattle.http_exchange.specs.RouteReplies.{page_text, page_type}
use Rattle.rule_menus.specs.RuleMenus.{RuleTarget, menu_by_rules}

-- a registry gives the reply to the bytes of a request, and it is not the reply for a failed allocation
pub record HasReply (targets : List TargetValue) (request : List ℕ) (status : ℕ) (reply : List ℕ) : Type 0 where
  pub replies : IsReply (menu_of targets) request status reply
  pub no_failure : status ≢ unavailable.status

-- the page of the menu that the rules of targets give for a request
abbrev pub page_by_rules : List RuleTarget → Page → List KeyValue → ReplyValue
page_by_rules targets page pairs =
    record { status = 200; body_type = page_type page; body = page_text page (menu_by_rules targets pairs) }
