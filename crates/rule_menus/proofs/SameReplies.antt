-- Registries with the same menus have the same replies.
use Rattle.std.proofs.Common.{◌≡◌, ℕ, List, Bool, None, refl, sym, ap, ◌∙◌, subst, arith}
use Rattle.std.proofs.lemmas.Grind.{common_steps}
use Rattle.kev_read.specs.Pairs.{KeyValue, pairs_of}
use Rattle.kev_read.specs.Refusal.{refusal}
use Rattle.menu.specs.Entries.{MenuEntry}
use Rattle.menu_source.specs.Menus.{Menus}
use Rattle.registry.specs.Targets.{TargetValue}
use Rattle.registry.specs.Entries.{menu_of}
use Rattle.http_request.specs.declared.route.Page.{Page}
use Rattle.http_request.specs.Routes.{IsRouted, RouteValue}
use Rattle.http_request.specs.Routes as route
use Rattle.http_exchange.specs.Exchange.{IsReply, front, no_memory}
use Rattle.http_exchange.specs.Replies.{ReplyValue, printed, unavailable}
use Rattle.http_exchange.specs.RouteReplies.{IsQueryReply, IsReplyTo, page_text, page_type}
use Rattle.rule_menus.specs.Replies.{HasReply}

-- a request has one route, and its reply has a body or none
abbrev pub HasOneRoute : Type 0
HasOneRoute = (bytes : List ℕ) (r other : RouteValue) (without_body other_only : Bool)
    → IsRouted bytes r without_body → IsRouted bytes other other_only → (r ≡ other) × (without_body ≡ other_only)

-- the parts of a reply other than the one for a failed allocation
pub record IsReplyOf (targets : List TargetValue) (bytes : List ℕ) (status : ℕ) (reply : List ℕ) : Type 0 where
  pub at : RouteValue
  pub without_body : Bool
  pub value : ReplyValue
  pub routed : IsRouted bytes at without_body
  pub replies : IsReplyTo (menu_of targets) at value
  pub status_is : status ≡ value.status
  pub reply_is : reply ≡ printed value without_body

abbrev page_of : Page → List MenuEntry → ReplyValue
page_of page entries = record { status = 200; body_type = page_type page; body = page_text page entries }

reply_parts : (targets : List TargetValue) (bytes : List ℕ) (status : ℕ) (reply : List ℕ) → IsReply (menu_of targets) bytes status reply
    → (status ≡ unavailable.status → ⊥) → IsReplyOf targets bytes status reply
reply_parts targets bytes _ _ (front at without_body value routed replies) other =
    record { at = at; without_body = without_body; value = value; routed = routed; replies = replies; status_is = refl; reply_is = refl }
reply_parts targets bytes _ _ (no_memory at without_body routed) other = absurd (other refl)

-- the same menus have the same replies
abbrev pub RepliesFollow : Type 0
RepliesFollow = (menus others : Menus) (at : RouteValue) (reply : ReplyValue) → ((pairs : List KeyValue) → menus pairs ≡ others pairs)
    → IsReplyTo menus at reply → IsReplyTo others at reply

-- a route has one reply
one_value : (menus : Menus) (at : RouteValue) (a b : ReplyValue) → IsReplyTo menus at a → IsReplyTo menus at b → a ≡ b
one_value menus at a b x y = grind (arith, common_steps)

module _ (follow : RepliesFollow) (targets others : List TargetValue) (same : (pairs : List KeyValue) → menu_of targets pairs ≡ menu_of others pairs) where
  same_value : (at : RouteValue) (a b : ReplyValue) → IsReplyTo (menu_of targets) at a → IsReplyTo (menu_of others) at b → a ≡ b
  same_value at a b x y = one_value (menu_of others) at a b (follow (menu_of targets) (menu_of others) at a same x) y

  module _ (one_route : HasOneRoute) (bytes : List ℕ) where
    pub same_reply : (status other : ℕ) (reply another : List ℕ) → HasReply targets bytes status reply → HasReply others bytes other another
        → (status ≡ other) × (reply ≡ another)
    same_reply status other reply another a b =
        let x = reply_parts targets bytes status reply a.replies a.no_failure in
        let y = reply_parts others bytes other another b.replies b.no_failure in
        let routes = one_route bytes x.at y.at x.without_body y.without_body x.routed y.routed in
        let there : IsReplyTo (menu_of others) x.at y.value = subst (λ at. IsReplyTo (menu_of others) at y.value) (sym routes.0) y.replies in
        let value : x.value ≡ y.value = same_value x.at x.value y.value x.replies there in (
          x.status_is ∙ ap (λ (v : ReplyValue). v.status) value ∙ sym y.status_is,
          x.reply_is ∙ ap (λ (v : ReplyValue). printed v x.without_body) value ∙ ap (printed y.value) routes.1 ∙ sym y.reply_is,
        )

-- the reply to a request for a page is this one, unless it is the one for a failed allocation
module _ (one_route : HasOneRoute) (targets : List TargetValue) (bytes : List ℕ) where
  pub reply_is_page : (page : Page) (query : List ℕ) (without_body : Bool) (entries : List MenuEntry) (status : ℕ) (reply : List ℕ)
      → menu_of targets (pairs_of query) ≡ entries → IsRouted bytes (route.Menu page query) without_body → refusal query ≡ None
      → HasReply targets bytes status reply
      → (status ≡ 200) × (reply ≡ printed (page_of page entries) without_body)
  reply_is_page page query without_body entries status reply meant routed accepted h =
      let x = reply_parts targets bytes status reply h.replies h.no_failure in
      let routes = one_route bytes x.at (route.Menu page query) x.without_body without_body x.routed routed in
      let there : IsReplyTo (menu_of targets) (route.Menu page query) x.value = subst (λ at. IsReplyTo (menu_of targets) at x.value) routes.0 x.replies in
      let answer : IsQueryReply (menu_of targets) page query None x.value = subst (λ f. IsQueryReply (menu_of targets) page query f x.value) accepted there in
      let value = answer ∙ ap (page_of page) meant in (
        x.status_is ∙ ap (λ (v : ReplyValue). v.status) value,
        x.reply_is ∙ ap (λ (v : ReplyValue). printed v x.without_body) value
            ∙ ap (printed (page_of page entries)) routes.1,
      )
