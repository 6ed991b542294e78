-- Two readings of the same bytes have the same route, and get the same reply.
use Rattle.std.proofs.Common.{◌≡◌, ◌≢◌, ℕ, ◌<◌, ◌≤◌, ◌⊎◌, inl, inr, Bool, true, false, ◌&&◌, not, List, [], ◌++◌, Option, Some, None, length, refl, sym, ap}
use Rattle.std.proofs.Common.{◌∙◌, subst, arith}
use Rattle.std.specs.Prelude.{◌==◌, if◌then◌else◌}
use Rattle.std.proofs.lemmas.Bool.{cases_lt}
use Rattle.std.proofs.lemmas.List.{length-append}
use Rattle.std.proofs.lemmas.Option.{same_Some}
use Rattle.httparse.specs.Grammar.{ReadsRequest, RequestHead, print_request}
use Rattle.kev_read.specs.Refusal.{refusal}
use Rattle.kev_read.specs.declared.error.KevError.{KevError}
use Rattle.kev_read.specs.declared.error.KevError.TheVariants as kev
use Rattle.menu_source.specs.Menus.{Menus}
use Rattle.http_streams.specs.Closing.{is_closed}
use Rattle.http_streams.specs.Streams.{InputState, Writes}
use Rattle.http_streams.specs.declared.read.TheConstants.{MAX_HEAD_BYTES}
use Rattle.http_request.specs.HeadEnd.{IsFirstClosedAt}
use Rattle.http_request.specs.Routes.{IsHeadOf, IsRouted, RouteValue, by_head, without_head, route_without_head}
use Rattle.http_request.specs.Routes as route
use Rattle.http_exchange.specs.Exchange.{IsReply, IsReplyToInput, front, no_memory, no_room, request}
use Rattle.http_exchange.specs.Replies.{ReplyValue, printed, unavailable}
use Rattle.http_exchange.specs.RouteReplies.{IsQueryReply, IsReplyTo}
use Rattle.reply_laws.specs.Peers.{Gets}
use Rattle.reply_laws.proofs.ClosedHeads.{closed_more}
use Rattle.reply_laws.proofs.OneEnd.{IsFurther, IsPart, beginning, further, is_further, no_further, not_later, part_of}

-- the laws of lower crates
pub record LawsOfRoutes : Type 0 where
  pub one_route : (bytes : List ℕ) (r other : RouteValue) (without_body other_only : Bool) → IsRouted bytes r without_body → IsRouted bytes other other_only
      → (r ≡ other) × (without_body ≡ other_only)
  pub ignored : (bytes more : List ℕ) (head : RequestHead) → IsHeadOf bytes head → IsHeadOf (bytes ++ more) head
  pub ends : (bytes rest : List ℕ) (head : RequestHead) → ReadsRequest bytes head rest → IsFirstClosedAt bytes (length (print_request head))

-- ---- routes

module _ (laws : LawsOfRoutes) where
  -- a head that more bytes begin with is within the bytes that close it
  head_within : (bytes more : List ℕ) (head : RequestHead) → is_closed bytes ≡ true → IsHeadOf (bytes ++ more) head → IsHeadOf bytes head
  head_within bytes more head closed h =
      let short = not_later bytes more closed (length (print_request head)) (laws.ends (bytes ++ more) h.rest head h.reads) in
      let rest = beginning (print_request head) h.rest bytes more (sym h.reads.1) short in
      record { rest = rest.0; reads = (h.reads.0, rest.1); fields = h.fields }

  no_head : (bytes : List ℕ) → is_closed bytes ≡ true → route_without_head bytes ≡ route.BadRequest
  no_head bytes closed = ap (λ (c : Bool). if (length bytes == MAX_HEAD_BYTES) && not c then route.HeadTooLarge else route.BadRequest) closed
      ∙ by_test (length bytes == MAX_HEAD_BYTES)
    where
      by_test : (b : Bool) → (if b && not true then route.HeadTooLarge else route.BadRequest) ≡ route.BadRequest
      by_test true = refl
      by_test false = refl

  pub routed_further : (bytes more : List ℕ) (at : RouteValue) (without_body : Bool) → is_closed bytes ≡ true → IsRouted bytes at without_body
      → IsRouted (bytes ++ more) at without_body
  routed_further bytes more _ _ closed (by_head head h) = by_head head (laws.ignored bytes more head h)
  routed_further bytes more _ _ closed (without_head none) =
      subst (λ (r : RouteValue). IsRouted (bytes ++ more) r false) (no_head (bytes ++ more) (closed_more bytes more closed) ∙ sym (no_head bytes closed))
      (without_head (λ head h. none head (head_within bytes more head closed h)))

  routes_meet : (bytes others : List ℕ) (at other : RouteValue) (without_body other_only : Bool) → IsFurther bytes others → IsRouted bytes at without_body
      → IsRouted others other other_only → (at ≡ other) × (without_body ≡ other_only)
  routes_meet bytes others at other without_body other_only (no_further same) a b =
      laws.one_route others at other without_body other_only (subst (λ (bytes : List ℕ). IsRouted bytes at without_body) same a) b
  routes_meet bytes others at other without_body other_only (further more is closed) a b =
      laws.one_route others at other without_body other_only
      (subst (λ (bytes : List ℕ). IsRouted bytes at without_body) (sym is) (routed_further bytes more at without_body closed a)) b

  pub same_route : (sent bytes others : List ℕ) (at other : RouteValue) (without_body other_only : Bool) → IsPart sent bytes → IsPart sent others
      → IsRouted bytes at without_body → IsRouted others other other_only → (at ≡ other) × (without_body ≡ other_only)
  same_route sent bytes others at other without_body other_only x y a b = by_length (cases_lt (length others) (length bytes))
    where
      by_length : (length others < length bytes) ⊎ (length bytes ≤ length others) → (at ≡ other) × (without_body ≡ other_only)
      by_length (inr longer) = routes_meet bytes others at other without_body other_only (is_further sent bytes others x y longer) a b
      by_length (inl shorter) =
          let same = routes_meet others bytes other at other_only without_body (is_further sent others bytes y x (omega (arith, shorter))) b a in
          (sym same.0, sym same.1)

-- ---- replies

-- a route has one reply
pub one_value : (menus : Menus) (at : RouteValue) (a b : ReplyValue) → IsReplyTo menus at a → IsReplyTo menus at b → a ≡ b
one_value menus (route.Menu page query) a b x y = by_refusal (refusal query) x y
  where
    by_refusal : (f : Option KevError) → IsQueryReply menus page query f a → IsQueryReply menus page query f b → a ≡ b
    by_refusal None x y = x ∙ sym y
    by_refusal (Some kev.TooManyPairs) x y = x ∙ sym y
    by_refusal (Some kev.WrongVersion) x y = x ∙ sym y
    by_refusal (Some kev.TooLong) x y = absurd x
    by_refusal (Some kev.NoMemory) x y = absurd x
one_value menus (route.Reading query) a b x y = x ∙ sym y
one_value menus (route.Links numbers query) a b x y = x ∙ sym y
one_value menus route.NotFound a b x y = x ∙ sym y
one_value menus route.MethodNotAllowed a b x y = x ∙ sym y
one_value menus route.BadRequest a b x y = x ∙ sym y
one_value menus route.HeadTooLarge a b x y = x ∙ sym y

-- the parts of a reply other than the one for a failed allocation
pub record IsAnswered (menus : Menus) (sent : List ℕ) (status : ℕ) (reply : List ℕ) : Type 0 where
  pub bytes : List ℕ
  pub part : IsPart sent bytes
  pub at : RouteValue
  pub without_body : Bool
  pub value : ReplyValue
  pub routed : IsRouted bytes at without_body
  pub replied : IsReply menus bytes status reply
  pub replies : IsReplyTo menus at value
  pub status_is : status ≡ value.status
  pub reply_is : reply ≡ printed value without_body

by_route : (menus : Menus) (sent bytes : List ℕ) (status : ℕ) (reply : List ℕ) → IsPart sent bytes → status ≢ unavailable.status
    → IsReply menus bytes status reply → IsAnswered menus sent status reply
by_route menus sent bytes _ _ part other (front at without_body value routed replies) =
    record {
      bytes = bytes;
      part = part;
      at = at;
      without_body = without_body;
      value = value;
      routed = routed;
      replied = front at without_body value routed replies;
      replies = replies;
      status_is = refl;
      reply_is = refl;
    }
by_route menus sent bytes _ _ part other (no_memory at without_body routed) = absurd (other refl)

by_input : (menus : Menus) (sent : List ℕ) (first last : InputState) (status : ℕ) (reply : List ℕ) → first.left ≡ Some sent
    → status ≢ unavailable.status → IsReplyToInput menus first last status reply → IsAnswered menus sent status reply
by_input menus sent first last _ _ peer other (request bytes status reply read some replies) =
    by_route menus sent bytes status reply (part_of sent bytes (record { first = first; last = last; peer = peer; read = read })) other replies
by_input menus sent first last _ _ peer other (no_room same) = absurd (other refl)

-- what was written to a blank output is all that is there
pub all_written : (old new : Option (List ℕ)) (bytes reply : List ℕ) → old ≡ Some [] → new ≡ Some reply → Writes old bytes new → bytes ≡ reply
all_written None new bytes reply blank is writes = absurd (cc)
all_written (Some old) None bytes reply blank is writes = absurd writes
all_written (Some old) (Some new) bytes reply blank is writes =
    let none = same_Some old [] blank in
    let all = same_Some new reply is in
    sym (sym all ∙ writes ∙ ap (λ (front : List ℕ). front ++ bytes) none)

pub answered : (menus : Menus) (sent : List ℕ) (status : ℕ) (reply : List ℕ) → status ≢ unavailable.status → Gets menus sent status reply
    → IsAnswered menus sent status reply
answered menus sent status reply other h =
    let whole = all_written h.before.written h.after.written h.exchange.0 reply h.blank h.written h.exchange.2.written in
    subst (IsAnswered menus sent status) whole (by_input menus sent h.first h.last status h.exchange.0 h.peer other h.exchange.1)

pub one_reply : LawsOfRoutes → (menus : Menus) (sent : List ℕ) (status other : ℕ) (reply another : List ℕ) → Gets menus sent status reply
    → Gets menus sent other another → status ≢ unavailable.status → other ≢ unavailable.status
    → (status ≡ other) × (reply ≡ another)
one_reply laws menus sent status other reply another g h no_failure none_either =
    let x = answered menus sent status reply no_failure g in
    let y = answered menus sent other another none_either h in
    let routes = same_route laws sent x.bytes y.bytes x.at y.at x.without_body y.without_body x.part y.part x.routed y.routed in
    let there : IsReplyTo menus x.at y.value = subst (λ (at : RouteValue). IsReplyTo menus at y.value) (sym routes.0) y.replies in
    let value : x.value ≡ y.value = one_value menus x.at x.value y.value x.replies there in (
      x.status_is ∙ ap (λ (v : ReplyValue). v.status) value ∙ sym y.status_is,
      x.reply_is ∙ ap (λ (v : ReplyValue). printed v x.without_body) value ∙ ap (printed y.value) routes.1 ∙ sym y.reply_is,
    )

-- ---- a peer that sends nothing

of_nothing : (menus : Menus) (first last : InputState) (status : ℕ) (reply : List ℕ) → first.left ≡ Some [] → IsReplyToInput menus first last status reply
    → status ≡ unavailable.status
of_nothing menus first last _ _ peer (no_room same) = refl
of_nothing menus first last _ _ peer (request bytes status reply read some replies) =
    let part = part_of [] bytes (record { first = first; last = last; peer = peer; read = read }) in
    let long = ap length part.whole ∙ length-append bytes part.rest in
    absurd (omega (arith, long, some))

pub nothing_sent : (menus : Menus) (status : ℕ) (reply : List ℕ) → Gets menus [] status reply → status ≡ unavailable.status
nothing_sent menus status reply h = of_nothing menus h.first h.last status h.exchange.0 h.peer h.exchange.1
