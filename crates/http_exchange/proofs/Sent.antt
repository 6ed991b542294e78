-- A reply that was written, completely or in part, as the outcome of an exchange.
use Rattle.std.proofs.Common.{◌≡◌, ℕ, ◌<◌, ◌++◌, Bool, false, List, Result, Ok, Err, length, subst, sym, ap, ◌∙◌}
use Rattle.menu_source.specs.Menus.{Menus}
use Rattle.http_streams.specs.HeadReading.{IsReadWhole}
use Rattle.http_streams.specs.Streams.{InputState, OutputState}
use Rattle.http_streams.specs.declared.read.TheConstants.{MAX_HEAD_BYTES}
use Rattle.http_request.specs.Routes.{IsRouted, RouteValue}
use Rattle.http_exchange.specs.Replies.{ReplyValue, head_of, printed, sent_body, unavailable}
use Rattle.http_exchange.specs.RouteReplies.{IsReplyTo}
use Rattle.http_exchange.specs.Exchange.{IsExchange, IsReply, IsReplyToInput, IsSent, front, no_memory, no_room, request}
use Rattle.http_exchange.specs.declared.exchange.Served.{Served}
use Rattle.http_exchange.specs.declared.exchange.Served.TheVariants.{Nothing, Replied}
use Rattle.http_exchange.specs.declared.exchange.ServeError.{ServeError}
use Rattle.http_exchange.specs.declared.exchange.ServeError.TheVariants.{ReadFault, WriteFault}

-- ---- which reply

-- a head and a body make the whole reply
pub head-body : (reply : ReplyValue) (without_body : Bool) (head body : List ℕ) → head ≡ head_of reply → body ≡ sent_body reply without_body
    → head ++ body ≡ printed reply without_body
head-body reply without_body head body e f = ap (λ (t : List ℕ). t ++ body) e ∙ ap (λ (t : List ℕ). head_of reply ++ t) f

pub reply-front : (menus : Menus) (bytes : List ℕ) (route : RouteValue) (without_body : Bool) (reply : ReplyValue) (status : ℕ) (text : List ℕ)
    → IsRouted bytes route without_body → IsReplyTo menus route reply → status ≡ reply.status → text ≡ printed reply without_body
    → IsReply menus bytes status text
reply-front menus bytes route without_body reply status text routed is e f =
    subst (λ (s : ℕ). IsReply menus bytes s text) (sym e)
    (subst (λ (t : List ℕ). IsReply menus bytes reply.status t) (sym f) (front route without_body reply routed is))

pub reply-no_memory : (menus : Menus) (bytes : List ℕ) (route : RouteValue) (without_body : Bool) (text : List ℕ)
    → IsRouted bytes route without_body → text ≡ printed unavailable without_body → IsReply menus bytes 503 text
reply-no_memory menus bytes route without_body text routed f =
    subst (λ (t : List ℕ). IsReply menus bytes 503 t) (sym f) (no_memory route without_body routed)

pub reply-no_room : (menus : Menus) (old new : InputState) (text : List ℕ)
    → new ≡ old → text ≡ printed unavailable false → IsReplyToInput menus old new 503 text
reply-no_room menus old new text unread f =
    subst (λ (t : List ℕ). IsReplyToInput menus old new 503 t) (sym f) (no_room unread)

-- the bytes that were read are borrowed to make the reply
pub reply-request : (menus : Menus) (old new : InputState) (bytes lent : List ℕ) (status : ℕ) (reply : List ℕ)
    → IsReadWhole MAX_HEAD_BYTES old bytes new → 0 < length bytes → lent ≡ bytes → IsReply menus lent status reply
    → IsReplyToInput menus old new status reply
reply-request menus old new bytes lent status reply whole some same is =
    request bytes status reply whole some (subst (λ (b : List ℕ). IsReply menus b status reply) same is)

-- ---- how much was written

pub exchange-by_sent : (menus : Menus) (old new : InputState) (before after : OutputState) (status : ℕ) (reply : List ℕ)
    (result : Result Served ServeError)
    → IsReplyToInput menus old new status reply → IsSent before status reply result after → IsExchange menus old before result new after
exchange-by_sent menus old new before after status reply (Ok Nothing) to sent = absurd sent
exchange-by_sent menus old new before after status reply (Ok (Replied named)) to sent =
    (reply, subst (λ (s : ℕ). IsReplyToInput menus old new s reply) (sym sent.0) to, sent.1)
exchange-by_sent menus old new before after status reply (Err ReadFault) to sent = absurd sent
exchange-by_sent menus old new before after status reply (Err (WriteFault n)) to sent = (status, reply, to, sent.0, sent.1)
