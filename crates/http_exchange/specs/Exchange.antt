-- One exchange: what was read, and what was written.
use Rattle.std.specs.Prelude.{◌≡◌, ℕ, ◌<◌, Bool, false, List, [], Result, Ok, Err, length, take}
use Rattle.menu_source.specs.Menus.{Menus}
use Rattle.http_streams.specs.HeadReading.{IsReadWhole, IsReadInPart}
use Rattle.http_streams.specs.Streams.{InputState, OutputState, Sends, SendsInPart}
use Rattle.http_streams.specs.declared.read.TheConstants.{MAX_HEAD_BYTES}
use Rattle.http_request.specs.Routes.{RouteValue, IsRouted}
use Rattle.http_exchange.specs.Replies.{ReplyValue, printed, unavailable}
use Rattle.http_exchange.specs.RouteReplies.{IsReplyTo}
use Rattle.http_exchange.specs.declared.exchange.Served.{Served}
use Rattle.http_exchange.specs.declared.exchange.Served.TheVariants.{Nothing, Replied}
use Rattle.http_exchange.specs.declared.exchange.ServeError.{ServeError}
use Rattle.http_exchange.specs.declared.exchange.ServeError.TheVariants.{ReadFault, WriteFault}

-- ---- the reply

-- the status and the bytes of a reply to the bytes of a request: of the reply for its route, or of the one for a failed allocation
pub data IsReply (menus : Menus) (bytes : List ℕ) : ℕ → List ℕ → Type 0 where
  front : (route : RouteValue) (without_body : Bool) (reply : ReplyValue) → IsRouted bytes route without_body → IsReplyTo menus route reply
      → IsReply menus bytes reply.status (printed reply without_body)
  no_memory : (route : RouteValue) (without_body : Bool) → IsRouted bytes route without_body
      → IsReply menus bytes unavailable.status (printed unavailable without_body)

-- the same for the bytes that were read; if the buffer could not be allocated, nothing was read
pub data IsReplyToInput (menus : Menus) (old new : InputState) : ℕ → List ℕ → Type 0 where
  request : (bytes : List ℕ) (status : ℕ) (reply : List ℕ) → IsReadWhole MAX_HEAD_BYTES old bytes new → 0 < length bytes
      → IsReply menus bytes status reply → IsReplyToInput menus old new status reply
  no_room : new ≡ old → IsReplyToInput menus old new unavailable.status (printed unavailable false)

-- ---- the exchange

-- what an exchange does to its input and its output, depending on how it ends: the input ended at once, and nothing was written; a whole reply with this status
-- was written; a read failed before the head was complete, and nothing was written; or a write failed after that many bytes from the beginning of a reply, but
-- not all
abbrev pub IsExchange : Menus → InputState → OutputState → Result Served ServeError → InputState → OutputState → Type 0
IsExchange menus old before (Ok Nothing) new after = IsReadWhole MAX_HEAD_BYTES old [] new × (after ≡ before)
IsExchange menus old before (Ok (Replied status)) new after =
    (reply : List ℕ) × IsReplyToInput menus old new status reply × Sends before reply (length reply) after
IsExchange menus old before (Err ReadFault) new after = (bytes : List ℕ) × IsReadInPart MAX_HEAD_BYTES old bytes new × (after ≡ before)
IsExchange menus old before (Err (WriteFault n)) new after =
    (status : ℕ) × (reply : List ℕ) × IsReplyToInput menus old new status reply × (n < length reply) × SendsInPart before (take n reply) n after

-- the whole reply was written, or its first bytes
abbrev pub IsSent : OutputState → ℕ → List ℕ → Result Served ServeError → OutputState → Type 0
IsSent before status reply (Ok Nothing) after = ⊥
IsSent before status reply (Ok (Replied named)) after = (named ≡ status) × Sends before reply (length reply) after
IsSent before status reply (Err ReadFault) after = ⊥
IsSent before status reply (Err (WriteFault n)) after = (n < length reply) × SendsInPart before (take n reply) n after
