-- All that is written to a peer, by rules, tables and the bytes that the peer sends.
use Rattle.std.specs.Prelude.{◌≡◌, ◌<◌, ℕ, false, List, [], Result, Some, Ok, Err, length, take}
use Rattle.http_streams.specs.Streams.{InputState, OutputState}
use Rattle.http_streams.specs.declared.read.TheConstants.{MAX_HEAD_BYTES}
use Rattle.http_exchange.specs.Connections.{Connection, Unread, Exchanged}
use Rattle.http_exchange.specs.Exchange.{IsReply}
use Rattle.http_exchange.specs.Replies.{printed, unavailable}
use Rattle.http_exchange.specs.declared.exchange.Served.{Served}
use Rattle.http_exchange.specs.declared.exchange.Served.TheVariants.{Nothing, Replied}
use Rattle.http_exchange.specs.declared.exchange.ServeError.{ServeError}
use Rattle.http_exchange.specs.declared.exchange.ServeError.TheVariants.{ReadFault, WriteFault}
use Rattle.rule_menus.specs.RuleMenus.{RuleTarget, menu_by_rules}

-- the status and the bytes of a reply: the one for the menu by rules to what the peer sends, of which no more is read than a head may have; or the one for
-- memory that ran out before anything was read
pub data IsReplyByRules (targets : List RuleTarget) (sent : List ℕ) : ℕ → List ℕ → Type 0 where
  to_request : (status : ℕ) (reply : List ℕ) → 0 < length sent → IsReply (menu_by_rules targets) (take MAX_HEAD_BYTES sent) status reply
      → IsReplyByRules targets sent status reply
  no_room : IsReplyByRules targets sent unavailable.status (printed unavailable false)

-- what is written, by how the exchange ended: nothing if the peer sends nothing or a read failed; the whole reply; or its first bytes if a write failed
abbrev pub IsWrittenByRules : List RuleTarget → List ℕ → Result Served ServeError → List ℕ → Type 0
IsWrittenByRules targets sent (Ok Nothing) written = (sent ≡ []) × (written ≡ [])
IsWrittenByRules targets sent (Ok (Replied status)) written = IsReplyByRules targets sent status written
IsWrittenByRules targets sent (Err ReadFault) written = written ≡ []
IsWrittenByRules targets sent (Err (WriteFault n)) written =
    (status : ℕ) × (reply : List ℕ) × IsReplyByRules targets sent status reply × (n < length reply) × (written ≡ take n reply)

-- what is written on a connection, if the bytes that its peer sends and those that are written are known; one that is not read has no exchange
abbrev pub IsWrittenOn : {I O : Type 0} → List RuleTarget → (I → InputState) → (O → OutputState) → Connection I O → Type 0
IsWrittenOn targets input_state output_state Unread = Unit {0}
IsWrittenOn targets input_state output_state (Exchanged input output end input2 output2) =
    (sent written : List ℕ) → (input_state input).left ≡ Some sent → (output_state output2).written ≡ Some written
    → IsWrittenByRules targets sent end written
