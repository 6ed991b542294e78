-- From an exchange to all that is written.
use Rattle.std.proofs.Common.{◌≡◌, ◌≢◌, ◌≤◌, ◌<◌, ◌⊎◌, ℕ, inl, inr, Bool, true, List, [], ◌∷◌, Option, Some, None, length, refl, sym, ap, ◌∙◌, subst, arith}
use Rattle.std.specs.Prelude.{All, Result, Ok, Err, drop, take}
use Rattle.std.proofs.lemmas.Bool.{cases_lt, false≢true}
use Rattle.std.proofs.lemmas.List.Elements.{All-cons, All-nil}
use Rattle.std.proofs.lemmas.List.{drop_all, length-append, length-take, take-append-drop}
use Rattle.std.proofs.lemmas.Option.{same_Some}
use Rattle.kev_read.specs.Pairs.{KeyValue}
use Rattle.menu_source.specs.Menus.{Menus}
use Rattle.http_streams.specs.Closing.{is_closed}
use Rattle.http_streams.specs.Streams.{AreFresh, InputState, IsBlank, OutputState}
use Rattle.http_streams.specs.declared.read.TheConstants.{MAX_HEAD_BYTES}
use Rattle.http_request.specs.Routes.{IsRouted, RouteValue}
use Rattle.http_request.specs.Routes as route
use Rattle.http_exchange.specs.Connections.{AreServed, Connection, Exchanged, IsServed, Unread}
use Rattle.http_exchange.specs.Exchange.{IsExchange, IsReply, IsReplyToInput, front, no_memory, no_room, request}
use Rattle.http_exchange.specs.Replies.{ReplyValue, printed, unavailable}
use Rattle.http_exchange.specs.RouteReplies.{IsReplyTo}
use Rattle.http_exchange.specs.declared.exchange.Served.{Served}
use Rattle.http_exchange.specs.declared.exchange.Served.TheVariants.{Nothing, Replied}
use Rattle.http_exchange.specs.declared.exchange.ServeError.{ServeError}
use Rattle.http_exchange.specs.declared.exchange.ServeError.TheVariants.{ReadFault, WriteFault}
use Rattle.rule_menus.specs.RuleMenus.{RuleTarget, menu_by_rules}
use Rattle.reply_laws.specs.Written as written
use Rattle.reply_laws.specs.Written.{IsReplyByRules, IsWrittenByRules, IsWrittenOn}
use Rattle.reply_laws.proofs.OneEnd.{IsFurther, IsPart, further, is_further, no_further, part_of}
use Rattle.reply_laws.proofs.OneReply.{LawsOfRoutes, all_written, one_value, routed_further}
use Rattle.reply_laws.proofs.ServedFiles.{blank_before}

-- ---- the first bytes that a peer sends

abbrev read_at_most : List ℕ → List ℕ
read_at_most sent = take MAX_HEAD_BYTES sent

-- a reading may end after them
most_read : (sent : List ℕ) → IsPart sent (read_at_most sent)
most_read sent =
    record {
      rest = drop MAX_HEAD_BYTES sent;
      whole = sym (take-append-drop MAX_HEAD_BYTES sent);
      limit = omega (arith, length-take MAX_HEAD_BYTES sent);
      stopped = by_length (cases_lt (length sent) MAX_HEAD_BYTES);
    }
  where
    by_length : (length sent < MAX_HEAD_BYTES) ⊎ (MAX_HEAD_BYTES ≤ length sent)
        → (is_closed (read_at_most sent) ≡ true) ⊎ (length (read_at_most sent) ≡ MAX_HEAD_BYTES) ⊎ (drop MAX_HEAD_BYTES sent ≡ [])
    by_length (inl few) = inr (inr (drop_all MAX_HEAD_BYTES sent (omega (arith, few))))
    by_length (inr many) = inr (inl (omega (arith, many, length-take MAX_HEAD_BYTES sent)))

part_is_short : (sent bytes : List ℕ) → IsPart sent bytes → length bytes ≤ length sent
part_is_short sent bytes part = omega (arith, ap length part.whole ∙ length-append bytes part.rest)

-- ---- replies

-- what the law of the lower crate says
abbrev pub RepliesFollow : Type 0
RepliesFollow = (menus others : Menus) (at : RouteValue) (reply : ReplyValue) → ((pairs : List KeyValue) → menus pairs ≡ others pairs)
    → IsReplyTo menus at reply → IsReplyTo others at reply

module _ (laws : LawsOfRoutes) where
  -- what was read has the route of these bytes
  routed_at_most : (sent bytes : List ℕ) (at : RouteValue) (without_body : Bool) → IsPart sent bytes → IsRouted bytes at without_body
      → IsRouted (read_at_most sent) at without_body
  routed_at_most sent bytes at without_body part routed =
      by_more (is_further sent bytes (read_at_most sent) part (most_read sent)
      (omega (arith, part.limit, part_is_short sent bytes part, length-take MAX_HEAD_BYTES sent)))
    where
      by_more : IsFurther bytes (read_at_most sent) → IsRouted (read_at_most sent) at without_body
      by_more (no_further same) = subst (λ (bytes : List ℕ). IsRouted bytes at without_body) same routed
      by_more (further more is closed) =
          subst (λ (bytes : List ℕ). IsRouted bytes at without_body) (sym is) (routed_further laws bytes more at without_body closed routed)

  module _ (follow : RepliesFollow) (menus others : Menus) (same : (pairs : List KeyValue) → menus pairs ≡ others pairs) where
    reply_at_most : (sent bytes : List ℕ) (status : ℕ) (reply : List ℕ) → IsPart sent bytes → IsReply menus bytes status reply
        → IsReply others (read_at_most sent) status reply
    reply_at_most sent bytes _ _ part (front at without_body value routed replies) =
        front at without_body value (routed_at_most sent bytes at without_body part routed) (follow menus others at value same replies)
    reply_at_most sent bytes _ _ part (no_memory at without_body routed) =
        no_memory at without_body (routed_at_most sent bytes at without_body part routed)

-- ---- one reply, but for the one if an allocation failed

abbrev HasOneRoute : Type 0
HasOneRoute = (bytes : List ℕ) (at other : RouteValue) (without_body other_only : Bool) → IsRouted bytes at without_body → IsRouted bytes other other_only
    → (at ≡ other) × (without_body ≡ other_only)

module _ (one_route : HasOneRoute) where
  decided : (menus : Menus) (bytes : List ℕ) (status other : ℕ) (reply another : List ℕ) → IsReply menus bytes status reply
      → IsReply menus bytes other another → status ≢ unavailable.status → other ≢ unavailable.status
      → (status ≡ other) × (reply ≡ another)
  decided menus bytes _ _ _ _ (no_memory at without_body routed) y a b = absurd (a refl)
  decided menus bytes _ _ _ _ (front at without_body value routed replies) (no_memory at2 without_body2 routed2) a b = absurd (b refl)
  decided menus bytes _ _ _ _ (front at without_body value routed replies) (front at2 without_body2 value2 routed2 replies2) a b =
      let routes = one_route bytes at at2 without_body without_body2 routed routed2 in
      let there : IsReplyTo menus at value2 = subst (λ (at : RouteValue). IsReplyTo menus at value2) (sym routes.0) replies2 in
      let same : value ≡ value2 = one_value menus at value value2 replies there in (
        ap (λ (v : ReplyValue). v.status) same,
        ap (λ (v : ReplyValue). printed v without_body) same ∙ ap (printed value2) routes.1,
      )

  pub one_reply_by_rules : (targets : List RuleTarget) (sent : List ℕ) (status other : ℕ) (reply another : List ℕ) → IsReplyByRules targets sent status reply
      → IsReplyByRules targets sent other another → status ≢ unavailable.status → other ≢ unavailable.status
      → (status ≡ other) × (reply ≡ another)
  one_reply_by_rules targets sent _ _ _ _ written.no_room y a b = absurd (a refl)
  one_reply_by_rules targets sent _ _ _ _ (written.to_request status reply some replies) written.no_room a b = absurd (b refl)
  one_reply_by_rules targets sent _ _ _ _ (written.to_request status reply some replies) (written.to_request other another also others) a b =
      decided (menu_by_rules targets) (read_at_most sent) status other reply another replies others a b

-- ---- what is written

-- nothing, if nothing was written before
none_written : (old new : OutputState) (written : List ℕ) → IsBlank old.written → new ≡ old → new.written ≡ Some written → written ≡ []
none_written old new written blank same is = of_option old.written blank (sym (ap (λ (o : OutputState). o.written) same) ∙ is)
  where
    of_option : (known : Option (List ℕ)) → IsBlank known → known ≡ Some written → written ≡ []
    of_option None blank is = absurd (cc)
    of_option (Some bytes) blank is = sym (same_Some bytes written is) ∙ blank

module _ (laws : LawsOfRoutes) (follow : RepliesFollow) (targets : List RuleTarget) (menus : Menus)
    (same : (pairs : List KeyValue) → menus pairs ≡ menu_by_rules targets pairs) where
  reply_by_rules : (sent : List ℕ) (first last : InputState) (status : ℕ) (reply : List ℕ) → first.left ≡ Some sent
      → IsReplyToInput menus first last status reply
      → IsReplyByRules targets sent status reply
  reply_by_rules sent first last _ _ peer (request bytes status reply read some replies) =
      let part = part_of sent bytes (record { first = first; last = last; peer = peer; read = read }) in
      written.to_request status reply (omega (arith, some, part_is_short sent bytes part))
      (reply_at_most laws follow menus (menu_by_rules targets) same sent bytes status reply part replies)
  reply_by_rules sent first last _ _ peer (no_room unread) = written.no_room

  pub all_by_rules : (wait : ℕ) (first last : InputState) (before after : OutputState) (end : Result Served ServeError) (sent bytes : List ℕ)
      → AreFresh wait first before → IsExchange menus first before end last after → first.left ≡ Some sent → after.written ≡ Some bytes
      → IsWrittenByRules targets sent end bytes
  all_by_rules wait first last before after (Ok Nothing) sent bytes fresh exchange peer is =
      let part = part_of sent [] (record { first = first; last = last; peer = peer; read = exchange.0 }) in (
        part.whole ∙ at_end part.rest part.stopped,
        none_written before after bytes fresh.nothing_written exchange.1 is,
      )
    where
      at_end : (rest : List ℕ) → (is_closed [] ≡ true) ⊎ (0 ≡ MAX_HEAD_BYTES) ⊎ (rest ≡ []) → rest ≡ []
      at_end rest (inl closed) = absurd (false≢true closed)
      at_end rest (inr (inl full)) = absurd (omega (arith, full))
      at_end rest (inr (inr ended)) = ended
  all_by_rules wait first last before after (Ok (Replied status)) sent bytes fresh exchange peer is =
      let blank = blank_before before.written after.written exchange.0 bytes fresh.nothing_written exchange.2.written is in
      subst (IsReplyByRules targets sent status) (all_written before.written after.written exchange.0 bytes blank is exchange.2.written)
      (reply_by_rules sent first last status exchange.0 peer exchange.1)
  all_by_rules wait first last before after (Err ReadFault) sent bytes fresh exchange peer is =
      none_written before after bytes fresh.nothing_written exchange.2 is
  all_by_rules wait first last before after (Err (WriteFault n)) sent bytes fresh exchange peer is =
      let sends = exchange.4 in
      let at_fault : sends.before.written ≡ Some bytes = sym (ap (λ (o : OutputState). o.written) sends.failed) ∙ is in
      let blank = blank_before before.written sends.before.written (take n exchange.1) bytes fresh.nothing_written sends.output_state.written at_fault in (
        exchange.0,
        exchange.1,
        reply_by_rules sent first last exchange.0 exchange.1 peer exchange.2,
        exchange.3,
        sym (all_written before.written sends.before.written (take n exchange.1) bytes blank at_fault sends.output_state.written),
      )

-- ---- connections

-- what holds of each exchange holds of each connection that is served
module _ {L I O : Type 0} (targets : List RuleTarget) (menus : Menus) (gives : L → Option (I × O) → L → Type 0) (closes : L → I × O → L → Type 0)
    (input_state : I → InputState) (output_state : O → OutputState) (wait : ℕ)
    (exchanged : (first last : InputState) (before after : OutputState) (end : Result Served ServeError) (sent bytes : List ℕ) → AreFresh wait first before
    → IsExchange menus first before end last after → first.left ≡ Some sent → after.written ≡ Some bytes → IsWrittenByRules targets sent end bytes) where
  one_connection : (c : Connection I O) → IsServed menus input_state output_state wait c → IsWrittenOn targets input_state output_state c
  one_connection Unread h = tt
  one_connection (Exchanged input output end input2 output2) h =
      λ sent bytes. exchanged (input_state input) (input_state input2) (output_state output) (output_state output2) end sent bytes h.0 h.1

  pub each_connection : (old new : L) (all : List (Connection I O)) → AreServed menus gives closes input_state output_state wait old all new
      → All (IsWrittenOn targets input_state output_state) all
  each_connection old new [] h = All-nil (IsWrittenOn targets input_state output_state)
  each_connection old new (c ∷ cs) h =
      All-cons (IsWrittenOn targets input_state output_state) c cs (one_connection c h.2) (each_connection h.0 new cs h.3)
