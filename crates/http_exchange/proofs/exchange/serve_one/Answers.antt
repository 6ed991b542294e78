use Rattle.std.proofs.Common.{◌∙◌, ◌<◌, Err, false, length, ap, arith}
use Rattle.std.proofs.lemmas.Bool.Decides.{nat_tests}
use Rattle.http_exchange.specs.Replies.{unavailable}
use Rattle.http_exchange.proofs.Sent.{exchange-by_sent, head-body, reply-no_room, reply-request}
use Rattle.http_exchange.proofs.exchange.serve_one.Goals as goal

pub returns-in-Ok-2-clause-exchange : goal.returns-in-Ok-2-clause-exchange
returns-in-Ok-2-clause-exchange g c =
    let some : 0 < length c.in-Ok.bytes.items = grind (arith, nat_tests) in
    let answered = c.answer.ensures in
    let reply = reply-request _ _ _ _ _ _ _ c.in-Ok.ensures.whole some (c.deref.ensures.value) answered.2 in
    exchange-by_sent _ _ _ _ _ _ _ _ reply answered.3

pub returns-in-Err-NoMemory-clause-exchange : goal.returns-in-Err-NoMemory-clause-exchange
returns-in-Err-NoMemory-clause-exchange g c =
    let unread = c.read_head.ensures.no_memory (c.in-Err-NoMemory.is ∙ ap Err c.in-Err-NoMemory.field-0-is) in
    let whole = head-body unavailable false _ _ c.unavailable_head.ensures.bytes c.unavailable_body.ensures in
    exchange-by_sent _ _ _ _ _ _ _ _ (reply-no_room _ _ _ _ unread whole) c.send.ensures
