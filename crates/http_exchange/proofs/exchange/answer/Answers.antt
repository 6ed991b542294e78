use Rattle.std.proofs.Common.{◌∙◌}
use Rattle.http_exchange.specs.Replies.{unavailable}
use Rattle.http_exchange.proofs.Sent.{head-body, reply-front, reply-no_memory}
use Rattle.http_exchange.proofs.exchange.answer.Goals as goal

pub returns-in-Ok : goal.returns-in-Ok
returns-in-Ok g c =
    let made = c.in-Ok.ensures in
    let whole = head-body _ _ _ _ (c.as_bytes.ensures.value ∙ made.head) (c.as_bytes-in-Ok.ensures.value ∙ c.sent_body-body.ensures) in
    (_, _, reply-front _ _ _ _ _ _ _ c.read_request-request.ensures.route made.reply c.status.ensures whole, c.send.ensures)

pub returns-in-Err : goal.returns-in-Err
returns-in-Err g c =
    let without_body = c.read_request-request.result.without_body in
    let whole = head-body unavailable without_body _ _ c.unavailable_head.ensures.bytes c.unavailable_body-body.ensures in
    (_, _, reply-no_memory _ _ _ _ _ c.read_request-request.ensures.route whole, c.send-in-Err.ensures)
