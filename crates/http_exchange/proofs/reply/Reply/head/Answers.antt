use Rattle.std.proofs.Common.{refl}
use Rattle.http_exchange.proofs.Pieces.{piece_more}
use Rattle.http_exchange.proofs.reply.Reply.head.Goals as goal

pub returns : goal.returns
returns c =
    piece_more _ _ _ _ _ c.in_ok-push_str-4.ensures.bytes refl
    (piece_more _ _ _ _ _ c.in_ok-push_str-3.ensures.bytes c.allow_line.ensures
    (piece_more _ _ _ _ _ c.in_ok-push_str-2.ensures.bytes refl
    (piece_more _ _ _ _ _ c.in_ok-push_length_line.ensures refl
    (piece_more _ _ _ _ _ c.in_ok-push_str.ensures.bytes c.type_line.ensures
    (piece_more _ _ _ _ _ c.in_ok-push_status_line.ensures refl c.new-text.ensures.bytes)))))
