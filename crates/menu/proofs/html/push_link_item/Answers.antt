use Rattle.std.proofs.Common.{string_bytes}
use Rattle.std.proofs.lemmas.Result.{on_ok_weaker}
use Rattle.menu.proofs.Pieces.{three_pieces}
use Rattle.menu.proofs.html.push_link_item.Goals as goal

pub returns : goal.returns
returns c =
    on_ok_weaker c.write.result
    (three_pieces (string_bytes c.args.out.now) _ _ _ _ _ _ c.in_ok-push_str.ensures.bytes c.in_ok-push_escaped.ensures) c.write.ensures.bytes
