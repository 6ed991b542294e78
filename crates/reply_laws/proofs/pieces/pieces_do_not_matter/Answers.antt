use Rattle.reply_laws.proofs.OneEnd.{end_alike, part_of}
use Rattle.reply_laws.proofs.OneReply.{LawsOfRoutes, nothing_sent, one_reply}
use Rattle.reply_laws.proofs.pieces.pieces_do_not_matter.Goals as goal

pub returns-clause-place : goal.returns-clause-place
returns-clause-place c = λ sent bytes others a b. end_alike sent bytes others (part_of sent bytes a) (part_of sent others b)

pub returns-clause-reply : goal.returns-clause-reply
returns-clause-reply c =
    let laws : LawsOfRoutes = record {
      one_route = c.one_route.ensures;
      ignored = c.what_follows_a_head_is_ignored.ensures;
      ends = c.a_head_ends_where_it_is_closed.ensures;
    } in
    one_reply laws

pub returns-clause-something : goal.returns-clause-something
returns-clause-something c = nothing_sent
